-- The tests for a specification, and the cover that they are made of. Assumes nothing: these are definitions.
use Rattle.std.specs.Prelude.{◌≡◌, List}
use Rattle.cover.specs.Cover.{access_words, separating_words}
use Rattle.cover.specs.Covered.{access_of, separating_of}
use Rattle.cover.specs.declared.cover.Cover.{Cover}
use Rattle.machine.specs.Machine.{Word}
use Rattle.machine.specs.Run.{model, keys_of}
use Rattle.suite.specs.Suite.{tests}
use Rattle.suite.specs.declared.specification.Specification.{Specification}

-- those for its machine and as many extra states as it allows
abbrev pub tests_for : Specification → List Word
tests_for s = tests (keys_of s.machine.machine) s.extra (model s.machine.machine)

-- the words that cover its machine
pub record CoverOf (s : Specification) (c : Cover) : Type 0 where
  pub access : access_of c ≡ access_words (keys_of s.machine.machine) (model s.machine.machine)
  pub separating : separating_of c ≡ separating_words (keys_of s.machine.machine) (model s.machine.machine)
