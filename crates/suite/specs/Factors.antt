-- What the tests are made of, and which tests. Assumes nothing: these are definitions.
use Rattle.std.specs.Prelude.{List}
use Rattle.cover.specs.Words.{words_of}
use Rattle.machine.specs.Machine.{Word}
use Rattle.suite.specs.declared.factors.Factors.{Factors}
use Rattle.suite.specs.Kept.{kept}

-- the words in front
abbrev pub fronts_in : Factors → List Word
fronts_in f = words_of f.fronts.now

-- the words to end with
abbrev pub ends_in : Factors → List Word
ends_in f = words_of f.ends.now

-- the tests made of them, each once
abbrev pub made_of : Factors → List Word
made_of f = kept f.keys f.extra (fronts_in f) (ends_in f)
