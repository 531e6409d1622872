-- The tests of a machine in a row of their own. Assumes nothing: these are definitions.
use Rattle.std.specs.Prelude.{◌≡◌, ℕ, ◌⊎◌, List, Ok, Err, vec_items, Result, Vec}
use Rattle.std.specs.declared.alloc.Global.{Global}
use Rattle.machine.specs.Refusals.{reason_of}
use Rattle.suite.specs.Answer.{Testable, Untestable, made}
use Rattle.suite.specs.Written.{tests_row}
use Rattle.formats.specs.declared.failures.Failure.{Failure}
use Rattle.formats.specs.declared.failures.Failure.TheVariants.{Refused, OutOfMemory}

-- the row has the tests and nothing else; or why there are none, or too many to be counted in 32 bits; nothing is said where memory runs out
abbrev pub TestsMade : List ℕ → ℕ → Result (Vec ℕ Global) Failure → Type 0
TestsMade row e (Ok v) = vec_items v ≡ tests_row (made row e)
TestsMade row e (Err (Refused f)) = Untestable row e (reason_of f) ⊎ (Testable row e × ((reason_of f).number ≡ 5))
TestsMade row e (Err OutOfMemory) = Unit {0}
