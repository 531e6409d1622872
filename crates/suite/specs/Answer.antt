-- For which machines there are tests, and what the call that writes them answers and leaves behind. Assumes nothing: these are definitions.
use Rattle.std.specs.Prelude.{◌≡◌, ℕ, ◌+◌, ◌^◌, ◌<◌, ◌≤◌, min, ◌⊎◌, List, ◌++◌, length, drop, Some, None, Ok, Err, Result}
use Rattle.machine.specs.declared.refusals.Refusal.{Refusal}
use Rattle.machine.specs.Machine.{Machine, Word, Proper, Minimal, Equivalent}
use Rattle.machine.specs.Refusals.{Reason, reason, reason_of, row_refusal}
use Rattle.machine.specs.Row.{keys_in, machine_in}
use Rattle.machine.specs.Run.{model, keys_of}
use Rattle.minimal.specs.Minimal.{FirstRedundant}
use Rattle.suite.specs.declared.specification.Specification.{Specification}
use Rattle.suite.specs.Suite.{tests, Passes}
use Rattle.suite.specs.Written.{room_for, tests_row, words_in}

-- the row holds a minimal machine, and there are at most three extra states
pub record Testable (row : List ℕ) (e : ℕ) : Type 0 where
  pub accepted : row_refusal row ≡ None
  pub minimal : Minimal (keys_in row) (machine_in row)
  pub few_extra : e ≤ 3

-- why there are no tests: the first of these that applies
pub data Untestable (row : List ℕ) (e : ℕ) (r : Reason) : Type 0 where
  no_machine : row_refusal row ≡ Some r → Untestable row e r
  not_minimal : row_refusal row ≡ None → (s : ℕ) → FirstRedundant (keys_in row) (machine_in row) s → r ≡ reason 3 s → Untestable row e r
  too_many_extra : row_refusal row ≡ None → Minimal (keys_in row) (machine_in row) → 3 < e → r ≡ reason 4 e → Untestable row e r

-- what was found is the machine in the row, with that many extra states
pub record Specifies (row : List ℕ) (e : ℕ) (s : Specification) : Type 0 where
  pub machine : model s.machine.machine ≡ machine_in row
  pub keys : keys_of s.machine.machine ≡ keys_in row
  pub extra : s.extra ≡ e

-- whether there are tests
abbrev pub Prepared : List ℕ → ℕ → Result Specification Refusal → Type 0
Prepared row e (Ok s) = Testable row e × Specifies row e s
Prepared row e (Err f) = Untestable row e (reason_of f)

-- the tests for the machine in a row
abbrev pub made : List ℕ → ℕ → List Word
made row e = tests (keys_in row) e (machine_in row)

-- what follows for a machine m with k keys from passing the tests ts for e extra states
pub record Follows (k e : ℕ) (m : Machine) (ts : List Word) : Type 0 where
  -- whatever has at most e states more and passes shows what m shows on every word of keys, however long
  pub passing : (i : Machine) → Proper k i → length i ≤ length m + e → Passes m i ts → Equivalent k m i
  -- whatever is equivalent passes, however many states it has
  pub equivalent : (i : Machine) → Equivalent k m i → Passes m i ts

-- n tests were written over the front of a row
pub record WroteTests (row : List ℕ) (e : ℕ) (before : List ℕ) (n : ℕ) (after : List ℕ) : Type 0 where
  pub testable : Testable row e
  pub fits : 1 + room_for (made row e) ≤ length before
  pub count : n ≡ length (made row e)
  pub row_is : after ≡ tests_row (made row e) ++ drop (1 + room_for (made row e)) before
  -- the words that stand in the row are the tests, and what follows from passing them
  pub reads_back : words_in n after 1 ≡ made row e
  pub follows : Follows (keys_in row) e (machine_in row) (words_in n after 1)

-- there is no room for the tests
pub record Crowded (row : List ℕ) (e : ℕ) (before : List ℕ) (f : Refusal) : Type 0 where
  pub testable : Testable row e
  pub lacks : length before < 1 + room_for (made row e)
  pub reason_is : reason_of f ≡ reason 5 (min (1 + room_for (made row e)) (2 ^ 32))

-- the answer: how many tests were written, or why none was, and nothing was written
abbrev pub TestsAnswered : List ℕ → ℕ → List ℕ → Result ℕ Refusal → List ℕ → Type 0
TestsAnswered row e before (Ok n) after = WroteTests row e before n after
TestsAnswered row e before (Err f) after = (Untestable row e (reason_of f) ⊎ Crowded row e before f) × (after ≡ before)
