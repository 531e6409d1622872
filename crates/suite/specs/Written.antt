-- Tests in a row of numbers: how many, and for each how many keys and the keys. Assumes nothing: these are definitions.
use Rattle.std.specs.Prelude.{◌≡◌, ℕ, zero, suc, ◌+◌, ◌^◌, ◌<◌, ◌≤◌, min, List, [], ◌∷◌, ◌++◌, length, take, drop, Ok, Err, Result}
use Rattle.std.specs.List.{AllByRecursion}
use Rattle.machine.specs.declared.refusals.Refusal.{Refusal}
use Rattle.machine.specs.declared.refusals.Refusal.TheVariants.{NoRoomForTests}
use Rattle.machine.specs.Machine.{Word, Keys}
use Rattle.machine.specs.Row.{word_in}
use Rattle.suite.specs.Kept.{Different}

-- words of which tests are made: at most 16 that reach, of fewer than 16 keys, and some that tell apart, each once
pub record MakesTests (k e : ℕ) (qs ws : List Word) : Type 0 where
  pub few_keys : k ≤ 8
  pub few_extra : e ≤ 3
  pub few : length qs ≤ 16
  pub short : AllByRecursion (λ w. length w < 16) qs
  pub reach_keys : AllByRecursion (Keys k) qs
  pub end_keys : AllByRecursion (Keys k) ws
  pub different : Different ws

-- a word with its length in front
abbrev pub word_out : Word → List ℕ
word_out w = length w ∷ w

-- words one behind the other
unfoldable pub words_out : List Word → List ℕ
words_out [] = []
words_out (w ∷ ws) = word_out w ++ words_out ws

-- how many numbers words take
unfoldable pub room_for : List Word → ℕ
room_for [] = 0
room_for (w ∷ ws) = suc (length w) + room_for ws

-- the row of some tests
abbrev pub tests_row : List Word → List ℕ
tests_row ts = length ts ∷ words_out ts

-- where in the row of some tests the one of that number stands
abbrev pub test_place : List Word → ℕ → ℕ
test_place ts i = 1 + room_for (take i ts)

-- reading so many words that stand one behind the other in a row, from a place on
unfoldable pub words_in : ℕ → List ℕ → ℕ → List Word
words_in zero row at = []
words_in (suc n) row at = word_in row at ∷ words_in n row (at + suc (length (word_in row at)))

-- the tests were written to the front of a row and the rest of it is as it was, or there is no room for them and the row is as it was
abbrev pub TestsWritten : List Word → List ℕ → Result ℕ Refusal → List ℕ → Type 0
TestsWritten ts before (Ok n) after = (1 + room_for ts ≤ length before) × (n ≡ length ts) × (after ≡ tests_row ts ++ drop (1 + room_for ts) before)
TestsWritten ts before (Err f) after = (length before < 1 + room_for ts) × (f ≡ NoRoomForTests (min (1 + room_for ts) (2 ^ 32))) × (after ≡ before)
