-- The worked example: the tests of the pump, and what they find of each board. Assumes nothing: these are definitions.
use Rattle.std.specs.Prelude.{◌≡◌, ℕ, suc, cond, List, [], ◌∷◌, map}
use Prim.Native.String.{String}
use Rattle.std.specs.List.{AllByRecursion}
use Rattle.machine.specs.Machine.{Machine, Word, Proper, Minimal}
use Rattle.machine.specs.Words.{same}
use Rattle.cover.specs.Cover.{access_words, separating_words}
use Rattle.suite.specs.Suite.{tests}
use Rattle.verdict.specs.declared.verdicts.Verdict.{Verdict}
use Rattle.verdict.specs.declared.verdicts.Verdict.TheVariants.{Passed, Failed}
use Rattle.verdict.specs.Verdict.{verdict_of, shown_by}
use Rattle.milk_pump.specs.Boards.{word, pump, board_a, board_b, board_c, board_d}

-- the tests for no extra state, and for one
abbrev pub tests_0 : List Word
tests_0 = map word ("1" ∷ "01" ∷ "001" ∷ "11" ∷ "011" ∷ "0001" ∷ "0011" ∷ [])

-- those for one
abbrev pub tests_1 : List Word
tests_1 =
    map word
    ("1" ∷ "01" ∷ "11" ∷ "001" ∷ "011" ∷ "0001" ∷ "0011" ∷ "101" ∷ "111" ∷ "0101" ∷ "0111" ∷ "00001" ∷ "00011" ∷ "00101" ∷ "00111" ∷ [])

-- the place of a word among words; their number if it is not there
unfoldable pub place : Word → List Word → ℕ
place w [] = 0
place w (v ∷ vs) = cond (same w v) 0 (suc (place w vs))

-- a board, the number of extra states, the tests for them, and the verdict
pub record Entry : Type 0 where
  pub board : Machine
  pub extra : ℕ
  pub tests : List Word
  pub verdict : Verdict

-- an entry for a board that passes
abbrev pub passes : Machine → ℕ → List Word → Entry
passes b e ts = record { board = b; extra = e; tests = ts; verdict = Passed }

-- at which test, at which key, what the board shows there, and what the pump shows
abbrev pub fails : Machine → ℕ → List Word → String → ℕ → ℕ → ℕ → Entry
fails b e ts test key shown expected = record { board = b; extra = e; tests = ts; verdict = Failed (place (word test) ts) key shown expected }

-- the table: each board, with the tests for no extra state and with those for one
abbrev pub example : List Entry
example =
    passes pump 0 tests_0 ∷
    passes pump 1 tests_1 ∷
    passes board_a 0 tests_0 ∷
    passes board_a 1 tests_1 ∷
    fails board_b 0 tests_0 "0001" 3 1 2 ∷
    fails board_b 1 tests_1 "0001" 3 1 2 ∷
    fails board_c 0 tests_0 "0011" 3 1 0 ∷
    fails board_c 1 tests_1 "0011" 3 1 0 ∷
    passes board_d 0 tests_0 ∷
    fails board_d 1 tests_1 "0101" 3 0 1 ∷ []

-- the rule: the tests are those of the entry, and so is the verdict on what the board shows on them
pub record Right (x : Entry) : Type 0 where
  pub made : tests 2 x.extra pump ≡ x.tests
  pub judged : verdict_of pump (tests 2 x.extra pump) (shown_by x.board (tests 2 x.extra pump)) ≡ x.verdict

-- the pump is a minimal machine, these are its words, and each entry of the table is right
pub record WorkedExample : Type 0 where
  pub proper : Proper 2 pump
  pub minimal : Minimal 2 pump
  pub access : access_words 2 pump ≡ map word ("" ∷ "0" ∷ "00" ∷ [])
  pub separating : separating_words 2 pump ≡ map word ("1" ∷ [])
  pub entries : AllByRecursion Right example
