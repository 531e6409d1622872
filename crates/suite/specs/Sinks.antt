-- What taking a test makes of a sink that counts and of one that writes. Assumes nothing: these are definitions.
use Rattle.std.specs.Prelude.{◌≡◌, ℕ, suc, ◌+◌, ◌^◌, ◌≤◌, min, ◌++◌, length, take, drop}
use Rattle.machine.specs.Machine.{Word}
use Rattle.suite.specs.declared.sinks.Tally.{Tally}
use Rattle.suite.specs.declared.sinks.Writer.{Writer}
use Rattle.suite.specs.Written.{word_out}

-- the sum, but not more than 2^62
abbrev pub capped : ℕ → ℕ → ℕ
capped a b = min (a + b) (2 ^ 62)

-- one test more, and as many numbers as it takes
pub record Tallied (s : Tally) (w : Word) (t : Tally) : Type 0 where
  pub tests : t.tests ≡ capped s.tests 1
  pub numbers : t.numbers ≡ capped s.numbers (suc (length w))

-- the test is written, if there is room for it
pub record Wrote (s : Writer) (w : Word) (t : Writer) : Type 0 where
  pub same : t.row.ghost_name ≡ s.row.ghost_name
  pub long : length t.row.now ≡ length s.row.now
  pub at : s.at + suc (length w) ≤ length s.row.now → t.at ≡ s.at + suc (length w)
  pub row : s.at + suc (length w) ≤ length s.row.now → t.row.now ≡ take s.at s.row.now ++ (word_out w ++ drop (s.at + suc (length w)) s.row.now)
