use Rattle.std.proofs.Common.{◌≡◌, ℕ, suc, ◌<◌, false, ◌||◌, get_or, take}
use Rattle.std.specs.List.{list_any}
use Rattle.cover.specs.Words.{words_of}
use Rattle.suite.specs.Enumeration.{within, marks}
use Rattle.suite.proofs.values.Against.marks_behind.Given as goal

abbrev pub invariant-loop-word : goal.invariant-loop-word
invariant-loop-word l =
    (m : ℕ) → m < 36 → get_or l.marks m false ≡ (within l.self.own l.self.between m || list_any (marks (suc l.self.extra) l.front m) (take l.word-index (words_of l.self.earlier.now)))
