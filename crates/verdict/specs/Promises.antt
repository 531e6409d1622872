-- What a verdict means: statements, each proved on the contract of a function. Assumes nothing.
use Rattle.std.specs.Prelude.{◌≡◌, ℕ, ◌+◌, ◌≤◌, List, ◌++◌, length}
use Rattle.std.specs.List.{ContainsAt as Has, AllByRecursion}
use Rattle.machine.specs.Machine.{Machine, Word, Proper, Equivalent}
use Rattle.suite.specs.Suite.{tests, Passes}
use Rattle.verdict.specs.declared.verdicts.Verdict.{Verdict}
use Rattle.verdict.specs.declared.verdicts.Verdict.TheVariants.{Passed}
use Rattle.verdict.specs.Verdict.{shown_by}

-- what the verdict says of a machine that shows on the tests what was shown
pub record Means (k e : ℕ) (m : Machine) (shown : List ℕ) (v : Verdict) : Type 0 where
  -- passed, with at most e states more: it is equivalent, over every word of keys
  pub passed : (i : Machine) → Proper k i → length i ≤ length m + e → shown ≡ shown_by i (tests k e m) → v ≡ Passed → Equivalent k m i
  -- equivalent, however many states it has: it passed
  pub equivalent : (i : Machine) → shown ≡ shown_by i (tests k e m) → Equivalent k m i → v ≡ Passed

-- v begins with w
abbrev pub Begins : Word → Word → Type 0
Begins w v = (u : Word) × (v ≡ w ++ u)

-- whoever passes tests passes their beginnings
abbrev pub BeginningsPass : Type 0
BeginningsPass =
    (m i : Machine) (ws vs : List Word) → AllByRecursion (λ w. (v : Word) × Has vs v × Begins w v) ws → Passes m i vs → Passes m i ws
