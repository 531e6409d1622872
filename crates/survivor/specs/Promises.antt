-- What a survivor shows: statements, each proved on the contract of a function. Assumes nothing.
use Rattle.std.specs.Prelude.{◌≡◌, ℕ, ◌<◌, ◌≤◌, List, length, ◌≢◌}
use Rattle.std.specs.List.{AllByRecursion}
use Rattle.machine.specs.Machine.{Machine, Word, Keys, Proper, Equivalent, outputs}

-- machine i shows what m shows on every word of at most so many keys, and differs from it on some word of keys
pub record Survives (k : ℕ) (m : Machine) (longest : ℕ) (i : Machine) : Type 0 where
  pub proper : Proper k i
  pub same : (w : Word) → length w ≤ longest → outputs m 0 w ≡ outputs i 0 w
  pub differs : (w : Word) × Keys k w × (outputs m 0 w ≢ outputs i 0 w)

-- for any machine with a key and any tests whatever there is a machine that passes them and is not equivalent
abbrev pub NoTestsSuffice : Type 0
NoTestsSuffice =
    (k : ℕ) (m : Machine) (tests : List Word) → Proper k m → 0 < k →
    (i : Machine) × Proper k i × AllByRecursion (λ w. outputs m 0 w ≡ outputs i 0 w) tests × (Equivalent k m i → ⊥)
