-- What the minimal machine of a machine is. Assumes nothing: these are definitions.
use Rattle.std.specs.Prelude.{◌≡◌, ℕ, ◌<◌, ◌≤◌, ◌⊎◌, length, ◌≢◌}
use Rattle.machine.specs.Machine.{Machine, Word, Keys, Proper, Minimal, Equivalent, EquivalentStates, after}
use Rattle.machine.specs.Words.{Before}

-- a state that cannot be reached, or is equivalent to a smaller one
abbrev pub Redundant : ℕ → Machine → ℕ → Type 0
Redundant k m s = ((w : Word) → Keys k w → after m 0 w ≢ s) ⊎ ((t : ℕ) × (t < s) × EquivalentStates k m t s)

-- the smallest such state
pub record FirstRedundant (k : ℕ) (m : Machine) (s : ℕ) : Type 0 where
  pub inside : s < length m
  pub redundant : Redundant k m s
  pub smallest : (t : ℕ) → t < s → Redundant k m t → ⊥

-- no state is redundant: another way to say that a machine is minimal
abbrev pub NoneRedundant : ℕ → Machine → Type 0
NoneRedundant k m = (s : ℕ) → s < length m → Redundant k m s → ⊥

-- the states are numbered in the order in which words in order first reach them:
-- whatever word reaches t, an earlier word reaches s, for every s below t
abbrev pub Numbered : ℕ → Machine → Type 0
Numbered k m =
    (s t : ℕ) → s < t → t < length m → (w : Word) → Keys k w → after m 0 w ≡ t → (v : Word) × Keys k v × Before v w × (after m 0 v ≡ s)

-- l is the minimal machine of m
pub record MinimalMachine (k : ℕ) (m l : Machine) : Type 0 where
  pub proper : Proper k l
  pub minimal : Minimal k l
  pub equivalent : Equivalent k m l
  pub numbered : Numbered k l
  pub fewest : (i : Machine) → Proper k i → Equivalent k m i → length l ≤ length i
