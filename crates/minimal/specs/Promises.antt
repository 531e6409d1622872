-- Statements about minimal machines, each proved on the contract of a function. Assumes nothing.
use Rattle.std.specs.Prelude.{◌≡◌, ℕ, ◌+◌, ◌<◌, ◌≤◌, length}
use Rattle.machine.specs.Machine.{Machine, Word, Keys, Proper, Minimal, Equivalent, EquivalentStates, move, outputs}
use Rattle.minimal.specs.Minimal.{MinimalMachine}

-- for every machine there is an equivalent minimal one with no more states
abbrev pub MinimalExists : Type 0
MinimalExists = (k : ℕ) (m : Machine) → Proper k m → (l : Machine) × MinimalMachine k m l × (length l ≤ length m)

-- a renaming of the states of m to those of i, one to one, that keeps the beginning, the moves and the outputs
pub record Renaming (k : ℕ) (m i : Machine) (f : ℕ → ℕ) : Type 0 where
  pub begins : f 0 ≡ 0
  pub inside : (s : ℕ) → s < length m → f s < length i
  pub one_to_one : (s t : ℕ) → s < length m → t < length m → f s ≡ f t → s ≡ t
  pub onto : (t : ℕ) → t < length i → (s : ℕ) × (s < length m) × (f s ≡ t)
  pub moves : (s x : ℕ) → s < length m → x < k → (move i (f s) x).to ≡ f (move m s x).to
  pub shows : (s x : ℕ) → s < length m → x < k → (move i (f s) x).output ≡ (move m s x).output

-- two minimal machines that are equivalent are one but for the numbers of their states
abbrev pub MinimalUnique : Type 0
MinimalUnique =
    (k : ℕ) (m i : Machine) → Proper k m → Proper k i → Minimal k m → Minimal k i → Equivalent k m i →
    (length m ≡ length i) × ((f : ℕ → ℕ) × Renaming k m i f)

-- numbered by first words, they are one
abbrev pub MinimalNumberedUnique : Type 0
MinimalNumberedUnique = (k : ℕ) (m l i : Machine) → MinimalMachine k m l → MinimalMachine k m i → l ≡ i

-- two machines that show the same on every word with fewer keys than they have states together are equivalent
abbrev pub ShortDifference : Type 0
ShortDifference =
    (k : ℕ) (m i : Machine) → Proper k m → Proper k i →
    ((w : Word) → Keys k w → length w < length m + length i → outputs m 0 w ≡ outputs i 0 w) → Equivalent k m i

-- two states that show the same on every word with fewer keys than there are states are equivalent
abbrev pub ShortSeparation : Type 0
ShortSeparation =
    (k : ℕ) (m : Machine) (s t : ℕ) → Proper k m → s < length m → t < length m →
    ((w : Word) → Keys k w → length w < length m → outputs m s w ≡ outputs m t w) → EquivalentStates k m s t
