-- Classes of states, and the machine that has a state for each class found. Assumes nothing: these are definitions.
use Rattle.std.specs.Prelude.{◌≡◌, ℕ, ◌<◌, ◌≤◌, map, length, nat_eq}
use Rattle.std.specs.List.{range_with_len}
use Rattle.machine.specs.First.{first}
use Rattle.machine.specs.Machine.{Machine, Move, Word, EquivalentStates, move, after}
use Rattle.minimal.specs.Levels.{number_or}

-- classes that moves respect: each state has a class, which is a state, and moves from it as its class does
pub record Congruence (k : ℕ) (m : Machine) (class : ℕ → ℕ) : Type 0 where
  pub inside : (s : ℕ) → s < length m → class s < length m
  pub moves : (s x : ℕ) → s < length m → x < k → class (move m (class s) x).to ≡ class (move m s x).to

-- the classes of equivalent states, each known by its smallest state
pub record Equivalence (k : ℕ) (m : Machine) (class : ℕ → ℕ) : Type 0 where
  pub most : (s : ℕ) → s < length m → class s ≤ s
  pub equivalent : (s : ℕ) → s < length m → EquivalentStates k m (class s) s
  pub smallest : (s t : ℕ) → s < length m → t < length m → EquivalentStates k m t s → class s ≤ t

-- the class of the state after a word
abbrev pub class_after : (ℕ → ℕ) → Machine → Word → ℕ
class_after class m w = class (after m 0 w)

-- where c first stands among the first n values of f; n if it is not there
unfoldable pub place : (ℕ → ℕ) → ℕ → ℕ → ℕ
place f n c = number_or n (first (λ j. nat_eq (f j) c) n)

-- what key x does in state j of the machine made of n classes
abbrev pub quotient_move : Machine → (ℕ → ℕ) → (ℕ → ℕ) → ℕ → ℕ → ℕ → Move
quotient_move m class entry n j x = record { to = place entry n (class (move m (entry j) x).to); output = (move m (entry j) x).output }

-- the machine with a state for each of n classes
unfoldable pub quotient : ℕ → Machine → (ℕ → ℕ) → (ℕ → ℕ) → ℕ → Machine
quotient k m class entry n = map (λ j. map (quotient_move m class entry n j) (range_with_len 0 k)) (range_with_len 0 n)
