-- Machines with keys and outputs, and what they do with words of keys. Assumes nothing: these are definitions.
use Rattle.std.specs.Prelude.{◌≡◌, ℕ, ◌<◌, List, [], ◌∷◌, length, slice_index_or}
use Rattle.std.specs.List.{AllByRecursion}

-- what a key does in a state: the state that it leads to, and the output
pub record Move : Type 0 where
  pub to : ℕ
  pub output : ℕ

-- the move of a state or a key that is not there
abbrev pub no_move : Move
no_move = record { to = 0; output = 0 }

-- for each state, for each key, a move; the machine begins in state 0
abbrev pub Machine : Type 0
Machine = List (List Move)

-- keys, one behind the other
abbrev pub Word : Type 0
Word = List ℕ

-- what key x does in state s
unfoldable pub move : Machine → ℕ → ℕ → Move
move m s x = slice_index_or (slice_index_or m s []) x no_move

-- what the machine shows for a word, begun in a state
unfoldable pub outputs : Machine → ℕ → Word → List ℕ
outputs m s [] = []
outputs m s (x ∷ w) = (move m s x).output ∷ outputs m (move m s x).to w

-- the state after a word, begun in a state
unfoldable pub after : Machine → ℕ → Word → ℕ
after m s [] = s
after m s (x ∷ w) = after m (move m s x).to w

-- there is a state, every state has a move for each of k keys, and no move leaves the machine
pub record Proper (k : ℕ) (m : Machine) : Type 0 where
  pub some : 0 < length m
  pub full : (s : ℕ) → s < length m → length (slice_index_or m s []) ≡ k
  pub closed : (s x : ℕ) → s < length m → x < k → (move m s x).to < length m

-- a word of keys that are there
abbrev pub Keys : ℕ → Word → Type 0
Keys k w = AllByRecursion (λ x. x < k) w

-- machine m begun in s shows what machine i begun in t shows, for every word of keys, however long
abbrev pub SameOutputs : ℕ → Machine → ℕ → Machine → ℕ → Type 0
SameOutputs k m s i t = (w : Word) → Keys k w → outputs m s w ≡ outputs i t w

-- begun in state 0, the two machines show the same for every word of keys
abbrev pub Equivalent : ℕ → Machine → Machine → Type 0
Equivalent k m i = SameOutputs k m 0 i 0

-- begun in s or in t, the machine shows the same for every word of keys
abbrev pub EquivalentStates : ℕ → Machine → ℕ → ℕ → Type 0
EquivalentStates k m s t = SameOutputs k m s m t

-- no two states are equivalent, and every state can be reached
pub record Minimal (k : ℕ) (m : Machine) : Type 0 where
  pub distinct : (s t : ℕ) → s < length m → t < length m → EquivalentStates k m s t → s ≡ t
  pub reached : (s : ℕ) → s < length m → (w : Word) × Keys k w × (after m 0 w ≡ s)
