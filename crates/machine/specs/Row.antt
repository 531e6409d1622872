-- Machines in rows of numbers: how many states, how many keys, and for each state and key where it leads and what it shows.
-- Assumes nothing: these are definitions.
use Rattle.std.specs.Prelude.{ℕ, suc, ◌+◌, ◌*◌, List, [], ◌∷◌, map, length, take, drop, slice_index}
use Rattle.std.specs.List.{range_with_len, flat_map}
use Rattle.machine.specs.Machine.{Machine, Move}

-- how many states the row says there are
abbrev pub states_in : List ℕ → ℕ
states_in row = slice_index row 0

-- how many keys the row says there are
abbrev pub keys_in : List ℕ → ℕ
keys_in row = slice_index row 1

-- the moves are numbered state by state: that of state s and key x is s * keys + x
abbrev pub target_at : List ℕ → ℕ → ℕ
target_at row j = slice_index row (2 + 2 * j)

-- what move j shows
abbrev pub output_at : List ℕ → ℕ → ℕ
output_at row j = slice_index row (3 + 2 * j)

-- move j
abbrev pub move_at : List ℕ → ℕ → Move
move_at row j = record { to = target_at row j; output = output_at row j }

-- how many numbers a machine takes
abbrev pub room : ℕ → ℕ → ℕ
room n k = 2 + 2 * (n * k)

-- the machine that a row holds
unfoldable pub machine_in : List ℕ → Machine
machine_in row = map (λ s. map (λ x. move_at row (s * keys_in row + x)) (range_with_len 0 (keys_in row))) (range_with_len 0 (states_in row))

-- a move in a row: where it leads and what it shows
abbrev pub move_row : Move → List ℕ
move_row a = a.to ∷ a.output ∷ []

-- the row of a machine with k keys
unfoldable pub row_of : ℕ → Machine → List ℕ
row_of k m = length m ∷ k ∷ flat_map (flat_map move_row) m

-- a word in a row: its length stands in front of its keys; of a word that is cut short, the keys that are there
abbrev pub word_in : List ℕ → ℕ → List ℕ
word_in row at = take (slice_index row at) (drop (suc at) row)
