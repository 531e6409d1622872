-- A machine of n states and k keys whose moves are given by a function. Assumes nothing.
use Rattle.std.proofs.Common.{◌≡◌, ℕ, ◌<◌, [], map, length, get_or, ap, ◌∙◌, arith}
use Rattle.std.specs.List.{range_with_len}
use Rattle.std.proofs.lemmas.List.FromFn.{length-map-range_with_len, get_or-map-range_with_len}
use Rattle.machine.specs.Machine.{Machine, Move, move, no_move}

module _ (f : ℕ → ℕ → Move) (n k : ℕ) where
  -- the machine of these moves
  abbrev table : Machine
  table = map (λ s. map (f s) (range_with_len 0 k)) (range_with_len 0 n)

  -- it has n states
  pub length_table : length table ≡ n
  length_table = length-map-range_with_len (λ s. map (f s) (range_with_len 0 k)) 0 n

  -- the moves of a state are those that the function gives
  row_table : (s : ℕ) → s < n → get_or table s [] ≡ map (f s) (range_with_len 0 k)
  row_table s h = get_or-map-range_with_len (λ t. map (f t) (range_with_len 0 k)) 0 n s s [] h (omega arith)

  -- every state has k moves
  pub full_table : (s : ℕ) → s < n → length (get_or table s []) ≡ k
  full_table s h = ap length (row_table s h) ∙ length-map-range_with_len (f s) 0 k

  -- the move of a state and a key is the one that the function gives
  pub move_table : (s x : ℕ) → s < n → x < k → move table s x ≡ f s x
  unfolding move
  move_table s x h l = ap (λ ms. get_or ms x no_move) (row_table s h) ∙ get_or-map-range_with_len (f s) 0 k x x no_move l (omega arith)
