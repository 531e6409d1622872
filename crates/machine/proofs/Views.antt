-- The machine that a view shows is proper and small, and what the view's row holds where the view reads it. Assumes nothing.
use Rattle.std.proofs.Common.{◌≡◌, ℕ, ◌+◌, ◌*◌, ◌^◌, ◌<◌, ◌≤◌, ◌⊎◌, length, get_or, sym, ap, ◌∙◌, inl, inr, arith}
use Rattle.machine.specs.Machine.{Proper, Move, move, no_move}
use Rattle.machine.specs.Row.{target_at, move_at}
use Rattle.machine.specs.Run.{model}
use Rattle.machine.specs.declared.view.Machine.{Machine as View}
use Rattle.machine.proofs.First.{none_from_test}
use Rattle.machine.proofs.Rows.{Accepted, accepted, length_machine_in, move_in, proper_in, no_state, no_key_in, number_inside, number_low, number_whole}

module _ (v : View) where
  -- the row of a view is not refused
  pub view_accepted : Accepted v.row.now
  view_accepted = accepted v.row.now (none_from_test _ v.accepted)

  -- the machine has as many states as the view says
  pub view_states : length (model v) ≡ v.states
  view_states = length_machine_in v.row.now ∙ sym v.first

  -- it has at most 16 states
  pub few_states : length (model v) ≤ 16
  few_states = let a = view_accepted.shape.few_states in let b = view_states in let e = v.first in omega arith

  -- and at most 8 keys
  pub few_keys : v.keys ≤ 8
  few_keys = let a = view_accepted.shape.few_keys in let e = v.second in omega arith

  -- the machine that a view shows is one
  pub view_proper : Proper v.keys (model v)
  view_proper = let P : ℕ → Type 0 = λ k. Proper k (model v) in rw v.second (proper_in v.row.now (none_from_test _ v.accepted))

  module _ (s x : ℕ) (in_s : s < v.states) (in_x : x < v.keys) where
    -- the number of a move is below 128
    pub move_number_low : s * v.keys + x < 128
    move_number_low = number_low v.row.now v.states v.keys view_accepted.shape v.first v.second s x in_s in_x

    -- what a move leads to and what it shows stand inside the row
    pub move_whole : 3 + 2 * (s * v.keys + x) < length v.row.now
    move_whole = number_whole v.row.now v.states v.keys view_accepted.shape v.first v.second s x in_s in_x

    -- the move of a state and a key stands where the view reads it
    pub move_stands : move (model v) s x ≡ move_at v.row.now (s * v.keys + x)
    move_stands =
        move_in v.row.now s x (let a = v.first in omega arith) (let b = v.second in omega arith)
        ∙ ap (λ k. move_at v.row.now (s * k + x)) (sym v.second)

    -- it leads to a state
    pub move_leads : target_at v.row.now (s * v.keys + x) < length (model v)
    move_leads =
        let low = view_accepted.targets (s * v.keys + x) (number_inside v.row.now v.states v.keys view_accepted.shape v.first v.second s x in_s in_x) in
        let many = view_states in let e = v.first in omega arith

    -- what it shows stands one place behind
    pub output_stands : (move (model v) s x).output ≡ get_or v.row.now (2 + 2 * (s * v.keys + x) + 1) 0
    output_stands =
        let behind : 3 + 2 * (s * v.keys + x) ≡ 2 + 2 * (s * v.keys + x) + 1 = omega arith in
        ap (λ (a : Move). a.output) move_stands ∙ ap (λ i. get_or v.row.now i 0) behind

    -- and is less than 2^32
    pub move_shows : get_or v.row.now (2 + 2 * (s * v.keys + x) + 1) 0 < 2 ^ 32
    move_shows =
        let low = view_accepted.outputs (s * v.keys + x) (number_inside v.row.now v.states v.keys view_accepted.shape v.first v.second s x in_s in_x) in
        let behind : 3 + 2 * (s * v.keys + x) ≡ 2 + 2 * (s * v.keys + x) + 1 = omega arith in
        rw behind at low

  -- there is no move of a state or a key that is not there
  pub move_missing : (s x : ℕ) → (v.states ≤ s) ⊎ (v.keys ≤ x) → move (model v) s x ≡ no_move
  move_missing s x (inl g) = no_state v.row.now s x (let e = v.first in omega arith)
  move_missing s x (inr g) = no_key_in v.row.now s x (let e = v.second in omega arith)
