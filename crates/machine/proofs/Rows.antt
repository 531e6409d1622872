-- The machine that a row holds: its states, its moves, and what it means that the row is not refused. Assumes nothing.
use Rattle.std.proofs.Common.{◌≡◌, ℕ, ◌+◌, ◌*◌, ◌^◌, ◌<◌, ◌≤◌, Bool, true, false, ltb, List, [], length, get_or, None, refl, ap, inl, inr, mul-le-mul, arith}
use lib.Arith.{digits_lt}
use Rattle.std.proofs.lemmas.List.{get_or_past}
use Rattle.std.proofs.lemmas.Bool.{cases_lt, ltb-false, leb-false, or_parts}
use Rattle.machine.specs.Machine.{Move, no_move, move, Proper}
use Rattle.machine.specs.Refusals.{refuse_if, outside, shape_refusal, bad_move, at_move, moves_refusal, row_refusal}
use Rattle.machine.specs.Row.{states_in, keys_in, target_at, output_at, move_at, room, machine_in}
use Rattle.machine.proofs.First.{or_else_none, first_cases}
use Rattle.machine.proofs.Runs.{no_key}
use Rattle.machine.proofs.Tables.{length_table, full_table, move_table}

module _ (row : List ℕ) where
  -- the move of a state and a key, as it stands in the row
  abbrev own : ℕ → ℕ → Move
  own s x = move_at row (s * keys_in row + x)

  -- the machine has as many states as the row says
  pub length_machine_in : length (machine_in row) ≡ states_in row
  unfolding machine_in
  length_machine_in = length_table own (states_in row) (keys_in row)

  -- each state has a move for each of the keys that the row says there are
  pub length_moves_in : (s : ℕ) → s < states_in row → length (get_or (machine_in row) s []) ≡ keys_in row
  unfolding machine_in
  length_moves_in = full_table own (states_in row) (keys_in row)

  -- the move of a state and a key is the one that stands in the row
  pub move_in : (s x : ℕ) → s < states_in row → x < keys_in row → move (machine_in row) s x ≡ move_at row (s * keys_in row + x)
  unfolding machine_in
  move_in = move_table own (states_in row) (keys_in row)

  -- there is no such state
  pub no_state : (s x : ℕ) → states_in row ≤ s → move (machine_in row) s x ≡ no_move
  unfolding move
  no_state s x h = ap (λ (ms : List Move). get_or ms x no_move) (get_or_past (machine_in row) s [] (let l = length_machine_in in omega arith))

  -- there is no such key
  pub no_key_in : (s x : ℕ) → keys_in row ≤ x → move (machine_in row) s x ≡ no_move
  no_key_in s x h = elim (cases_lt s (states_in row)) [ inl l ↦ no_key (machine_in row) s x (let e = length_moves_in s l in omega arith) | inr g ↦ no_state s x g ]

-- a test for which nothing is refused did not pass
refuse_none : (b : Bool) (n p : ℕ) → refuse_if b n p ≡ None → b ≡ false
refuse_none true n p e = absurd (let z : ◌≡◌ {A = ℕ} 0 1 = cc in omega arith)
refuse_none false n p e = refl

-- what it means that a row's head is not refused
pub record Shaped (most_states most_keys : ℕ) (row : List ℕ) : Type 0 where
  pub headed : 2 ≤ length row
  some_states : 0 < states_in row
  pub few_states : states_in row ≤ most_states
  pub some_keys : 0 < keys_in row
  pub few_keys : keys_in row ≤ most_keys
  pub whole : room (states_in row) (keys_in row) ≤ length row

-- a row that is not refused for its shape has that shape
pub shaped : (most_states most_keys : ℕ) (row : List ℕ) → shape_refusal most_states most_keys row ≡ None → Shaped most_states most_keys row
unfolding shape_refusal
shaped most_states most_keys row e =
    let n = states_in row in
    let k = keys_in row in
    let a = or_else_none (refuse_if (ltb (length row) 2) 1 (length row)) _ e in
    let b = or_else_none (refuse_if (outside most_states n) 1 n) _ a.1 in
    let c = or_else_none (refuse_if (outside most_keys k) 1 k) _ b.1 in
    let states = or_parts (ltb n 1) (ltb most_states n) (refuse_none (outside most_states n) 1 n b.0) in
    let keys = or_parts (ltb k 1) (ltb most_keys k) (refuse_none (outside most_keys k) 1 k c.0) in
    record {
      headed = ltb-false _ _ (refuse_none _ 1 (length row) a.0);
      some_states = ltb-false _ _ states.0;
      few_states = ltb-false _ _ states.1;
      some_keys = ltb-false _ _ keys.0;
      few_keys = ltb-false _ _ keys.1;
      whole = ltb-false _ _ (refuse_none _ 1 (length row) c.1);
    }

-- a machine of at most 16 states and 8 keys has at most 128 moves, and its row a place for each
module _ (row : List ℕ) (n k : ℕ) (shape : Shaped 16 8 row) (states : n ≡ states_in row) (keys : k ≡ keys_in row) (s x : ℕ) (in_s : s < n) (in_x : x < k) where
  -- the number of a move is one of those that the row has
  pub number_inside : s * k + x < states_in row * keys_in row
  number_inside = let e : n * k ≡ states_in row * keys_in row = cc in let a = digits_lt in_s in_x in omega arith

  -- it is below 128
  pub number_low : s * k + x < 128
  number_low = let a = number_inside in let b : states_in row * keys_in row ≤ 128 = mul-le-mul shape.few_states shape.few_keys in omega arith

  -- what the move leads to and shows stands inside the row
  pub number_whole : 3 + 2 * (s * k + x) < length row
  number_whole = let a = number_inside in let b = shape.whole in omega arith

-- what it means that a row is not refused
pub record Accepted (row : List ℕ) : Type 0 where
  pub shape : Shaped 16 8 row
  pub targets : (j : ℕ) → j < states_in row * keys_in row → target_at row j < states_in row
  pub outputs : (j : ℕ) → j < states_in row * keys_in row → output_at row j < 2 ^ 32

-- if the moves are not refused none of them is bad
good_moves : (row : List ℕ) → moves_refusal row ≡ None → (j : ℕ) → j < states_in row * keys_in row → bad_move row j ≡ false
unfolding moves_refusal
good_moves row e =
    elim (first_cases (bad_move row) (states_in row * keys_in row)) [
      | inl a ↦ a.1
      | inr b ↦ absurd (let s = ap at_move b.1 in let z : ◌≡◌ {A = ℕ} 0 1 = cc in omega arith)
    ]

-- a row that is not refused has a good shape and good moves
pub accepted : (row : List ℕ) → row_refusal row ≡ None → Accepted row
unfolding row_refusal
accepted row e =
    let parts = or_else_none (shape_refusal 16 8 row) (moves_refusal row) e in
    let good = good_moves row parts.1 in
    record {
      shape = shaped 16 8 row parts.0;
      targets = λ j h. leb-false _ _ (or_parts _ _ (good j h)).0;
      outputs = λ j h. leb-false _ _ (or_parts _ _ (good j h)).1;
    }

-- the machine of a row that is not refused is proper
pub proper_in : (row : List ℕ) → row_refusal row ≡ None → Proper (keys_in row) (machine_in row)
proper_in row e =
    let good = accepted row e in
    let n = length_machine_in row in
    record {
      some = let l = good.shape.some_states in omega arith;
      full = λ s h. length_moves_in row s (omega arith);
      closed = λ s x h l.
          let inside : s < states_in row = omega arith in
          let to = ap (λ (a : Move). a.to) (move_in row s x inside l) in
          let low = good.targets (s * keys_in row + x) (digits_lt inside l) in
          omega arith;
    }

-- nothing that the machine of a row that is not refused shows is 2^32 or more
pub outputs_low : (row : List ℕ) → row_refusal row ≡ None → (s x : ℕ) → (move (machine_in row) s x).output < 2 ^ 32
outputs_low row e s x =
    let shows : (a b : Move) → a ≡ b → a.output ≡ b.output = λ a b h. ap (λ (z : Move). z.output) h in
    elim (cases_lt s (states_in row)) [
      | inl h ↦ elim (cases_lt x (keys_in row)) [
        | inl l ↦ let out = shows _ _ (move_in row s x h l) in let low = (accepted row e).outputs (s * keys_in row + x) (digits_lt h l) in omega arith
        | inr g ↦ let out = shows _ _ (no_key_in row s x g) in omega arith
      ]
      | inr g ↦ let out = shows _ _ (no_state row s x g) in omega arith
    ]
