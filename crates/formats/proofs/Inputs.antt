-- Which refusal an input gets. Assumes nothing.
use Rattle.std.proofs.Common.{◌≡◌, ℕ, ◌+◌, ◌-◌, ◌*◌, ◌<◌, ◌≤◌, List, length, take, drop, get_or, Some, None, ap, ◌∙◌, add-zero, length-drop, mul-le-mul, arith}
use Rattle.std.specs.List.{slice_range}
use Rattle.std.proofs.lemmas.List.{take_all, get_or-drop, drop-drop}
use Rattle.std.proofs.lemmas.Bool.{le-leb, lt-leb}
use Rattle.machine.specs.declared.reading.Shape.{Shape}
use Rattle.machine.specs.Reading.{Heads}
use Rattle.machine.specs.Refusals.{Reason, reason, shape_refusal, row_refusal}
use Rattle.machine.proofs.Rows.{shaped}
use Rattle.formats.specs.Input.{extra_place, input_refusal}

-- an element of what is left of a list from a place on, and what stands behind that element
module _ (bytes tail : List ℕ) (place : ℕ) (is : tail ≡ slice_range bytes place (length bytes)) (some : 1 ≤ length tail) where
  -- what is left
  left : tail ≡ drop place bytes
  left = is ∙ take_all _ (drop place bytes) (omega (arith, length-drop {A = ℕ}))

  -- the place is inside the list
  pub inside : place < length bytes
  inside = omega (arith, ap length left, length-drop {A = ℕ})

  -- the element is the one at the place
  pub element : get_or tail 0 0 ≡ get_or bytes place 0
  element = ap (λ (l : List ℕ). get_or l 0 0) left ∙ simp add-zero at (get_or-drop place bytes 0 0)

  -- what stands behind it
  pub behind : take (length tail - 1) (drop 1 tail) ≡ drop (place + 1) bytes
  behind =
      take_all _ (drop 1 tail) (omega (arith, length-drop {A = ℕ})) ∙ ap (drop 1) left ∙ drop-drop 1 place bytes

module _ (bytes row : List ℕ) where
  -- if the shape of the machine is refused, so is the input, for the same reason
  pub shape_refused : (r : Reason) → shape_refusal 8 4 row ≡ Some r → input_refusal bytes row ≡ Some r
  unfolding input_refusal
  shape_refused r e = rw e

  module _ (shape : Shape) (ok : shape_refusal 8 4 row ≡ None) (head : Heads row shape) where
    -- a machine of at most 8 states and 4 keys has at most 32 moves
    pub few_moves : shape.states * shape.keys ≤ 32
    few_moves =
        let s = shaped 8 4 row ok in
        let a = head.states in
        let b = head.keys in
        let c = s.few_states in
        let d = s.few_keys in
        let states : shape.states ≤ 8 = omega arith in
        let keys : shape.keys ≤ 4 = omega arith in
        mul-le-mul states keys

    -- where the byte with the number of extra states stands, by the shape that was read
    pub place_is : 4 * (2 + 2 * (shape.states * shape.keys)) ≡ extra_place row
    place_is = let a = head.states in let b = head.keys in cc

    -- an input that ends before this byte is too short
    pub no_extra : length bytes ≤ 4 * (2 + 2 * (shape.states * shape.keys)) → input_refusal bytes row ≡ Some (reason 1 (length row))
    unfolding input_refusal
    no_extra h = let e = place_is in rw (ok, le-leb (length bytes) (extra_place row) (omega arith))

    -- an input that has this byte is refused exactly if its row is, for the same reason
    pub past_extra : 4 * (2 + 2 * (shape.states * shape.keys)) < length bytes → input_refusal bytes row ≡ row_refusal row
    unfolding input_refusal
    past_extra h = let e = place_is in rw (ok, lt-leb (length bytes) (extra_place row) (omega arith))

-- what reading an input needs
pub ruleset of_inputs = (shape_refused, few_moves, place_is, no_extra, past_extra)
