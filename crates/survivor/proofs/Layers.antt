-- The numbers of a survivor's states stay small, and what the call that writes one answers. Assumes nothing.
use Rattle.std.proofs.Common.{◌≡◌, ℕ, ◌+◌, ◌*◌, ◌/◌, ◌%◌, ◌^◌, ◌<◌, ◌≤◌, min, true, false, ◌&&◌, eqb, List, ◌++◌, length, drop, Some, None, Ok, Err, Option, Result, sym, ap, ◌∙◌, add-mul, mul-le-mul, one-mul, le-mul_of_pos_right, arith}
use Rattle.std.proofs.lemmas.Bool.{eq-eqb, and_from, lt-ltb, le-ltb}
use Rattle.machine.specs.declared.refusals.Refusal.{Refusal}
use Rattle.machine.specs.Machine.{Machine, Move, Proper, move}
use Rattle.machine.specs.Making.{Writable, MachineWritten, ReadsBack}
use Rattle.machine.specs.Refusals.{Reason, reason, row_refusal}
use Rattle.machine.specs.Row.{keys_in, room, row_of}
use Rattle.machine.proofs.Rows.{accepted, length_machine_in, proper_in}
use Rattle.survivor.specs.Answer.{made, states_made, room_made, survivor_refusal, SurvivorWritten, SurvivorReadsBack}
use Rattle.survivor.specs.Survivor.{wrong, survivor_states, survivor_of}
use Rattle.survivor.proofs.Survivors.{length_survivor, survivor_at, survivor_full, survives}

-- a survivor that can be written
module _ (k : ℕ) (m : Machine) (longest : ℕ) (proper : Proper k m) (few : Writable k (survivor_of k m longest)) where
  -- it has at most 4,096 states
  pub states_low : survivor_states m longest ≤ 4096
  states_low = let l = length_survivor k m longest proper in let f = few.few_states in omega arith

  -- so its bound is below 4,096
  pub longest_low : longest + 1 ≤ 4096
  longest_low = let a = le-mul_of_pos_right (longest + 1) proper.some in let b = states_low in omega arith

  -- a layer up to the bound
  pub layer_low : (c : ℕ) → c ≤ longest → c * length m + length m ≤ 4096
  layer_low c h =
      let p : c * length m ≤ longest * length m = mul-le-mul h (omega arith) in
      let d = add-mul longest 1 (length m) in
      let o = one-mul (length m) in
      let b = states_low in
      omega arith

-- what the call answers, for a row, a bound, and what the lent row held before
module _ (row : List ℕ) (longest : ℕ) (before : List ℕ) where
  -- if the row is refused, so is the survivor, for the same reason
  pub row_refused : (r : Reason) → row_refusal row ≡ Some r → survivor_refusal row longest (length before) ≡ Some r
  unfolding survivor_refusal
  row_refused r e = rw e

  module _ (ok : row_refusal row ≡ None) where
    -- a survivor that would have more than 4,096 states is refused
    pub too_many : 4096 < states_made row longest → survivor_refusal row longest (length before) ≡ Some (reason 7 (min (states_made row longest) (2 ^ 32)))
    unfolding survivor_refusal
    too_many h = rw (ok, lt-ltb 4096 (states_made row longest) h)

    module _ (few : states_made row longest ≤ 4096) where
      -- how many states the survivor has, by the row's head
      made_states : length (made row longest) ≡ states_made row longest
      made_states = length_survivor _ _ longest (proper_in row ok) ∙ ap (λ n. (longest + 1) * n) (length_machine_in row)

      -- it can be written
      pub writable : Writable (keys_in row) (made row longest)
      writable = record {
        full = survivor_full _ _ longest (proper_in row ok);
        few_states = let e = made_states in omega arith;
        few_keys = (accepted row ok).shape.few_keys;
      }

      -- how many numbers its row takes, by the row's head
      made_room : room (length (made row longest)) (keys_in row) ≡ room_made row longest
      made_room = ap (λ n. room n (keys_in row)) made_states

      -- if it was written, or there was no room for it, the answer is right
      pub answered : (r : Result ℕ Refusal) (after : List ℕ) → MachineWritten (keys_in row) (made row longest) before r after → SurvivorWritten row longest before r after
      unfolding survivor_refusal
      answered (Ok n) after w =
          let e = made_room in
          let fits = w.0 in (
            rw (ok, le-ltb 4096 (states_made row longest) few, le-ltb (length before) (room_made row longest) (omega arith)),
            w.1,
            w.2 ∙ ap (λ z. row_of (keys_in row) (made row longest) ++ drop z before) e,
            survives _ _ longest (proper_in row ok) (accepted row ok).shape.some_keys,
          )
      answered (Err f) after w =
          let e = made_room in
          let short = w.0 in (
            rw (ok, le-ltb 4096 (states_made row longest) few, lt-ltb (length before) (room_made row longest) (omega arith)) (ap {B = Option Reason} Some (sym (w.1 ∙ ap (reason 8) e))),
            w.2,
          )

      -- and what was written is read as the survivor
      pub read_again : (r : Result ℕ Refusal) (after : List ℕ) → ReadsBack (keys_in row) (made row longest) r after → SurvivorReadsBack row longest r after
      read_again (Ok n) after back = back
      read_again (Err f) after back = tt
