-- Which refusal a row's head and moves get. Assumes nothing.
use Rattle.std.proofs.Common.{◌≡◌, ℕ, ◌*◌, ◌<◌, ◌≤◌, true, false, List, length, Some, None}
use Rattle.std.proofs.lemmas.Bool.{lt-ltb, le-ltb}
use Rattle.machine.specs.First.{first}
use Rattle.machine.specs.Refusals.{Reason, reason, outside, shape_refusal, bad_move, moves_refusal, row_refusal}
use Rattle.machine.specs.Row.{states_in, keys_in, room}

module _ (most_states most_keys : ℕ) (row : List ℕ) where
  -- a row that is too short for its head is refused
  pub headless : length row < 2 → shape_refusal most_states most_keys row ≡ Some (reason 1 (length row))
  unfolding shape_refusal
  headless h = rw (lt-ltb _ _ h)

  module _ (headed : 2 ≤ length row) where
    -- a row with no states or too many is refused
    pub bad_states : outside most_states (states_in row) ≡ true → shape_refusal most_states most_keys row ≡ Some (reason 1 (states_in row))
    unfolding shape_refusal
    bad_states h = rw (le-ltb _ _ headed, h)

    module _ (states : outside most_states (states_in row) ≡ false) where
      -- a row with no keys or too many is refused
      pub bad_keys : outside most_keys (keys_in row) ≡ true → shape_refusal most_states most_keys row ≡ Some (reason 1 (keys_in row))
      unfolding shape_refusal
      bad_keys h = rw (le-ltb _ _ headed, states, h)

      module _ (keys : outside most_keys (keys_in row) ≡ false) where
        -- a row that is too short for its moves is refused
        pub cut_short : length row < room (states_in row) (keys_in row) → shape_refusal most_states most_keys row ≡ Some (reason 1 (length row))
        unfolding shape_refusal
        cut_short h = rw (le-ltb _ _ headed, states, keys, lt-ltb _ _ h)

        -- a row for which none of this holds is not refused for its shape
        pub fits : room (states_in row) (keys_in row) ≤ length row → shape_refusal most_states most_keys row ≡ None
        unfolding shape_refusal
        fits h = rw (le-ltb _ _ headed, states, keys, le-ltb _ _ h)

module _ (row : List ℕ) (shape : shape_refusal 16 8 row ≡ None) where
  -- a row of a good shape is refused for its first bad move
  pub bad_move_refused : (j : ℕ) → first (bad_move row) (states_in row * keys_in row) ≡ Some j → row_refusal row ≡ Some (reason 2 j)
  unfolding row_refusal moves_refusal
  bad_move_refused j e = rw (shape, e)

  -- a row of a good shape with no bad move is not refused
  pub no_bad_move : first (bad_move row) (states_in row * keys_in row) ≡ None → row_refusal row ≡ None
  unfolding row_refusal moves_refusal
  no_bad_move e = rw (shape, e)

-- a row that is refused for its shape is refused for that reason
pub shape_refused : (row : List ℕ) (r : Reason) → shape_refusal 16 8 row ≡ Some r → row_refusal row ≡ Some r
unfolding row_refusal
shape_refused row r e = rw e
