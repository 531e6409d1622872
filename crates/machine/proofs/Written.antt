-- The machine that a written row holds. Assumes nothing.
use Rattle.std.proofs.Common.{◌≡◌, ℕ, zero, suc, ◌+◌, ◌*◌, ◌/◌, ◌%◌, ◌^◌, ◌<◌, ◌≤◌, false, List, [], ◌∷◌, ◌++◌, length, get_or, None, sym, refl, ap, ◌∙◌, mod-lt, mul_assoc, suc-mul, div-lt_iff_lt-mul, div-add-mod', zero-add, zero-mul, arith, length-append}
use lib.Arith.{digits_lt}
use Rattle.std.specs.List.{flat_map as joined}
use Rattle.std.proofs.lemmas.List.{get_or_append_left, get_or-append-add, ext_get_or}
use Rattle.std.proofs.lemmas.Bool.{or_from, le-ltb, lt-leb}
use Rattle.machine.specs.Machine.{Machine, Move, Proper, no_move, move}
use Rattle.machine.specs.Refusals.{outside, bad_move, row_refusal}
use Rattle.machine.specs.Row.{states_in, keys_in, target_at, output_at, move_at, move_row, room, machine_in, row_of}
use Rattle.machine.proofs.First.{first_none}
use Rattle.machine.proofs.Readings.{fits, no_bad_move}
use Rattle.machine.proofs.Rows.{length_machine_in, length_moves_in, move_in}

-- pieces of one length, one behind the other
module _ {X : Type 0} (f : X → List ℕ) (c : ℕ) (e : X) where
  -- together they have c numbers for each piece
  length_joined : (xs : List X) → ((s : ℕ) → s < length xs → length (f (get_or xs s e)) ≡ c) → length (joined f xs) ≡ length xs * c
  length_joined [] all = sym (zero-mul c)
  length_joined (x ∷ xs) all =
      length-append (f x) (joined f xs)
      ∙ (let here = all 0 (omega arith) in let rest = length_joined xs (λ s h. all (suc s) (omega arith)) in let more = suc-mul (length xs) c in omega arith)

  -- the number at place i of piece s
  get_or_joined :
      (xs : List X) → ((s : ℕ) → s < length xs → length (f (get_or xs s e)) ≡ c) → (s i : ℕ) → s < length xs → i < c →
      get_or (joined f xs) (s * c + i) 0 ≡ get_or (f (get_or xs s e)) i 0
  get_or_joined [] all s i h l = absurd (omega arith)
  get_or_joined (x ∷ xs) all zero i h l =
      ap (λ j. get_or (f x ++ joined f xs) j 0) (ap (λ z. z + i) (zero-mul c) ∙ zero-add i)
      ∙ get_or_append_left (f x) (joined f xs) 0 i (let here = all 0 (omega arith) in omega arith)
  get_or_joined (x ∷ xs) all (suc s) i h l =
      let here = all 0 (omega arith) in
      let place : suc s * c + i ≡ length (f x) + (s * c + i) = let more = suc-mul s c in omega arith in
      ap (λ j. get_or (f x ++ joined f xs) j 0) place
      ∙ get_or-append-add (f x) (joined f xs) (s * c + i) 0
      ∙ get_or_joined xs (λ t g. all (suc t) (omega arith)) s i (omega arith) l

module _ (k : ℕ) (m : Machine) (full : (s : ℕ) → s < length m → length (get_or m s []) ≡ k) where
  -- the two numbers of each move of a state
  moves_row_length : (ms : List Move) → length (joined move_row ms) ≡ length ms * 2
  moves_row_length ms = length_joined move_row 2 no_move ms (λ s h. refl)

  -- the moves of a state have two numbers for each of k keys
  state_row_length : (s : ℕ) → s < length m → length (joined move_row (get_or m s [])) ≡ k * 2
  state_row_length s h = moves_row_length (get_or m s []) ∙ ap (λ z. z * 2) (full s h)

  -- the row of a machine is as long as the room that it takes
  length_row_of : length (row_of k m) ≡ room (length m) k
  unfolding row_of
  length_row_of =
      let body = length_joined (joined move_row) (k * 2) [] m state_row_length in
      let again = mul_assoc (length m) k 2 in
      omega arith

  module _ (s x i : ℕ) (in_s : s < length m) (in_x : x < k) (in_i : i < 2) where
    -- number i of the move of state s and key x, behind the head
    body_at : get_or (joined (joined move_row) m) (2 * (s * k + x) + i) 0 ≡ get_or (move_row (move m s x)) i 0
    unfolding move
    body_at =
        let again = mul_assoc s k 2 in
        let width = full s in_s in
        let place : 2 * (s * k + x) + i ≡ s * (k * 2) + (x * 2 + i) = omega arith in
        let inside : x * 2 + i < k * 2 = digits_lt in_x in_i in
        ap (λ j. get_or (joined (joined move_row) m) j 0) place
        ∙ get_or_joined (joined move_row) (k * 2) [] m state_row_length s (x * 2 + i) in_s inside
        ∙ get_or_joined move_row 2 no_move (get_or m s []) (λ t h. refl) x i (omega arith) in_i

    -- the same number in the whole row
    row_of_at : get_or (row_of k m) (2 + (2 * (s * k + x) + i)) 0 ≡ get_or (move_row (move m s x)) i 0
    unfolding row_of
    row_of_at =
        let place : 2 + (2 * (s * k + x) + i) ≡ suc (suc (2 * (s * k + x) + i)) = omega arith in
        ap (λ j. get_or (length m ∷ k ∷ joined (joined move_row) m) j 0) place ∙ body_at

    -- it stands inside the row
    number_inside : 2 + (2 * (s * k + x) + i) < length (row_of k m)
    number_inside = let l = length_row_of in let j = digits_lt in_s in_x in omega arith

    -- and it is the same with whatever behind the row
    written_at : (rest : List ℕ) → get_or (row_of k m ++ rest) (2 + (2 * (s * k + x) + i)) 0 ≡ get_or (move_row (move m s x)) i 0
    written_at rest = get_or_append_left (row_of k m) rest 0 _ number_inside ∙ row_of_at

  module _ (rest : List ℕ) where
    -- the number of states is read back
    written_states : states_in (row_of k m ++ rest) ≡ length m
    unfolding row_of
    written_states = refl

    -- the number of keys is read back
    pub written_keys : keys_in (row_of k m ++ rest) ≡ k
    unfolding row_of
    written_keys = refl

    -- where a move leads stands in its place
    written_target : (s x : ℕ) → s < length m → x < k → target_at (row_of k m ++ rest) (s * k + x) ≡ (move m s x).to
    written_target s x h l = ap (λ j. get_or (row_of k m ++ rest) j 0) (omega arith) ∙ written_at s x 0 h l (omega arith) rest

    -- and what it shows behind that
    written_output : (s x : ℕ) → s < length m → x < k → output_at (row_of k m ++ rest) (s * k + x) ≡ (move m s x).output
    written_output s x h l = ap (λ j. get_or (row_of k m ++ rest) j 0) (omega arith) ∙ written_at s x 1 h l (omega arith) rest

    -- each move is read back
    written_move : (s x : ℕ) → s < length m → x < k → move (machine_in (row_of k m ++ rest)) s x ≡ move m s x
    written_move s x h l =
        let row = row_of k m ++ rest in
        let n = written_states in
        let w = written_keys in
        let to = written_target s x h l in
        let output = written_output s x h l in
        move_in row s x (omega arith) (omega arith) ∙ ap (λ z. move_at row (s * z + x)) w ∙ (λ i. record { to = to i; output = output i })

    -- a written row holds the machine that was written
    pub read_back : machine_in (row_of k m ++ rest) ≡ m
    unfolding move
    read_back =
        let row = row_of k m ++ rest in
        let n = written_states in
        let w = written_keys in
        let states = length_machine_in row in
        ext_get_or [] (machine_in row) m (omega arith) (λ s h.
        let moves = length_moves_in row s (omega arith) in
        let width = full s (omega arith) in
        ext_get_or no_move (get_or (machine_in row) s []) (get_or m s []) (omega arith) (λ x l. written_move s x (omega arith) (omega arith)))

    -- a written row is accepted, if the machine is proper and has at most 16 states, 1 to 8 keys and no output of 2^32 or more
    pub written_accepted : Proper k m → length m ≤ 16 → 0 < k → k ≤ 8 → ((s x : ℕ) → s < length m → x < k → (move m s x).output < 2 ^ 32) → row_refusal (row_of k m ++ rest) ≡ None
    written_accepted proper few some_keys few_keys low =
        no_bad_move row (fits 16 8 row (omega (arith, long)) (ap (outside 16) written_states ∙ or_from _ _ (le-ltb _ _ proper.some) (le-ltb _ _ few)) (ap (outside 8) written_keys ∙ or_from _ _ (le-ltb _ _ some_keys) (le-ltb _ _ few_keys)) (omega (arith, long, size)))
        (first_none (bad_move row) (states_in row * keys_in row) good)
      where
        row : List ℕ
        row = row_of k m ++ rest

        long : length row ≡ room (length m) k + length rest
        long = length-append (row_of k m) rest ∙ ap (λ z. z + length rest) length_row_of

        size : room (states_in row) (keys_in row) ≡ room (length m) k
        size = ap (λ n. room n (keys_in row)) written_states ∙ ap (room (length m)) written_keys

        here : (s x : ℕ) → s < length m → x < k → bad_move row (s * k + x) ≡ false
        here s x h l =
            let n = written_states in
            let to = written_target s x h l in
            let out = written_output s x h l in
            let inside = proper.closed s x h l in
            let small = low s x h l in
            let leads : target_at row (s * k + x) < states_in row = omega arith in
            let shows : output_at row (s * k + x) < 2 ^ 32 = omega arith in
            or_from _ _ (lt-leb _ _ leads) (lt-leb _ _ shows)

        good : (j : ℕ) → j < states_in row * keys_in row → bad_move row j ≡ false
        good j h =
            let all : states_in row * keys_in row ≡ length m * k = ap (λ n. n * keys_in row) written_states ∙ ap (λ z. length m * z) written_keys in
            ap (bad_move row) (sym (div-add-mod' j k)) ∙ here (j / k) (j % k) ((div-lt_iff_lt-mul some_keys).1 (omega arith)) (mod-lt j some_keys)
