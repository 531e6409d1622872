-- Writing a machine's row move by move, over what a row held. Assumes nothing.
use Rattle.std.proofs.Common.{◌≡◌, ℕ, ◌+◌, ◌-◌, ◌*◌, ◌<◌, ◌≤◌, List, [], ◌∷◌, ◌++◌, length, get_or, take, drop, set, sym, refl, ap, ◌∙◌, append_assoc, append-nil, add-mul, one-mul, zero-mul, arith, length-append}
use lib.Arith.{digits_lt}
use Rattle.std.proofs.lemmas.List.{drop_more, set_at, take_more, take_all, flat_map_more, length_push, length-set, drop-drop, drop_at}
use Rattle.std.specs.List.{flat_map}
use Rattle.machine.specs.Machine.{Machine, move, no_move}
use Rattle.machine.specs.Row.{room, row_of, move_row}

-- two numbers written behind the front of a row
two_writes : (front before : List ℕ) (at a b : ℕ) → length front ≡ at → at + 1 < length before → set (set (front ++ drop at before) at a) (at + 1) b ≡ (front ++ a ∷ b ∷ []) ++ drop (at + 2) before
two_writes front before at a b here room =
    let two : at + 1 + 1 ≡ at + 2 = omega arith in
    let rest = drop (at + 2) before in
    ap (λ r. set (set (front ++ r) at a) (at + 1) b) (drop_more before at 0 (omega arith) ∙ ap {B = List ℕ} (λ r. get_or before at 0 ∷ r) (drop_more before (at + 1) 0 room))
    ∙ ap (λ r. set r (at + 1) b) (set_at front (get_or before at 0) _ a at here)
    ∙ ap (λ r. set r (at + 1) b) (sym (append_assoc front (a ∷ []) (get_or before (at + 1) 0 ∷ drop (at + 1 + 1) before)))
    ∙ set_at (front ++ a ∷ []) (get_or before (at + 1) 0) _ b (at + 1) (length_push front a ∙ ap (λ n. n + 1) here)
    ∙ ap (λ n. (front ++ a ∷ []) ++ b ∷ drop n before) two
    ∙ append_assoc front (a ∷ []) (b ∷ rest)
    ∙ sym (append_assoc front (a ∷ b ∷ []) rest)

-- the head, the moves of the first j states, and the first x moves of state j
abbrev begun : ℕ → Machine → ℕ → ℕ → List ℕ
begun k l j x = length l ∷ k ∷ (flat_map (flat_map move_row) (take j l) ++ flat_map move_row (take x (get_or l j [])))

-- so far the row is written, up to the place at
pub record Begun (k : ℕ) (l : Machine) (j x : ℕ) (before now : List ℕ) (at : ℕ) : Type 0 where
  pub number : at ≡ 2 + 2 * (j * k + x)
  pub written : now ≡ begun k l j x ++ drop at before
  pub long : length (begun k l j x) ≡ at

module _ (k : ℕ) (l : Machine) (before : List ℕ) where
  -- the head was written
  pub begun_head : (n w : ℕ) → n ≡ length l → w ≡ k → 2 ≤ length before → Begun k l 0 0 before (set (set before 0 n) 1 w) 2
  begun_head n w states keys h = record {
    number = (let z = zero-mul k in omega arith);
    written = ap (λ a. set (set before 0 a) 1 w) states ∙ ap (λ b. set (set before 0 (length l)) 1 b) keys ∙ two_writes [] before 0 (length l) k refl (omega arith);
    long = refl;
  }

  -- one move more was written
  pub begun_move :
      (j x at : ℕ) (now : List ℕ) (to output : ℕ) → j < length l → length (get_or l j []) ≡ k → x < k → at + 1 < length before → Begun k l j x before now at →
      to ≡ (move l j x).to → output ≡ (move l j x).output →
      Begun k l j (x + 1) before (set (set now at to) (at + 1) output) (at + 2)
  unfolding move
  begun_move j x at now to output hj full hx room b is_to is_output =
      let row = get_or l j [] in
      let a = get_or row x no_move in
      let more : begun k l j x ++ a.to ∷ a.output ∷ [] ≡ begun k l j (x + 1) =
      ap {B = List ℕ} (λ r. length l ∷ k ∷ r) (flat_map_more move_row (flat_map (flat_map move_row) (take j l)) (take x row) a
      ∙ ap (λ r. flat_map (flat_map move_row) (take j l) ++ flat_map move_row r) (sym (take_more row x no_move (omega arith)))) in
      record {
        number = (let n = b.number in omega arith);
        written = ap (λ y. set (set now at y) (at + 1) output) is_to ∙ ap (λ y. set (set now at a.to) (at + 1) y) is_output
            ∙ ap (λ r. set (set r at a.to) (at + 1) a.output) b.written ∙ two_writes (begun k l j x) before at a.to a.output b.long room
            ∙ ap (λ r. r ++ drop (at + 2) before) more;
        long = ap length (sym more) ∙ length-append (begun k l j x) (a.to ∷ a.output ∷ []) ∙ ap (λ n. n + 2) b.long;
      }

  -- with all moves of a state written the next state begins
  pub begun_row : (j at : ℕ) (now : List ℕ) → j < length l → length (get_or l j []) ≡ k → Begun k l j k before now at → Begun k l (j + 1) 0 before now at
  begun_row j at now hj full b =
      let row = get_or l j [] in
      let next : begun k l j k ≡ begun k l (j + 1) 0 =
      ap {B = List ℕ} (λ r. length l ∷ k ∷ r)
      (ap (λ r. flat_map (flat_map move_row) (take j l) ++ flat_map move_row r) (take_all k row (omega arith))
      ∙ flat_map_more (flat_map move_row) [] (take j l) row
      ∙ ap (flat_map (flat_map move_row)) (sym (take_more l j [] hj))
      ∙ sym (append-nil (flat_map (flat_map move_row) (take (j + 1) l)))) in
      record {
        number = (let n = b.number in let d = add-mul j 1 k in let o = one-mul k in omega arith);
        written = b.written ∙ ap (λ r. r ++ drop at before) next;
        long = ap length (sym next) ∙ b.long;
      }

  -- the whole machine
  pub begun_all : (at : ℕ) (now : List ℕ) → Begun k l (length l) 0 before now at → now ≡ row_of k l ++ drop (room (length l) k) before
  unfolding row_of
  begun_all at now b =
      let e : at ≡ room (length l) k = (let n = b.number in omega arith) in
      let whole : begun k l (length l) 0 ≡ length l ∷ k ∷ flat_map (flat_map move_row) l =
      ap {B = List ℕ} (λ r. length l ∷ k ∷ r) (append-nil _ ∙ ap (flat_map (flat_map move_row)) (take_all (length l) l (omega arith))) in
      b.written ∙ ap (λ r. r ++ drop at before) whole ∙ ap (λ n. (length l ∷ k ∷ flat_map (flat_map move_row) l) ++ drop n before) e

-- what stands behind the place is as it was
begun_tail : (k : ℕ) (l : Machine) (j x : ℕ) (before now : List ℕ) (at to : ℕ) → Begun k l j x before now at → at ≤ to → drop to now ≡ drop to before
begun_tail k l j x before now at to b h =
    let e : at + (to - at) ≡ to = omega arith in
    ap (λ n. drop n now) (sym e) ∙ sym (drop-drop (to - at) at now)
    ∙ ap (drop (to - at)) (ap (drop at) b.written ∙ drop_at (begun k l j x) (drop at before) at b.long)
    ∙ drop-drop (to - at) at before ∙ ap (λ n. drop n before) e

-- measured by what it is now
pub begun_anew : (k : ℕ) (l : Machine) (j x : ℕ) (before now : List ℕ) (at : ℕ) → Begun k l j x before now at → Begun k l j x now now at
begun_anew k l j x before now at b = record {
  number = b.number;
  written = b.written ∙ ap (λ r. begun k l j x ++ r) (sym (begun_tail k l j x before now at at b (omega arith)));
  long = b.long;
}

-- measured by what it was before
pub begun_over : (k : ℕ) (l : Machine) (h y j x : ℕ) (before then now : List ℕ) (from at : ℕ) → Begun k l h y before then from → Begun k l j x then now at → from ≤ at → Begun k l j x before now at
begun_over k l h y j x before then now from at a b less = record {
  number = b.number;
  written = b.written ∙ ap (λ r. begun k l j x ++ r) (begun_tail k l h y before then from at a less);
  long = b.long;
}

-- the head takes no room of its own
length_head : (before : List ℕ) (n w : ℕ) → length (set (set before 0 n) 1 w) ≡ length before
length_head before n w = length-set (set before 0 n) 1 w ∙ length-set before 0 n

-- where a move is written there is room
pub move_room :
    (k n j x at states keys long : ℕ) (before : List ℕ) → states ≡ n → keys ≡ k → j < states → x < keys → at ≡ 2 + 2 * (j * k + x) → room n k ≤ length before →
    long ≡ length (set (set before 0 states) 1 keys) → at + 1 < long
move_room k n j x at states keys long before is_n is_k hj hx e fits same =
    let d : j * k + x < n * k = digits_lt (rw is_n at hj) (rw is_k at hx) in
    let h = length_head before states keys in
    omega arith

-- with keys of the same state written, the place has only moved on
pub begun_later : (k : ℕ) (l : Machine) (j x : ℕ) (before then still now : List ℕ) (from at : ℕ) → Begun k l j 0 before then from → Begun k l j x still now at → from ≤ at
begun_later k l j x before then still now from at a b = let c = a.number in let d = b.number in omega arith
