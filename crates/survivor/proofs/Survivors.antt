-- A survivor shows the same up to its bound and something else behind it. Assumes nothing.
use Rattle.std.proofs.Common.{◌≡◌, ℕ, zero, suc, ◌+◌, ◌*◌, ◌/◌, ◌%◌, ◌<◌, ◌≤◌, min, true, cond, ◌&&◌, eqb, List, [], ◌∷◌, length, get_or, replicate, refl, ap, ◌∙◌, inl, inr, mod-lt, zero-mul, arith}
use lib.Arith.{digits_lt, digits_div, digits_mod}
use Rattle.std.specs.List.{AllByRecursion}
use Rattle.std.proofs.lemmas.Bool.{cases_lt, cases_eq, eq-eqb, ne_eqb}
use Rattle.machine.specs.Machine.{Machine, Move, Word, Keys, Proper, move, outputs}
use Rattle.machine.proofs.Runs.{no_key, move_below}
use Rattle.machine.proofs.Tables.{length_table, full_table, move_table}
use Rattle.survivor.specs.Longest.{longest_of}
use Rattle.survivor.specs.Promises.{Survives, NoTestsSuffice}
use Rattle.survivor.specs.Survivor.{wrong, survivor_move, survivor_states, survivor_of}

-- the wrong output is another one
wrong_differs : (y : ℕ) → y ≡ wrong y → ⊥
wrong_differs y e = elim (cases_eq y 4294967295) [
  | inl h ↦ let z : wrong y ≡ 0 = rw (eq-eqb _ _ h) in omega arith
  | inr d ↦ let z : wrong y ≡ y + 1 = rw (ne_eqb _ _ d) in omega arith
]

-- the survivor of a machine; longest is its bound
module _ (k : ℕ) (m : Machine) (longest : ℕ) (proper : Proper k m) where
  -- the survivor
  made : Machine
  made = survivor_of k m longest

  -- how many states it has: those of the machine in each layer
  pub length_survivor : length (survivor_of k m longest) ≡ survivor_states m longest
  unfolding survivor_of
  length_survivor = length_table (survivor_move m longest) (survivor_states m longest) k

  -- each of its states has k moves
  pub survivor_full : (q : ℕ) → q < length (survivor_of k m longest) → length (get_or (survivor_of k m longest) q []) ≡ k
  unfolding survivor_of
  survivor_full q h = full_table (survivor_move m longest) (survivor_states m longest) k q (let l = length_survivor in omega arith)

  -- for each state and key it has the move that it is to have
  pub survivor_at : (q x : ℕ) → q < survivor_states m longest → x < k → move (survivor_of k m longest) q x ≡ survivor_move m longest q x
  unfolding survivor_of
  survivor_at = move_table (survivor_move m longest) (survivor_states m longest) k

  -- state s in layer c, where c keys are pressed
  module _ (c s : ℕ) (in_c : c ≤ longest) (in_s : s < length m) where
    -- it is one of the survivor's states
    layer_inside : c * length m + s < survivor_states m longest
    layer_inside = let l : c < longest + 1 = omega arith in digits_lt l in_s

    -- a key leads to the next layer, if there is one; only key 0 in the last layer shows a wrong output
    layer_move : (x : ℕ) → x < k → move (survivor_of k m longest) (c * length m + s) x ≡ record {
      to = min (c + 1) longest * length m + (move m s x).to;
      output = cond (eqb c longest && eqb x 0) (wrong (move m s x).output) (move m s x).output;
    }
    layer_move x h =
        survivor_at (c * length m + s) x layer_inside h
        ∙ ap (λ d. record { to = min (d + 1) longest * length m + (move m ((c * length m + s) % length m) x).to; output = cond (eqb d longest && eqb x 0) (wrong (move m ((c * length m + s) % length m) x).output) (move m ((c * length m + s) % length m) x).output }) (digits_div c in_s)
        ∙ ap (λ t. record { to = min (c + 1) longest * length m + (move m t x).to; output = cond (eqb c longest && eqb x 0) (wrong (move m t x).output) (move m t x).output }) (digits_mod c in_s)

  -- with fewer keys pressed than the bound it does what the machine does, one layer on
  lower_move : (c s x : ℕ) → c < longest → s < length m → x < k →
      ((move made (c * length m + s) x).to ≡ (c + 1) * length m + (move m s x).to) × ((move made (c * length m + s) x).output ≡ (move m s x).output)
  unfolding made
  lower_move c s x h l in_x =
      let here = layer_move c s (omega arith) l x in_x in
      let low : min (c + 1) longest ≡ c + 1 = omega arith in (
        ap (λ (a : Move). a.to) here ∙ ap (λ d. d * length m + (move m s x).to) low,
        ap (λ (a : Move). a.output) here ∙ rw (ne_eqb c longest (λ e. omega arith)),
      )

  -- both show the same on every word that is not too long for the layers that are left
  same_from : (w : Word) (c s : ℕ) → s < length m → c + length w ≤ longest → outputs m s w ≡ outputs made (c * length m + s) w
  unfolding outputs made
  same_from [] c s l h = refl
  same_from (x ∷ w) c s l h =
      elim (cases_lt x k) [
        | inl in_x ↦
            let step = lower_move c s x (omega arith) l in_x in
            let rest = same_from w (c + 1) (move m s x).to (move_below proper s x l) (omega arith) in
            let to = step.0 in
            let output = step.1 in
            cc
        | inr past ↦
            let full = proper.full s l in
            let a = no_key m s x (omega arith) in
            let wide = survivor_full (c * length m + s) (let e = length_survivor in let i = layer_inside c s (omega arith) l in omega arith) in
            let b = no_key made (c * length m + s) x (omega arith) in
            let start : 0 * length m + 0 ≡ 0 = omega (arith, zero-mul (length m)) in
            let rest = same_from w 0 0 proper.some (omega arith) in
            cc
      ]

  -- key 0 pressed once more than the bound
  differs_from : (d c s : ℕ) → 0 < k → s < length m → c + d ≡ longest → outputs m s (replicate (suc d) 0) ≡ outputs made (c * length m + s) (replicate (suc d) 0) → ⊥
  unfolding outputs made
  differs_from zero c s some l h e =
      let here = layer_move c s (omega arith) l 0 some in
      let full : eqb c longest ≡ true = eq-eqb c longest (omega arith) in
      let shown : (move made (c * length m + s) 0).output ≡ wrong (move m s 0).output = ap (λ (a : Move). a.output) here ∙ rw full in
      wrong_differs (move m s 0).output (cc)
  differs_from (suc d) c s some l h e =
      let step = lower_move c s 0 (omega arith) l some in
      let to = step.0 in
      differs_from d (c + 1) (move m s 0).to some (move_below proper s 0 l) (omega arith) (cc)

  -- key 0 pressed any number of times is a word of keys, if there is a key
  zeros : (d : ℕ) → 0 < k → Keys k (replicate d 0)
  zeros zero some = tt
  zeros (suc d) some = (some, zeros d some)

  -- a key leads from one of its states to one of its states
  survivor_closed : (q x : ℕ) → q < survivor_states m longest → x < k → (move (survivor_of k m longest) q x).to < survivor_states m longest
  survivor_closed q x h l =
      let here = ap (λ (a : Move). a.to) (survivor_at q x h l) in
      let low : min (q / length m + 1) longest < longest + 1 = omega arith in
      let inside = move_below proper (q % length m) x (mod-lt q proper.some) in
      rw here (digits_lt low inside)

  -- it shows the same on every word up to the bound, and something else on some word of keys
  pub survives : 0 < k → Survives k m longest (survivor_of k m longest)
  unfolding made
  survives some =
      let n = length_survivor in
      let start : 0 * length m + 0 ≡ 0 = omega (arith, zero-mul (length m)) in
      record {
        proper = record {
          some = let l = layer_inside 0 0 (omega arith) proper.some in omega arith;
          full = survivor_full;
          closed = λ q x h l. let c = survivor_closed q x (omega arith) l in omega arith;
        };
        same = λ w h. let e = same_from w 0 0 proper.some (omega arith) in cc;
        differs = (replicate (suc longest) 0, zeros (suc longest) some, λ e. differs_from longest 0 0 some proper.some (omega arith) (cc));
      }

-- what holds of every word up to a length holds of words that are no longer
same_on_all : (m i : Machine) (ws : List Word) (longest : ℕ) → longest_of ws ≤ longest → ((w : Word) → length w ≤ longest → outputs m 0 w ≡ outputs i 0 w) → AllByRecursion (λ w. outputs m 0 w ≡ outputs i 0 w) ws
unfolding longest_of
same_on_all m i [] longest h same = tt
same_on_all m i (w ∷ ws) longest h same = (same w (omega arith), same_on_all m i ws longest (omega arith) same)

-- for any tests whatever there is a machine that passes them and is not equivalent
pub no_tests_suffice : NoTestsSuffice
no_tests_suffice k m tests proper some =
    let made = survives k m (longest_of tests) proper some in (
      survivor_of k m (longest_of tests),
      made.proper,
      same_on_all m _ tests (longest_of tests) (omega arith) made.same,
      λ e. made.differs.2 (e made.differs.0 made.differs.1),
    )
