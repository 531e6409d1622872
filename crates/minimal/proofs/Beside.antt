-- Two machines beside each other as one: the states of the second behind those of the first. So what holds of two states of one machine holds of two machines. Assumes nothing.
use Rattle.std.proofs.Common.{◌≡◌, ℕ, ◌+◌, ◌-◌, ◌<◌, List, [], ◌∷◌, ◌++◌, map, length, get_or, sym, refl, ap, ◌∙◌, inl, inr, arith, length-append}
use Rattle.std.proofs.lemmas.List.{get_or_append_left, get_or-append-add, get_or-map, length-map}
use Rattle.std.proofs.lemmas.Bool.{cases_lt}
use Rattle.machine.specs.Machine.{Machine, Move, Word, Keys, Proper, move, no_move, outputs}
use Rattle.minimal.specs.Promises.{ShortDifference}
use Rattle.minimal.proofs.Moore.{short_separation}

-- a move that leads n states further
shift : ℕ → Move → Move
shift n a = record { to = n + a.to; output = a.output }

-- the states of m, and behind them those of i, whose moves lead as many states further
beside : Machine → Machine → Machine
beside m i = m ++ map (map (shift (length m))) i

module _ (m i : Machine) where
  -- there are as many states as both have together
  length_beside : length (beside m i) ≡ length m + length i
  unfolding beside
  length_beside = length-append m _ ∙ ap (λ n. length m + n) (length-map i (map (shift (length m))))

  -- a state of the first has the moves that it had
  row_first : (s : ℕ) → s < length m → get_or (beside m i) s [] ≡ get_or m s []
  unfolding beside
  row_first s h = get_or_append_left m _ [] s h

  -- a state of the second has the moves that it had, each leading further
  row_second : (t : ℕ) → t < length i → get_or (beside m i) (length m + t) [] ≡ map (shift (length m)) (get_or i t [])
  unfolding beside
  row_second t h = get_or-append-add m _ t [] ∙ get_or-map (map (shift (length m))) i t [] [] h

  -- a key does in a state of the first what it did
  move_first : (s x : ℕ) → s < length m → move (beside m i) s x ≡ move m s x
  unfolding move
  move_first s x h = ap (λ r. get_or r x no_move) (row_first s h)

  module _ (k : ℕ) (first : Proper k m) (second : Proper k i) where
    -- a key does in a state of the second what it did, and leads further
    move_second : (t x : ℕ) → t < length i → x < k → move (beside m i) (length m + t) x ≡ shift (length m) (move i t x)
    unfolding move
    move_second t x h l =
        ap (λ r. get_or r x no_move) (row_second t h)
        ∙ get_or-map (shift (length m)) (get_or i t []) x no_move no_move (let f = second.full t h in omega arith)

    -- a state of the first shows what it showed
    outputs_first : (s : ℕ) (w : Word) → s < length m → Keys k w → outputs (beside m i) s w ≡ outputs m s w
    unfolding outputs
    outputs_first s [] h ok = refl
    outputs_first s (x ∷ w) h ok =
        let here = move_first s x h in
        let rest = outputs_first (move m s x).to w (first.closed s x h ok.0) ok.1 in
        cc

    -- a state of the second shows what it showed
    outputs_second : (t : ℕ) (w : Word) → t < length i → Keys k w → outputs (beside m i) (length m + t) w ≡ outputs i t w
    unfolding outputs shift
    outputs_second t [] h ok = refl
    outputs_second t (x ∷ w) h ok =
        let here = move_second t x h ok.0 in
        let rest = outputs_second (move i t x).to w (second.closed t x h ok.0) ok.1 in
        simp here (ap {B = List ℕ} (λ r. (move i t x).output ∷ r) rest)

    -- two proper machines beside each other are a proper one
    beside_proper : Proper k (beside m i)
    unfolding shift
    beside_proper = record {
      some = (let l = first.some in omega (arith, length_beside));
      full = λ s h. elim (cases_lt s (length m)) [
        | inl l ↦ ap length (row_first s l) ∙ first.full s l
        | inr g ↦ let e : length m + (s - length m) ≡ s = omega arith in
            let inside : s - length m < length i = omega (arith, length_beside) in
            let there = second.full (s - length m) inside in
            ap (λ t. length (get_or (beside m i) t [])) (sym e) ∙ ap length (row_second (s - length m) inside) ∙ length-map (get_or i (s - length m) []) (shift (length m)) ∙ there
      ];
      closed = λ s x h l. elim (cases_lt s (length m)) [
        | inl b ↦ rw (move_first s x b) (let c = first.closed s x b l in omega (arith, length_beside))
        | inr g ↦ let e : s ≡ length m + (s - length m) = omega arith in
            let inside : s - length m < length i = omega (arith, length_beside) in
            rw (e, move_second (s - length m) x inside l) (let c = second.closed (s - length m) x inside l in omega (arith, length_beside))
      ];
    }

-- machines that show the same on words with fewer keys than they have states together are equivalent
pub short_difference : ShortDifference
short_difference k m i first second h w ok =
    let a = first.some in
    let b = second.some in
    sym (outputs_first m i k first second 0 w a ok)
    ∙ short_separation k (beside m i) 0 (length m + 0) (beside_proper m i k first second) (omega (arith, length_beside m i)) (omega (arith, length_beside m i))
    (λ v keys l. outputs_first m i k first second 0 v a keys ∙ h v keys (omega (arith, length_beside m i)) ∙ sym (outputs_second m i k first second 0 v b keys))
    w ok
    ∙ outputs_second m i k first second 0 w b ok
