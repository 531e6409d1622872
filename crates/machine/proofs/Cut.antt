-- A word with as many keys as the machine has states runs through a state twice, and the loop between can be cut out: so first words are short. Assumes nothing.
use Rattle.std.proofs.Common.{◌≡◌, ℕ, zero, suc, ◌<◌, ◌≤◌, eqb, ◌++◌, length, take, drop, sym, refl, ap, ◌∙◌, inl, inr, arith, length-append, length-drop}
use Rattle.std.proofs.lemmas.List.{take-append-drop, length-take-le}
use Rattle.std.proofs.ByRecursion.{All-append, All-take, All-drop}
use Rattle.std.proofs.lemmas.Bool.{cases_lt, eqb-true, eq-eqb}
use Rattle.machine.specs.Machine.{Machine, Word, Keys, Proper, after}
use Rattle.machine.specs.Words.{FirstWord, up_to}
use Rattle.machine.proofs.Enumeration.{first_in, first_in_up_to}
use Rattle.machine.proofs.Pigeonhole.{pigeonhole}
use Rattle.machine.proofs.Runs.{after_append, after_below}

module _ {k : ℕ} {m : Machine} (proper : Proper k m) (s : ℕ) (inside : s < length m) where
  -- a shorter word that leads to the same state
  cut_loop : (w : Word) → Keys k w → length m ≤ length w → (v : Word) × Keys k v × (length v < length w) × (after m s v ≡ after m s w)
  cut_loop w keys long =
      let p = pigeonhole (length m) (λ a. after m s (take a w)) (λ a h. after_below proper s (take a w) inside) in
      let a = p.0 in
      let b = p.1 in
      let ab = p.2 in
      let bn = p.3 in (
        take a w ++ drop b w,
        All-append (λ x. x < k) (take a w) (drop b w) (All-take (λ x. x < k) a w keys) (All-drop (λ x. x < k) b w keys),
        omega (arith, length-append (take a w) (drop b w), length-take-le a w (omega arith), length-drop b w),
        after_append m s (take a w) (drop b w) ∙ ap (λ z. after m z (drop b w)) p.4 ∙ sym (after_append m s (take b w) (drop b w)) ∙ ap (after m s) (take-append-drop b w),
      )

  -- and one with fewer keys than there are states
  cut_short : (w : Word) → Keys k w → (v : Word) × Keys k v × (length v < length m) × (after m s v ≡ after m s w)
  cut_short w keys = go (length w) w keys (omega arith)
    where
      go : (n : ℕ) (w : Word) → Keys k w → length w ≤ n → (v : Word) × Keys k v × (length v < length m) × (after m s v ≡ after m s w)
      go zero w keys h = (w, keys, (let i = inside in omega arith), refl)
      go (suc n) w keys h =
          elim (cases_lt (length w) (length m)) [
            | inl l ↦ (w, keys, l, refl)
            | inr g ↦
                let c = cut_loop w keys g in
                let r = go n c.0 c.1 (let l = c.2 in omega arith) in
                (r.0, r.1, r.2, r.3 ∙ c.3)
          ]

  -- the first word to a state has fewer keys than there are states
  pub first_short : (t : ℕ) (w : Word) → FirstWord k (λ v. after m s v ≡ t) w → length w < length m
  first_short t w first =
      elim (cases_lt (length w) (length m)) [
        | inl l ↦ l
        | inr g ↦ let c = cut_loop w first.keys g in absurd (first.earliest c.0 c.1 (inl c.2) (c.3 ∙ first.holds))
      ]

  -- a state that can be reached has a first word, which is found among the words of at most as many keys as there are states
  pub first_access : (t : ℕ) (w : Word) → Keys k w → after m s w ≡ t → FirstWord k (λ v. after m s v ≡ t) (first_in (λ v. eqb (after m s v) t) (up_to k (length m)))
  first_access t w keys reached =
      let c = cut_short w keys in
      first_in_up_to k (length m) (λ v. eqb (after m s v) t) (λ v. after m s v ≡ t) (λ v e. eqb-true _ _ e) (λ v _ e. eq-eqb _ _ e)
      c.0 c.1 (let l = c.2 in omega arith) (c.3 ∙ reached)
