-- The first key at which something else was seen than a machine shows. Assumes nothing.
use Rattle.std.specs.Option.{option_eq, is_some, IfSome}
use Rattle.std.proofs.lemmas.Grind.{get_or_default_zero}
use Rattle.std.proofs.Common.{not, eqb, leb, ltb, ◌||◌, Option, sym, ◌∙◌, ◌≡◌, ℕ, ◌<◌, true, false, List, length, get_or, Some, None, ap, inl, inr, arith}
use Rattle.std.proofs.lemmas.List.{ext_get_or}
use Rattle.std.proofs.lemmas.Bool.{ltb-true, ltb-false, le-leb, lt-leb, eq-eqb, eqb-true, or_from, or_parts, not-false, not_from_true}
use Rattle.machine.specs.declared.running.Difference.{Difference}
use Rattle.machine.specs.Machine.{Machine, Word, outputs}
use Rattle.machine.specs.Run.{differs_at, at_key, difference}
use Rattle.machine.proofs.First.{first_none, first_some, first_cases}
use Rattle.machine.proofs.Runs.{length_outputs}

-- where the expected was seen there is no difference
pub seen_same : (expected seen : List ℕ) (i : ℕ) → i < length seen → get_or seen i 0 ≡ get_or expected i 0 → differs_at expected seen i ≡ false
seen_same expected seen i h e = or_from _ _ (lt-leb _ _ h) (not_from_true _ (eq-eqb _ _ e))

-- what was seen at a place, read by `get`, against what is expected there
pub seen_at :
    {B : Type 0} (value : B → ℕ) (seen : List ℕ) (i : ℕ) (x : B) (r : Option B) → is_some r ≡ ltb i (length seen) → IfSome r (λ b. value b ≡ get_or seen i (value b)) →
    not (option_eq (λ a b. eqb (value a) (value b)) r (Some x)) ≡ (leb (length seen) i || not (eqb (get_or seen i 0) (value x)))
seen_at value seen i x None e h = rw (le-leb _ _ (ltb-false i (length seen) (sym e)))
seen_at value seen i x (Some b) e h =
    let inside = ltb-true i (length seen) (sym e) in
    ap (λ y. not (eqb y (value x))) (h ∙ get_or_default_zero seen i (value b) inside) ∙ ap (λ past. past || not (eqb (get_or seen i 0) (value x))) (sym (lt-leb _ _ inside))

module _ (m : Machine) (w : Word) (seen : List ℕ) where
  -- if no key of the word differs there is no difference
  pub difference_none : ((j : ℕ) → j < length w → differs_at (outputs m 0 w) seen j ≡ false) → difference m w seen ≡ None
  unfolding difference
  difference_none none = ap (at_key (outputs m 0 w)) (first_none _ _ none)

  -- the first key of the word that differs is told, with what the machine shows there
  pub difference_some :
      (i : ℕ) → i < length w → differs_at (outputs m 0 w) seen i ≡ true → ((j : ℕ) → j < i → differs_at (outputs m 0 w) seen j ≡ false) →
      difference m w seen ≡ Some (record { key = i; expected = get_or (outputs m 0 w) i 0 })
  unfolding difference
  difference_some i h here none = ap (at_key (outputs m 0 w)) (first_some _ _ i h here none)

  -- nothing differs exactly if what was seen is what the machine shows
  pub difference_same : seen ≡ outputs m 0 w → difference m w seen ≡ None
  difference_same e =
      let n = length_outputs m 0 w in
      let l = ap length e in
      difference_none (λ j h. seen_same (outputs m 0 w) seen j (omega arith) (ap (λ z. get_or z j 0) e))

  -- and the other way round, if as many outputs were seen as the word has keys
  pub same_difference : length seen ≡ length w → difference m w seen ≡ None → seen ≡ outputs m 0 w
  unfolding difference
  same_difference l e =
      let n = length_outputs m 0 w in
      elim (first_cases (differs_at (outputs m 0 w) seen) (length w)) [
        | inl a ↦ ext_get_or 0 seen (outputs m 0 w) (omega arith) (λ j h. eqb-true _ _ (not-false _ (or_parts _ _ (a.1 j (omega arith))).1))
        | inr b ↦ absurd (let s = ap (at_key (outputs m 0 w)) b.1 in let z : ◌≡◌ {A = ℕ} 0 1 = cc in omega arith)
      ]

  -- a difference is at a key of the word
  pub difference_inside : (d : Difference) → difference m w seen ≡ Some d → d.key < length w
  unfolding difference
  difference_inside d e =
      elim (first_cases (differs_at (outputs m 0 w) seen) (length w)) [
        | inl a ↦ absurd (let s = ap (at_key (outputs m 0 w)) a.0 in let z : ◌≡◌ {A = ℕ} 0 1 = cc in omega arith)
        | inr b ↦ let s = ap (at_key (outputs m 0 w)) b.1 in let k : d.key ≡ b.0 = cc in let i = b.2.inside in omega arith
      ]
