-- Judging test by test comes to the verdict on all of them. Assumes nothing.
use Rattle.std.proofs.Common.{◌≡◌, ℕ, suc, ◌+◌, ◌-◌, ◌^◌, ◌<◌, ◌≤◌, Bool, true, false, cond, ltb, List, [], ◌∷◌, ◌++◌, length, get_or, take, drop, is_some, Some, None, Option, sym, refl, ap, ◌∙◌, subst, inl, inr, append_assoc, append-nil, arith, length-append, length-drop}
use Rattle.std.proofs.lemmas.List.{get_or_at, take_all, drop-drop}
use Rattle.std.proofs.lemmas.Bool.{cases_Bool, cases_lt, lt-ltb, le-ltb, ltb-false}
use Rattle.machine.specs.declared.running.Difference.{Difference}
use Rattle.machine.specs.First.{first, or_else}
use Rattle.machine.specs.Machine.{Machine, Word}
use Rattle.machine.specs.Refusals.{Reason, reason}
use Rattle.machine.specs.Run.{model}
use Rattle.machine.proofs.First.{or_else_none, first_cases}
use Rattle.suite.specs.Enumeration.{Fed}
use Rattle.verdict.specs.declared.progress.Progress.{Progress}
use Rattle.verdict.specs.declared.verdicts.Verdict.TheVariants.{Passed}
use Rattle.verdict.specs.Judging.{on_one, on_next, Took}
use Rattle.verdict.specs.Verdict.{keys_of_all, begins_at, shown_on, difference_on, failed_at, first_failed, verdict_of, cut_short, length_refusal}
use Rattle.verdict.proofs.Parts.{begins_more}

-- judging what was shown on the tests ts of a machine
module _ (m : Machine) (ts : List Word) (shown : List ℕ) where
  -- what was shown ends before the test of that number does
  abbrev cut : ℕ → Bool
  cut i = ltb (length shown) (begins_at ts (suc i))

  -- something else was shown on the test of that number
  abbrev fails : ℕ → Bool
  fails i = is_some (difference_on m ts shown i)

  -- after the first j tests
  pub record Sofar (j : ℕ) (s : Progress) : Type 0 where
    pub machine : model s.machine ≡ m
    pub tests : s.tests ≡ j
    pub cut_is : s.cut ≡ first cut j
    pub rest : s.cut ≡ None → s.rest.now ≡ drop (begins_at ts j) shown
    pub inside : s.cut ≡ None → begins_at ts j ≤ length shown
    pub verdict : s.cut ≡ None → s.verdict ≡ first_failed m ts shown (first fails j)

  -- a test that failed stays the first
  stays : (j : ℕ) (w : Word) (part : List ℕ) (i : ℕ) (o : Option Difference) → is_some o ≡ true → on_next m j w part (failed_at ts shown i o) ≡ failed_at ts shown i o
  stays j w part i None e = absurd (let z : ◌≡◌ {A = ℕ} 0 1 = cc in omega arith)
  stays j w part i (Some d) e = refl

  -- the verdict after j tests and the next one is the verdict after j + 1
  next_verdict : (j : ℕ) → on_next m j (get_or ts j []) (shown_on ts shown j) (first_failed m ts shown (first fails j)) ≡ first_failed m ts shown (first fails (suc j))
  unfolding first
  next_verdict j =
      elim (first_cases fails j) [
        | inl a ↦ rw a.0 (one (difference_on m ts shown j) refl)
        | inr b ↦ rw b.1 (stays j (get_or ts j []) (shown_on ts shown j) b.0 (difference_on m ts shown b.0) b.2.passes)
      ]
    where
      one : (o : Option Difference) → difference_on m ts shown j ≡ o → on_one j (shown_on ts shown j) (difference_on m ts shown j) ≡ first_failed m ts shown (cond (fails j) (Some j) None)
      one None e = rw e
      one (Some d) e = rw e (ap (failed_at ts shown j) (sym e))

  -- once the next test is taken, what held after j tests holds after j + 1
  one_more : (j : ℕ) (s t : Progress) (w : Word) → j < length ts → length ts < 2 ^ 64 - 1 → w ≡ get_or ts j [] → Sofar j s → Took s w t → Sofar (suc j) t
  unfolding first
  one_more j s t w h few is so took =
      let more = begins_more ts j h in
      let same = ap length is in
      let tests = so.tests in
      let before : t.cut ≡ None → s.cut ≡ None = λ none. (or_else_none s.cut _ (sym took.cut ∙ none)).0 in
      record {
        machine = ap model took.machine ∙ so.machine;
        tests = took.tests ∙ omega arith;
        cut_is = took.cut ∙ step s.cut refl;
        rest = λ none.
            took.rest none
            ∙ ap (drop (length w)) (so.rest (before none))
            ∙ drop-drop (length w) (begins_at ts j) shown
            ∙ ap (λ n. drop n shown) (let e = more in omega arith);
        inside = λ none. ltb-false _ _ (not_cut (or_else_none (first cut j) _ (sym (took.cut ∙ step s.cut refl) ∙ none)).1);
        verdict = λ none.
            let r = so.rest (before none) in
            let v = so.verdict (before none) in
            took.verdict none
            ∙ (λ i. on_next (so.machine i) (tests i) (is i) (take (length (is i)) (r i)) (v i))
            ∙ next_verdict j;
      }
    where
      not_cut : cond (cut j) (Some j) None ≡ None → cut j ≡ false
      not_cut e = elim (cases_Bool (cut j)) [
        | inl t ↦ absurd (let z : Some j ≡ None = ap (λ b. cond b (Some j) None) (sym t) ∙ e in let y : ◌≡◌ {A = ℕ} 0 1 = cc in omega arith)
        | inr f ↦ f
      ]

      step : (o : Option ℕ) → s.cut ≡ o →
          or_else s.cut (cond (ltb (length s.rest.now) (length w)) (Some s.tests) None) ≡ or_else (first cut j) (cond (cut j) (Some j) None)
      step None e =
          let more = begins_more ts j h in
          let same = ap length is in
          let r = ap length (so.rest e) ∙ length-drop (begins_at ts j) shown in
          let l = so.inside e in
          let test : ltb (length s.rest.now) (length w) ≡ cut j = elim (cases_lt (length s.rest.now) (length w)) [
            | inl low ↦ lt-ltb _ _ low ∙ sym (lt-ltb (length shown) (begins_at ts (suc j)) (omega arith))
            | inr high ↦ le-ltb _ _ high ∙ sym (le-ltb (length shown) (begins_at ts (suc j)) (omega arith))
          ] in
          ap (λ o. or_else o (cond (ltb (length s.rest.now) (length w)) (Some s.tests) None)) so.cut_is
          ∙ (λ i. or_else (first cut j) (cond (test i) (Some (so.tests i)) None))
      step (Some c) e = rw (← so.cut_is, e)

  -- the rest of the tests
  pub all_taken : (rest : List Word) (j : ℕ) (done : List Word) (s t : Progress) → done ++ rest ≡ ts → length done ≡ j → length ts < 2 ^ 64 - 1 → Sofar j s → Fed Took rest s t → Sofar (length ts) t
  unfolding Fed
  all_taken [] j done s t e l few so fed =
      let n : j ≡ length ts = sym l ∙ ap length (sym (append-nil done) ∙ e) in
      let P : ℕ → Type 0 = λ i. Sofar i t in
      let Q : Progress → Type 0 = λ p. Sofar j p in
      subst P n (subst Q fed so)
  all_taken (w ∷ rest) j done s t e l few so fed =
      let mid = fed.0 in
      let here : w ≡ get_or ts j [] = sym (ap (λ z. get_or z j []) (sym e) ∙ get_or_at done w rest [] j l) in
      let inside : j < length ts = let n = ap length e in omega (arith, length-append done (w ∷ rest)) in
      all_taken rest (suc j) (done ++ w ∷ []) mid t (append_assoc done (w ∷ []) rest ∙ e) (omega (arith, length-append done (w ∷ [])))
      few (one_more j s mid w inside few here so fed.1) fed.2

  -- nothing is known before the first test
  pub begun : (s : Progress) → model s.machine ≡ m → s.rest.now ≡ shown → s.tests ≡ 0 → s.cut ≡ None → s.verdict ≡ Passed → Sofar 0 s
  unfolding first keys_of_all
  begun s a b c d f = record { machine = a; tests = c; cut_is = d; rest = λ _. b; inside = λ _. omega arith; verdict = λ _. f }

  -- how much is left in the end
  left : (s : Progress) → Sofar (length ts) s → s.cut ≡ None → (length s.rest.now ≡ length shown - keys_of_all ts) × (keys_of_all ts ≤ length shown)
  left s so none =
      let whole : begins_at ts (length ts) ≡ keys_of_all ts = ap keys_of_all (take_all (length ts) ts (omega arith)) in
      let inside = so.inside none in
      (ap length (so.rest none) ∙ length-drop (begins_at ts (length ts)) shown ∙ ap (λ n. length shown - n) whole, omega arith)

  -- in the end
  pub ended_ok : (s : Progress) → Sofar (length ts) s → s.cut ≡ None → length s.rest.now ≡ 0 → (length_refusal ts (length shown) ≡ None) × (s.verdict ≡ verdict_of m ts shown)
  unfolding length_refusal cut_short verdict_of
  ended_ok s so none all =
      let l = left s so none in
      let e = l.0 in
      let i = l.1 in
      (rw (← so.cut_is, none, le-ltb (keys_of_all ts) (length shown) (omega arith)), so.verdict none)

  -- if what was shown is cut short in a test, it is refused with the number of this test
  pub ended_cut : (s : Progress) → Sofar (length ts) s → (j : ℕ) → s.cut ≡ Some j → length_refusal ts (length shown) ≡ Some (reason 6 j)
  unfolding length_refusal cut_short
  ended_cut s so j e = rw (← so.cut_is, e)

  -- if more was shown than the tests have keys, it is refused with how many tests there are
  pub ended_behind : (s : Progress) → Sofar (length ts) s → s.cut ≡ None → 0 < length s.rest.now → length_refusal ts (length shown) ≡ Some (reason 6 s.tests)
  unfolding length_refusal cut_short
  ended_behind s so none more =
      let l = left s so none in
      let e = l.0 in
      let i = l.1 in
      rw (← so.cut_is, none, lt-ltb (keys_of_all ts) (length shown) (omega arith)) (ap {B = Option Reason} (λ z. Some (reason 6 z)) (sym so.tests))
