-- What a verdict means for a machine that shows what was shown. Assumes nothing.
use Rattle.std.proofs.Common.{◌≡◌, ℕ, ◌<◌, true, List, [], ◌∷◌, length, get_or, is_some, Some, None, Option, sym, ap, ◌∙◌, inl, inr, arith}
use Rattle.std.proofs.ByRecursion.{All-from_get_or, All-get_or, all-has}
use Rattle.machine.specs.declared.running.Difference.{Difference}
use Rattle.machine.specs.Machine.{Machine, Word, outputs}
use Rattle.machine.proofs.Differences.{difference_same, same_difference}
use Rattle.machine.proofs.First.{none_from_test, first_none, first_cases}
use Rattle.machine.proofs.Runs.{length_outputs, outputs_front}
use Rattle.suite.specs.Promises.{PassingIsEquivalent, EquivalentPasses}
use Rattle.suite.specs.Suite.{tests, Passes}
use Rattle.verdict.specs.declared.verdicts.Verdict.TheVariants.{Passed}
use Rattle.verdict.specs.Promises.{Means, BeginningsPass}
use Rattle.verdict.specs.Verdict.{shown_on, difference_on, failed_at, first_failed, verdict_of, shown_by}
use Rattle.verdict.proofs.Parts.{shown_on_each}

-- with a difference the verdict is not that the board passed
failed_not_passed : (ts : List Word) (shown : List ℕ) (i : ℕ) (o : Option Difference) → is_some o ≡ true → failed_at ts shown i o ≡ Passed → ⊥
failed_not_passed ts shown i None s e = let z : ◌≡◌ {A = ℕ} 0 1 = cc in omega arith
failed_not_passed ts shown i (Some d) s e = let z : ◌≡◌ {A = ℕ} 0 1 = cc in omega arith

module _ (m : Machine) (ts : List Word) (shown : List ℕ) where
  -- passed exactly if no test shows a difference
  passed_none : verdict_of m ts shown ≡ Passed → (j : ℕ) → j < length ts → difference_on m ts shown j ≡ None
  unfolding verdict_of
  passed_none e j h =
      elim (first_cases (λ i. is_some (difference_on m ts shown i)) (length ts)) [
        | inl a ↦ none_from_test (difference_on m ts shown j) (a.1 j h)
        | inr b ↦ absurd (failed_not_passed ts shown b.0 (difference_on m ts shown b.0) b.2.passes (sym (ap (first_failed m ts shown) b.1) ∙ e))
      ]

  -- and the other way round
  none_passed : ((j : ℕ) → j < length ts → difference_on m ts shown j ≡ None) → verdict_of m ts shown ≡ Passed
  unfolding verdict_of
  none_passed none = ap (first_failed m ts shown) (first_none _ _ (λ j h. ap is_some (none j h)))

module _ (m i : Machine) (ts : List Word) where
  -- a machine passes the tests exactly if what it shows is judged so
  passed_passes : verdict_of m ts (shown_by i ts) ≡ Passed → Passes m i ts
  passed_passes e =
      All-from_get_or _ ts [] (λ j h.
      let part = shown_on_each i ts j h in
      let long = ap length part ∙ length_outputs i 0 (get_or ts j []) in
      sym (sym part ∙ same_difference m (get_or ts j []) (shown_on ts (shown_by i ts) j) long (passed_none m ts (shown_by i ts) e j h)))

  -- and the other way round
  passes_passed : Passes m i ts → verdict_of m ts (shown_by i ts) ≡ Passed
  passes_passed all =
      none_passed m ts (shown_by i ts) (λ j h.
      difference_same m (get_or ts j []) (shown_on ts (shown_by i ts) j) (shown_on_each i ts j h ∙ sym (All-get_or (λ w. outputs m 0 w ≡ outputs i 0 w) ts j [] h all)))

-- passed means equivalent and equivalent means passed, if this is so of passing the tests
pub verdict_means :
    (k e : ℕ) (m : Machine) (shown : List ℕ) → PassingIsEquivalent k e m → EquivalentPasses k e m → Means k e m shown (verdict_of m (tests k e m) shown)
verdict_means k e m shown main back = record {
  passed = λ i proper few is ok. main i proper few (passed_passes m i (tests k e m) (ap (verdict_of m (tests k e m)) (sym is) ∙ ok));
  equivalent = λ i is same. ap (verdict_of m (tests k e m)) is ∙ passes_passed m i (tests k e m) (back i same);
}

-- whoever passes tests passes their beginnings
pub beginnings_pass : BeginningsPass
beginnings_pass m i [] vs begin passes = tt
beginnings_pass m i (w ∷ ws) vs begin passes =
    let v = begin.0 in
    let whole = all-has (λ u. outputs m 0 u ≡ outputs i 0 u) vs v.0 passes v.1 in (
      outputs_front m i 0 0 w v.2.0 (sym (ap (outputs m 0) v.2.1) ∙ whole ∙ ap (outputs i 0) v.2.1),
      beginnings_pass m i ws vs begin.1 passes,
    )
