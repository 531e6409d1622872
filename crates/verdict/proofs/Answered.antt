-- From what is known after the last test to the answer of judging. Assumes nothing.
use Rattle.std.proofs.Common.{◌≡◌, ℕ, List, length, Some, Ok, Err, Option, Result, sym, ap, ◌∙◌, inl, inr, arith}
use Rattle.machine.specs.declared.refusals.Refusal.{Refusal}
use Rattle.machine.specs.Refusals.{Reason, reason_of}
use Rattle.machine.specs.Row.{keys_in, machine_in}
use Rattle.machine.proofs.Rows.{proper_in}
use Rattle.suite.specs.Answer.{Testable, made}
use Rattle.suite.proofs.Tested.{tests_follow}
use Rattle.verdict.specs.declared.progress.Progress.{Progress}
use Rattle.verdict.specs.declared.verdicts.Verdict.{Verdict}
use Rattle.verdict.specs.Judging.{Ended, Misfit, Judgement}
use Rattle.verdict.specs.Verdict.{verdict_of, length_refusal}
use Rattle.verdict.proofs.Meaning.{verdict_means}
use Rattle.verdict.proofs.Parts.{fitting_length, length_shown_by}
use Rattle.verdict.proofs.Taken.{Sofar, ended_ok, ended_cut, ended_behind}

-- a row that has tests, and what is known after the last of them
module _ (row : List ℕ) (e : ℕ) (shown : List ℕ) (testable : Testable row e) (s : Progress) (so : Sofar (machine_in row) (made row e) shown (length (made row e)) s) where
  -- what a machine shows on the tests is not refused
  misfit : (f : Refusal) → length_refusal (made row e) (length shown) ≡ Some (reason_of f) → Misfit row e shown f
  misfit f is = record {
    testable = testable;
    reason_is = is;
    by_none = λ i same.
        let fits = fitting_length (made row e) (length shown) (ap length same ∙ length_shown_by i (made row e)) in
        let z : ◌≡◌ {A = ℕ} 0 1 = cc in omega arith;
  }

  -- what is said in the end is a judgement that is right
  pub answered : (r : Result Verdict Refusal) → Ended s r → Judgement row e shown r
  answered (Ok v) end =
      let told = ended_ok (machine_in row) (made row e) shown s so end.0 end.1 in
      let follow = tests_follow (keys_in row) e (machine_in row) (proper_in row testable.accepted) testable.minimal in
      let is : v ≡ verdict_of (machine_in row) (made row e) shown = end.2 ∙ told.1 in
      record {
        testable = testable;
        fits = told.0;
        verdict_is = is;
        means = rw is (verdict_means (keys_in row) e (machine_in row) shown follow.passing follow.equivalent);
      }
  answered (Err f) (inl cut) = inr (misfit f (ended_cut (machine_in row) (made row e) shown s so cut.0 cut.1 ∙ ap {B = Option Reason} Some (sym cut.2)))
  answered (Err f) (inr more) = inr (misfit f (ended_behind (machine_in row) (made row e) shown s so more.0 more.1 ∙ ap {B = Option Reason} Some (sym more.2)))
