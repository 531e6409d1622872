-- Judging test by test, and what the call that judges answers. Assumes nothing: these are definitions.
use Rattle.std.specs.Prelude.{◌≡◌, ℕ, ◌+◌, ◌-◌, ◌^◌, ◌<◌, ◌≤◌, min, cond, ◌⊎◌, List, length, take, drop, Some, None, Ok, Err, Option, Result, ◌≢◌, nat_lt, slice_index}
use Rattle.machine.specs.declared.refusals.Refusal.{Refusal}
use Rattle.machine.specs.declared.running.Difference.{Difference}
use Rattle.machine.specs.First.{or_else}
use Rattle.machine.specs.Machine.{Machine, Word}
use Rattle.machine.specs.Refusals.{reason, reason_of}
use Rattle.machine.specs.Row.{keys_in, machine_in}
use Rattle.machine.specs.Run.{model, difference}
use Rattle.suite.specs.Answer.{Testable, Untestable, made}
use Rattle.verdict.specs.declared.progress.Progress.{Progress}
use Rattle.verdict.specs.declared.verdicts.Verdict.{Verdict}
use Rattle.verdict.specs.declared.verdicts.Verdict.TheVariants.{Passed, Failed}
use Rattle.verdict.specs.Promises.{Means}
use Rattle.verdict.specs.Verdict.{verdict_of, length_refusal, shown_by}

-- the verdict on one test: its number, what was shown on it, and the first difference
abbrev pub on_one : ℕ → List ℕ → Option Difference → Verdict
on_one j part None = Passed
on_one j part (Some d) = Failed j d.key (slice_index part d.key) d.expected

-- the verdict after one test more: a board that failed has failed
abbrev pub on_next : Machine → ℕ → Word → List ℕ → Verdict → Verdict
on_next m j w part Passed = on_one j part (difference m w part)
on_next m j w part (Failed test key shown expected) = Failed test key shown expected

-- what one test more makes of it
pub record Took (s : Progress) (w : Word) (t : Progress) : Type 0 where
  pub machine : t.machine ≡ s.machine
  pub tests : t.tests ≡ min (s.tests + 1) (2 ^ 64 - 1)
  pub cut : t.cut ≡ or_else s.cut (cond (nat_lt (length s.rest.now) (length w)) (Some s.tests) None)
  pub rest : t.cut ≡ None → t.rest.now ≡ drop (length w) s.rest.now
  pub verdict : t.cut ≡ None → t.verdict ≡ on_next (model s.machine) s.tests w (take (length w) s.rest.now) s.verdict

-- what is said in the end: the verdict, if all was shown and nothing more; else where it was cut short, or how many tests there were
abbrev pub Ended : Progress → Result Verdict Refusal → Type 0
Ended s (Ok v) = (s.cut ≡ None) × (length s.rest.now ≡ 0) × (v ≡ s.verdict)
Ended s (Err f) = ((j : ℕ) × (s.cut ≡ Some j) × (reason_of f ≡ reason 6 j)) ⊎ ((s.cut ≡ None) × (0 < length s.rest.now) × (reason_of f ≡ reason 6 s.tests))

-- what was shown does not fit the tests, so no machine showed it
pub record Misfit (row : List ℕ) (e : ℕ) (shown : List ℕ) (f : Refusal) : Type 0 where
  pub testable : Testable row e
  pub reason_is : length_refusal (made row e) (length shown) ≡ Some (reason_of f)
  pub by_none : (i : Machine) → shown ≢ shown_by i (made row e)

-- the verdict, with what it means
pub record Judged (row : List ℕ) (e : ℕ) (shown : List ℕ) (v : Verdict) : Type 0 where
  pub testable : Testable row e
  pub fits : length_refusal (made row e) (length shown) ≡ None
  pub verdict_is : v ≡ verdict_of (machine_in row) (made row e) shown
  pub means : Means (keys_in row) e (machine_in row) shown v

-- the answer: the verdict, or why there are no tests, or why what was shown does not fit them
abbrev pub Judgement : List ℕ → ℕ → List ℕ → Result Verdict Refusal → Type 0
Judgement row e shown (Ok v) = Judged row e shown v
Judgement row e shown (Err f) = Untestable row e (reason_of f) ⊎ Misfit row e shown f
