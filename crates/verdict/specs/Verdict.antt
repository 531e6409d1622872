-- Judging what was shown on some tests, one after the other. Assumes nothing: these are definitions.
use Rattle.std.specs.Prelude.{ℕ, suc, ◌+◌, List, [], ◌∷◌, length, take, drop, is_some, Some, None, Option, nat_lt, slice_index, slice_index_or}
use Rattle.std.specs.List.{flat_map}
use Rattle.machine.specs.declared.running.Difference.{Difference}
use Rattle.machine.specs.First.{first, or_else}
use Rattle.machine.specs.Machine.{Machine, Word, outputs}
use Rattle.machine.specs.Refusals.{Reason, reason, refuse_if}
use Rattle.machine.specs.Run.{difference}
use Rattle.verdict.specs.declared.verdicts.Verdict.{Verdict}
use Rattle.verdict.specs.declared.verdicts.Verdict.TheVariants.{Passed, Failed}

-- how many keys some tests have together: so many numbers are shown on them
unfoldable pub keys_of_all : List Word → ℕ
keys_of_all [] = 0
keys_of_all (t ∷ ts) = length t + keys_of_all ts

-- where what was shown on a test begins
abbrev pub begins_at : List Word → ℕ → ℕ
begins_at ts i = keys_of_all (take i ts)

-- what was shown on a test
abbrev pub shown_on : List Word → List ℕ → ℕ → List ℕ
shown_on ts shown i = take (length (slice_index_or ts i [])) (drop (begins_at ts i) shown)

-- the first key of a test at which something else was shown
abbrev pub difference_on : Machine → List Word → List ℕ → ℕ → Option Difference
difference_on m ts shown i = difference m (slice_index_or ts i []) (shown_on ts shown i)

-- the verdict by the first difference on a test: failed there, or passed if there is none
abbrev pub failed_at : List Word → List ℕ → ℕ → Option Difference → Verdict
failed_at ts shown i None = Passed
failed_at ts shown i (Some d) = Failed i d.key (slice_index (shown_on ts shown i) d.key) d.expected

-- the verdict by the first test with a difference: failed there, or passed if there is none
abbrev pub first_failed : Machine → List Word → List ℕ → Option ℕ → Verdict
first_failed m ts shown None = Passed
first_failed m ts shown (Some i) = failed_at ts shown i (difference_on m ts shown i)

-- passed, or the first test and in it the first key at which something else was shown than the machine shows
unfoldable pub verdict_of : Machine → List Word → List ℕ → Verdict
verdict_of m ts shown = first_failed m ts shown (first (λ i. is_some (difference_on m ts shown i)) (length ts))

-- the first test of which not all was shown
unfoldable pub cut_short : List Word → ℕ → Option ℕ
cut_short ts n = first (λ i. nat_lt n (begins_at ts (suc i))) (length ts)

-- the reason for refusing what is cut short in a test
abbrev pub in_test : Option ℕ → Option Reason
in_test None = None
in_test (Some i) = Some (reason 6 i)

-- why what was shown does not fit the tests: cut short in a test, or something behind the last
unfoldable pub length_refusal : List Word → ℕ → Option Reason
length_refusal ts n = or_else (in_test (cut_short ts n)) (refuse_if (nat_lt (keys_of_all ts) n) 6 (length ts))

-- what a machine shows on some tests, one after the other
abbrev pub shown_by : Machine → List Word → List ℕ
shown_by i ts = flat_map (outputs i 0) ts
