-- What was shown, test by test. Assumes nothing.
use Rattle.std.proofs.Common.{◌≡◌, ℕ, zero, suc, ◌+◌, ◌<◌, ◌≤◌, ltb, List, [], ◌∷◌, ◌++◌, length, get_or, take, drop, None, sym, refl, ap, ◌∙◌, arith, length-append}
use lib.Seq.{drop-append-add}
use Rattle.std.proofs.lemmas.List.{take_at}
use Rattle.std.proofs.lemmas.Bool.{le-ltb}
use Rattle.machine.specs.Machine.{Machine, Word, outputs}
use Rattle.machine.proofs.First.{first_none}
use Rattle.machine.proofs.Runs.{length_outputs}
use Rattle.verdict.specs.Verdict.{keys_of_all, begins_at, shown_on, cut_short, length_refusal, shown_by}

-- one test more
pub begins_more : (ts : List Word) (i : ℕ) → i < length ts → begins_at ts (suc i) ≡ begins_at ts i + length (get_or ts i [])
unfolding keys_of_all
begins_more [] i h = absurd (omega arith)
begins_more (t ∷ ts) zero h = omega arith
begins_more (t ∷ ts) (suc i) h = let r = begins_more ts i (omega arith) in omega arith

-- what is shown on the first tests is no more than on all
begins_most : (ts : List Word) (i : ℕ) → begins_at ts i ≤ keys_of_all ts
unfolding keys_of_all
begins_most [] zero = omega arith
begins_most [] (suc i) = omega arith
begins_most (t ∷ ts) zero = omega arith
begins_most (t ∷ ts) (suc i) = let r = begins_most ts i in omega arith

-- a machine shows as many numbers as the tests have keys
pub length_shown_by : (i : Machine) (ts : List Word) → length (shown_by i ts) ≡ keys_of_all ts
unfolding keys_of_all
length_shown_by i [] = refl
length_shown_by i (t ∷ ts) = let r = length_shown_by i ts in let s = length_outputs i 0 t in length-append (outputs i 0 t) (shown_by i ts) ∙ omega arith

-- behind the first tests
shown_behind : (i : Machine) (ts : List Word) (j : ℕ) → drop (begins_at ts j) (shown_by i ts) ≡ shown_by i (drop j ts)
unfolding keys_of_all
shown_behind i [] zero = refl
shown_behind i [] (suc j) = refl
shown_behind i (t ∷ ts) zero = refl
shown_behind i (t ∷ ts) (suc j) =
    ap (λ n. drop (n + keys_of_all (take j ts)) (outputs i 0 t ++ shown_by i ts)) (sym (length_outputs i 0 t))
    ∙ drop-append-add (outputs i 0 t) (shown_by i ts) (keys_of_all (take j ts))
    ∙ shown_behind i ts j

-- what is shown behind the first j tests begins with what is shown on the next
first_behind : (i : Machine) (ts : List Word) (j : ℕ) → j < length ts → take (length (get_or ts j [])) (shown_by i (drop j ts)) ≡ outputs i 0 (get_or ts j [])
first_behind i [] j h = absurd (omega arith)
first_behind i (t ∷ ts) zero h = take_at (outputs i 0 t) (shown_by i ts) (length t) (length_outputs i 0 t)
first_behind i (t ∷ ts) (suc j) h = first_behind i ts j (omega arith)

-- what a machine shows on all tests has what it shows on each of them
pub shown_on_each : (i : Machine) (ts : List Word) (j : ℕ) → j < length ts → shown_on ts (shown_by i ts) j ≡ outputs i 0 (get_or ts j [])
shown_on_each i ts j h = ap (take (length (get_or ts j []))) (shown_behind i ts j) ∙ first_behind i ts j h

-- as many numbers as the tests have keys are not refused
pub fitting_length : (ts : List Word) (n : ℕ) → n ≡ keys_of_all ts → length_refusal ts n ≡ None
unfolding length_refusal cut_short
fitting_length ts n e =
    let whole = first_none (λ i. ltb n (begins_at ts (suc i))) (length ts) (λ j h. le-ltb _ _ (let b = begins_most ts (suc j) in omega arith)) in
    rw (whole, le-ltb (keys_of_all ts) n (omega arith))
