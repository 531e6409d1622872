-- Reading tests out of a row, one after the other. Assumes nothing.
use Rattle.std.proofs.Common.{◌≡◌, ℕ, zero, suc, ◌-◌, ◌<◌, ◌≤◌, min, ◌⊎◌, List, [], ◌∷◌, ◌++◌, length, replicate, get_or, take, drop, sym, refl, ap, ◌∙◌, inl, inr, append_assoc, arith, length-drop, length-take, ◌+◌}
use Rattle.std.proofs.lemmas.Bool.{cases_lt}
use Rattle.std.proofs.Math.Seq.{take-nil, drop-cons}
use Rattle.std.proofs.lemmas.List.{take_all, take_at, drop_at, drop_all, drop-drop}
use Rattle.machine.specs.Machine.{Word}
use Rattle.machine.specs.Row.{word_in}
use Rattle.suite.specs.Reading.{words_from, tests_of}
use Rattle.suite.specs.Written.{words_out, tests_row, words_in}

-- of a row that is at its end nothing is read
pub from_nothing : (n : ℕ) (row : List ℕ) → length row ≡ 0 → words_from n row ≡ []
unfolding words_from
from_nothing zero row e = refl
from_nothing (suc n) [] e = refl
from_nothing (suc n) (x ∷ row) e = absurd (omega arith)

-- where no more tests are to be read, nothing is
pub from_none : (n : ℕ) (row : List ℕ) → n ≡ 0 → words_from n row ≡ []
unfolding words_from
from_none n row e = rw e

-- the first test, as the code cuts it out, and those behind it
pub from_first : (n x : ℕ) (row behind test rest : List ℕ) → (n ≡ 0 → ⊥) → row ≡ x ∷ behind → test ≡ take (min (length behind) x) behind → rest ≡ drop (min (length behind) x) behind →
    words_from n row ≡ test ∷ words_from (n - 1) rest
unfolding words_from
from_first zero x row behind test rest some e t r = absurd (some refl)
from_first (suc n) x row behind test rest some e t r = rw e (whole (cut (cases_lt x (length behind))))
  where
    less : suc n - 1 ≡ n
    less = omega arith

    cut : (x < length behind) ⊎ (length behind ≤ x) → (take (min (length behind) x) behind ≡ take x behind) × (drop (min (length behind) x) behind ≡ drop x behind)
    cut (inl h) = let m : min (length behind) x ≡ x = omega arith in (ap (λ j. take j behind) m, ap (λ j. drop j behind) m)
    cut (inr h) = let m : min (length behind) x ≡ length behind = omega arith in (
      ap (λ j. take j behind) m ∙ take_all (length behind) behind (omega arith) ∙ sym (take_all x behind h),
      ap (λ j. drop j behind) m ∙ drop_all (length behind) behind (omega arith) ∙ sym (drop_all x behind h),
    )

    whole : (take (min (length behind) x) behind ≡ take x behind) × (drop (min (length behind) x) behind ≡ drop x behind) → take x behind ∷ words_from n (drop x behind) ≡ test ∷ words_from (suc n - 1) rest
    whole c = rw (t, r, c.0, c.1, less)

-- reading what was written gives the words, whatever stands behind them
from_written : (ts : List Word) (behind : List ℕ) → words_from (length ts) (words_out ts ++ behind) ≡ ts
unfolding words_from words_out
from_written [] behind = refl
from_written (w ∷ ts) behind =
    ap (λ row. take (length w) row ∷ words_from (length ts) (drop (length w) row)) (append_assoc w (words_out ts) behind)
    ∙ ap (λ z. z ∷ words_from (length ts) (drop (length w) (w ++ (words_out ts ++ behind)))) (take_at w (words_out ts ++ behind) (length w) refl)
    ∙ ap (λ z. w ∷ z) (ap (words_from (length ts)) (drop_at w (words_out ts ++ behind) (length w) refl) ∙ from_written ts behind)

-- so the tests in a row that begins with written tests are these
pub tests_written : (row : List ℕ) (ts : List Word) (behind : List ℕ) → row ≡ tests_row ts ++ behind → tests_of row ≡ ts
unfolding tests_of
tests_written row ts behind e = rw e (from_written ts behind)

-- of a row with no number at all there are none
pub tests_nothing : (row : List ℕ) → length row ≡ 0 → words_from 0 row ≡ tests_of row
unfolding tests_of words_from
tests_nothing [] e = refl
tests_nothing (x ∷ row) e = absurd (omega arith)

-- otherwise as many as the first number says
pub tests_first : (row rest : List ℕ) (n : ℕ) → row ≡ n ∷ rest → words_from n rest ≡ tests_of row
unfolding tests_of
tests_first row rest n e = rw e refl

-- there are no more tests than numbers
pub from_few : (n : ℕ) (row : List ℕ) → length (words_from n row) ≤ length row
unfolding words_from
from_few zero row = omega arith
from_few (suc n) [] = omega arith
from_few (suc n) (x ∷ row) = omega (arith, from_few n (drop x row), length-drop x row)

-- reading place by place, behind the end of a row there are only empty words
in_nothing : (n : ℕ) (row : List ℕ) (at : ℕ) → length row ≤ at → words_in n row at ≡ replicate n []
unfolding words_in
in_nothing zero row at h = refl
in_nothing (suc n) row at h =
    let none : word_in row at ≡ [] = ap (take (get_or row at 0)) (drop_all (suc at) row (omega arith)) ∙ take-nil (get_or row at 0) in
    rw none (ap (λ ws. [] ∷ ws) (in_nothing n row (at + 1) (omega arith)))

-- so what is read place by place is what is read one after the other, and then empty words
pub in_from : (n : ℕ) (row : List ℕ) (at : ℕ) → (k : ℕ) × (words_in n row at ≡ words_from n (drop at row) ++ replicate k [])
unfolding words_in words_from
in_from zero row at = (0, refl)
in_from (suc n) row at = elim (cases_lt at (length row)) [
  | inl h ↦ let r = behind (in_from n row (at + suc (length w))) h (cases_lt (length rest) x) in (r.0, ap (λ ws. w ∷ ws) r.1 ∙ sym (ap (λ z. words_from (suc n) z ++ replicate r.0 []) (drop-cons row at 0 h)))
  | inr h ↦ (suc n, in_nothing (suc n) row at h ∙ sym (ap (λ z. words_from (suc n) z ++ replicate (suc n) []) (drop_all at row h)))
]
  where
    x : ℕ
    x = get_or row at 0

    rest : List ℕ
    rest = drop (suc at) row

    w : Word
    w = word_in row at

    behind : (k : ℕ) × (words_in n row (at + suc (length w)) ≡ words_from n (drop (at + suc (length w)) row) ++ replicate k []) → at < length row → (length rest < x) ⊎ (x ≤ length rest) → (k : ℕ) × (words_in n row (at + suc (length w)) ≡ words_from n (drop x rest) ++ replicate k [])
    behind again h (inl over) = (
      n,
      in_nothing n row (at + suc (length w)) (omega (arith, length-take x rest, length-drop (suc at) row))
          ∙ sym (ap (λ z. z ++ replicate n []) (from_nothing n (drop x rest) (omega (arith, length-drop x rest)))),
    )
    behind again h (inr whole) =
        let place : at + suc (length w) ≡ suc at + x = omega (arith, length-take x rest) in
        (again.0, again.1 ∙ ap (λ z. words_from n z ++ replicate again.0 []) (ap (λ j. drop j row) place ∙ sym (drop-drop x (suc at) row)))

-- the tests of a row, place by place
pub tests_placed : (row rest : List ℕ) (n : ℕ) → row ≡ n ∷ rest → (k : ℕ) × (words_in (get_or row 0 0) row 1 ≡ words_from n rest ++ replicate k [])
tests_placed row rest n e = rw e (in_from n (n ∷ rest) 1)

-- and of a row with no number at all
pub none_placed : (row : List ℕ) → length row ≡ 0 → (k : ℕ) × (words_in (get_or row 0 0) row 1 ≡ words_from 0 row ++ replicate k [])
unfolding words_in words_from
none_placed [] e = (0, refl)
none_placed (x ∷ row) e = absurd (omega arith)
