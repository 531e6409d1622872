-- Looking through the numbers below a bound for one that passes a test: it finds the first. Assumes nothing.
use Rattle.std.proofs.Common.{◌≡◌, ℕ, zero, suc, ◌+◌, ◌<◌, Bool, false, cond, ◌⊎◌, [], ◌∷◌, ◌++◌, Option, Some, None, sym, refl, ap, ◌∙◌, subst, inl, inr, add-one, arith}
use Rattle.std.specs.List.{range_with_len, find}
use Rattle.std.specs.Option.{option_or}
use Rattle.std.proofs.lemmas.List.{map-id}
use Rattle.std.proofs.lemmas.List.Folds.{find-append}
use Rattle.std.proofs.lemmas.List.FromFn.{map-range_with_len_more}
use Rattle.machine.specs.First.{or_else, first}
use Rattle.machine.proofs.First.{Found, first_cases}

-- counting one number more
pub counting_more : (n : ℕ) → range_with_len 0 (n + 1) ≡ range_with_len 0 n ++ n ∷ []
counting_more n = sym (map-id (range_with_len 0 (n + 1))) ∙ map-range_with_len_more (λ x. x) 0 n n (omega arith) ∙ ap (λ z. z ++ n ∷ []) (map-id (range_with_len 0 n))

-- the first of two answers that there is, in std's words
first_answer : (a b : Option ℕ) → option_or a b ≡ or_else a b
first_answer None b = refl
first_answer (Some x) b = refl

-- looking through the numbers below n finds the first that passes
find_first : (p : ℕ → Bool) (n : ℕ) → find p (range_with_len 0 n) ≡ first p n
unfolding first
find_first p zero = refl
find_first p (suc n) =
    ap (λ z. find p (range_with_len 0 z)) (sym (add-one n))
    ∙ ap (find p) (counting_more n)
    ∙ find-append p (range_with_len 0 n) (n ∷ [])
    ∙ first_answer (find p (range_with_len 0 n)) (cond (p n) (Some n) None)
    ∙ ap (λ z. or_else z (cond (p n) (Some n) None)) (find_first p n)

-- it finds nothing if none passes, and otherwise the first
pub find_cases :
    (p : ℕ → Bool) (n : ℕ) → ((find p (range_with_len 0 n) ≡ None) × ((j : ℕ) → j < n → p j ≡ false)) ⊎ ((j : ℕ) × (find p (range_with_len 0 n) ≡ Some j) × Found p n j)
find_cases p n = rw (find_first p n) (first_cases p n)

-- what it finds is the first
pub found_first : (p : ℕ → Bool) (n x : ℕ) → find p (range_with_len 0 n) ≡ Some x → Found p n x
found_first p n x e =
    elim (find_cases p n) [
      | inl a ↦ absurd (let z : ◌≡◌ {A = ℕ} 0 1 = (let b = a.0 in cc) in omega arith)
      | inr f ↦ subst (Found p n) (let b = f.1 in cc) f.2
    ]
