-- The first number that passes a test: how it is shown, and what it tells; and when there is no answer. Assumes nothing.
use Rattle.std.proofs.Common.{◌≡◌, ℕ, zero, suc, ◌<◌, Bool, true, false, ◌⊎◌, List, length, get_or, is_some, Some, None, Option, sym, refl, inl, inr, arith}
use Rattle.std.specs.List.{position, position_or_len}
use Rattle.std.proofs.lemmas.Bool.{cases_Bool, cases_lt, lt-ltb, le-ltb, true≢false}
use Rattle.std.proofs.lemmas.List.Sums.{fails_before_first, passes_at_first}
use Rattle.machine.specs.First.{or_else, first}

-- no answer, as a test says it
pub none_from_test : {A : Type 0} (o : Option A) → is_some o ≡ false → o ≡ None
none_from_test None e = refl
none_from_test (Some x) e = absurd (true≢false e)

-- an answer, as a test says it
pub some_from_test : {A : Type 0} (o : Option A) → is_some o ≡ true → (x : A) × (o ≡ Some x)
some_from_test None e = absurd (true≢false (sym e))
some_from_test (Some x) e = (x, refl)

-- neither of two has one
pub or_else_none : {A : Type 0} (a b : Option A) → or_else a b ≡ None → (a ≡ None) × (b ≡ None)
or_else_none None b e = (refl, e)
or_else_none (Some x) b e = absurd (let z : ◌≡◌ {A = ℕ} 0 1 = cc in omega arith)

-- none below n passes
pub first_none : (p : ℕ → Bool) (n : ℕ) → ((j : ℕ) → j < n → p j ≡ false) → first p n ≡ None
unfolding first
first_none p zero none = refl
first_none p (suc n) none = rw (first_none p n (λ j h. none j (omega arith)), none n (omega arith))

-- j passes, and none below it
pub first_some : (p : ℕ → Bool) (n j : ℕ) → j < n → p j ≡ true → ((i : ℕ) → i < j → p i ≡ false) → first p n ≡ Some j
unfolding first
first_some p zero j h passes none = absurd (omega arith)
first_some p (suc n) j h passes none =
    elim (cases_lt j n) [
      | inl l ↦ rw (first_some p n j l passes none)
      | inr g ↦ let same : j ≡ n = omega arith in rw (first_none p n (λ i l. none i (omega arith)), ← same, passes)
    ]

-- j is the first number below n that passes
pub record Found (p : ℕ → Bool) (n j : ℕ) : Type 0 where
  pub inside : j < n
  pub passes : p j ≡ true
  pub none : (i : ℕ) → i < j → p i ≡ false

-- either none passes, or there is a first
pub first_cases : (p : ℕ → Bool) (n : ℕ) → ((first p n ≡ None) × ((j : ℕ) → j < n → p j ≡ false)) ⊎ ((j : ℕ) × (first p n ≡ Some j) × Found p n j)
first_cases p zero = inl (first_none p zero (λ j h. absurd (omega arith)), λ j h. absurd (omega arith))
first_cases p (suc n) =
    elim (first_cases p n) [
      | inl a ↦ elim (cases_Bool (p n)) [
        | inl t ↦ inr (n, first_some p (suc n) n (omega arith) t a.1, record { inside = omega arith; passes = t; none = a.1 })
        | inr f ↦ let none : (j : ℕ) → j < suc n → p j ≡ false = λ j h. elim (cases_lt j n) [ inl l ↦ a.1 j l | inr g ↦ let same : j ≡ n = omega arith in rw same f ] in
            inl (first_none p (suc n) none, none)
      ]
      | inr b ↦ let f = b.2 in
          inr (b.0, first_some p (suc n) b.0 (let l = f.inside in omega arith) f.passes f.none, record { inside = let l = f.inside in omega arith; passes = f.passes; none = f.none })
    ]

-- if there is no first, none passes
pub none_first : (p : ℕ → Bool) (n : ℕ) → first p n ≡ None → (j : ℕ) → j < n → p j ≡ false
none_first p n e =
    elim (first_cases p n) [ inl a ↦ a.1 | inr b ↦ absurd (let s = b.1 in let z : ◌≡◌ {A = ℕ} 0 1 = cc in omega arith) ]

-- where in a list an element first passes
pub first_position : {X : Type 0} (p : X → Bool) (xs : List X) (d : X) → position p xs ≡ first (λ j. p (get_or xs j d)) (length xs)
first_position p xs d =
    elim (cases_lt (position_or_len p xs) (length xs)) [
      | inl l ↦ rw (lt-ltb _ _ l) (sym (first_some _ _ _ l (passes_at_first p xs d l) (λ i h. fails_before_first p xs i d h)))
      | inr g ↦ rw (le-ltb _ _ g) (sym (first_none _ _ (λ j h. fails_before_first p xs j d (omega arith))))
    ]
