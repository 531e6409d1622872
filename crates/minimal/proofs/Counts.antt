-- Tests that more and more of n numbers pass, level by level, stop growing before level n. Assumes nothing.
use Rattle.std.proofs.Common.{◌≡◌, ℕ, zero, suc, ◌+◌, ◌<◌, ◌≤◌, Bool, true, cond, ◌⊎◌, inl, inr, arith}
use Rattle.std.proofs.lemmas.Bool.{cases_lt, cases_Bool, cond-true, cond-false}

-- how many numbers below n pass
abbrev pub count : (ℕ → Bool) → ℕ → ℕ
count p zero = 0
count p (suc n) = cond (p n) 1 0 + count p n

-- at most n pass
count_most : (p : ℕ → Bool) (n : ℕ) → count p n ≤ n
count_most p zero = omega arith
count_most p (suc n) =
    let rest = count_most p n in
    elim (cases_Bool (p n)) [
      | inl e ↦ let one : cond {A = ℕ} (p n) 1 0 ≡ 1 = cond-true _ _ _ e in omega arith
      | inr e ↦ let none : cond {A = ℕ} (p n) 1 0 ≡ 0 = cond-false _ _ _ e in omega arith
    ]

-- two tests, of which the second passes whatever passes the first
module _ (p q : ℕ → Bool) (grows : (s : ℕ) → p s ≡ true → q s ≡ true) where
  -- a number that is counted for p is counted for q
  bit_grows : (s : ℕ) → cond {A = ℕ} (p s) 1 0 ≤ cond {A = ℕ} (q s) 1 0
  bit_grows s =
      elim (cases_Bool (p s)) [
        | inl e ↦ let one : cond {A = ℕ} (q s) 1 0 ≡ 1 = cond-true _ _ _ (grows s e) in let same : cond {A = ℕ} (p s) 1 0 ≡ 1 = cond-true _ _ _ e in omega arith
        | inr e ↦ let none : cond {A = ℕ} (p s) 1 0 ≡ 0 = cond-false _ _ _ e in omega arith
      ]

  -- no fewer pass q than p
  count_grows : (n : ℕ) → count p n ≤ count q n
  count_grows zero = omega arith
  count_grows (suc n) = let rest = count_grows n in let here = bit_grows n in omega arith

  -- as many as before: the same ones
  count_same : (n : ℕ) → count q n ≤ count p n → (s : ℕ) → s < n → q s ≡ true → p s ≡ true
  count_same zero h s l e = absurd (omega arith)
  count_same (suc n) h s l e =
      let rest = count_grows n in
      let here = bit_grows n in
      elim (cases_lt s n) [
        | inl b ↦ count_same n (omega arith) s b e
        | inr g ↦ let same : s ≡ n = omega arith in elim (cases_Bool (p s)) [
          | inl t ↦ t
          | inr f ↦
              let none : cond {A = ℕ} (p n) 1 0 ≡ 0 = cond-false (p n) 1 0 (rw same at f) in
              let one : cond {A = ℕ} (q n) 1 0 ≡ 1 = cond-true (q n) 1 0 (rw same at e) in
              absurd (omega arith)
        ]
      ]

-- no number below n passes first behind level i
abbrev Stopped : (ℕ → ℕ → Bool) → ℕ → ℕ → Type 0
Stopped p n i = (s : ℕ) → s < n → p (suc i) s ≡ true → p i s ≡ true

module _ (p : ℕ → ℕ → Bool) (n : ℕ) (some : 0 < count (p 0) n) (grows : (j s : ℕ) → p j s ≡ true → p (suc j) s ≡ true) where
  -- at level j more than j numbers pass, or the tests stopped growing at a level below j
  climb : (j : ℕ) → ((i : ℕ) × (i < j) × Stopped p n i) ⊎ (j < count (p j) n)
  climb zero = inr some
  climb (suc j) =
      elim (climb j) [
        | inl r ↦ inl (r.0, (let l = r.1 in omega arith), r.2)
        | inr h ↦ elim (cases_lt (count (p j) n) (count (p (suc j)) n)) [
          | inl l ↦ inr (omega arith)
          | inr g ↦ inl (j, omega arith, count_same (p j) (p (suc j)) (grows j) n g)
        ]
      ]

  -- tests that grow from level to level stop at a level below n
  pub stops : (i : ℕ) × (i < n) × ((s : ℕ) → s < n → p (suc i) s ≡ true → p i s ≡ true)
  stops = elim (climb n) [ inl r ↦ r | inr h ↦ absurd (let l = count_most (p n) n in omega arith) ]

-- one passes, so the count is not 0
pub count_some : (p : ℕ → Bool) (n s : ℕ) → s < n → p s ≡ true → 0 < count p n
count_some p zero s l e = absurd (omega arith)
count_some p (suc n) s l e =
    elim (cases_lt s n) [
      | inl b ↦ let rest = count_some p n s b e in omega arith
      | inr g ↦ let same : s ≡ n = omega arith in let one : cond {A = ℕ} (p n) 1 0 ≡ 1 = cond-true (p n) 1 0 (rw same at e) in omega arith
    ]
