-- More things than places: two of them share a place. Assumes nothing.
use Rattle.std.proofs.Common.{◌≡◌, ℕ, zero, suc, pred, ◌+◌, ◌-◌, ◌<◌, ◌≤◌, cond, ltb, ◌⊎◌, sym, ap, ◌∙◌, inl, inr, arith}
use Rattle.std.proofs.lemmas.Bool.{cases_eq, cases_lt, cases_order, cond_both, ltb-true, ltb-false}
use Rattle.std.proofs.lemmas.Bool.Decides.{nat_tests}

-- two of the numbers from 0 to n have one place
abbrev Collision : ℕ → (ℕ → ℕ) → Type 0
Collision n f = (a : ℕ) × (b : ℕ) × (a < b) × (b ≤ n) × (f a ≡ f b)

-- the first n + 1 numbers have fewer than n + 1 places
pub pigeonhole : (n : ℕ) (f : ℕ → ℕ) → ((a : ℕ) → a ≤ n → f a < n) → (a : ℕ) × (b : ℕ) × (a < b) × (b ≤ n) × (f a ≡ f b)
pigeonhole zero f low = absurd (let z = low 0 (omega arith) in omega arith)
pigeonhole (suc n) f low = elim (taken (suc n)) [ inl t ↦ (t.0, suc n, t.1, omega arith, t.2) | inr free ↦ lift free (pigeonhole n (shifted (f (suc n))) (shifted_low free)) ]
  where
    -- is the place of the last one that of an earlier one?
    taken : (j : ℕ) → ((a : ℕ) × (a < j) × (f a ≡ f (suc n))) ⊎ ((a : ℕ) → a < j → f a ≡ f (suc n) → ⊥)
    taken zero = inr (λ a h. absurd (omega arith))
    taken (suc j) = elim (taken j) [
      | inl t ↦ inl (t.0, (let l = t.1 in omega arith), t.2)
      | inr free ↦ elim (cases_eq (f j) (f (suc n))) [
        | inl e ↦ inl (j, omega arith, e)
        | inr d ↦ inr (λ a h e. elim (cases_lt a j) [ inl l ↦ free a l e | inr g ↦ let same : a ≡ j = omega arith in d (ap f (sym same) ∙ e) ])
      ]
    ]

    -- without the place of the last
    shifted : ℕ → ℕ → ℕ
    shifted p a = cond (ltb p (f a)) (pred (f a)) (f a)

    shifted_low : ((a : ℕ) → a < suc n → f a ≡ f (suc n) → ⊥) → (a : ℕ) → a ≤ n → shifted (f (suc n)) a < n
    shifted_low free a h =
        let l = low a (omega arith) in
        let last = low (suc n) (omega arith) in
        let apart = free a (omega arith) in
        cond_both (ltb (f (suc n)) (f a)) (pred (f a)) (f a) (λ z. z < n)
        (λ e. let g = ltb-true _ _ e in omega arith)
        (λ e. let g = ltb-false _ _ e in elim (cases_order (f a) (f (suc n))) [ inl q ↦ absurd (apart q) | inr r ↦ omega arith ])

    lift : ((a : ℕ) → a < suc n → f a ≡ f (suc n) → ⊥) → Collision n (shifted (f (suc n))) → Collision (suc n) f
    lift free c = (c.0, c.1, c.2, (let l = c.3 in omega arith), together)
      where
        back : (a b p : ℕ) → (a ≡ p → ⊥) → (b ≡ p → ⊥) → cond (ltb p a) (pred a) a ≡ cond (ltb p b) (pred b) b → a ≡ b
        back a b p na nb e = grind (arith, nat_tests)

        together : f c.0 ≡ f c.1
        together =
            let l = c.2 in
            let g = c.3 in
            back (f c.0) (f c.1) (f (suc n)) (free c.0 (omega arith)) (free c.1 (omega arith)) c.4

-- n things that do not share a place and e + 1 more have n + e places: one of the latter shares a place with one of the former or with another of its kind
pub pigeonhole_two :
    (n e : ℕ) (f g : ℕ → ℕ) → ((a : ℕ) → a < n → f a < n + e) → ((j : ℕ) → j ≤ e → g j < n + e) →
    ((a b : ℕ) → a < b → b < n → f a ≡ f b → ⊥) →
    ((a : ℕ) × (j : ℕ) × (a < n) × (j ≤ e) × (f a ≡ g j)) ⊎ ((h : ℕ) × (j : ℕ) × (h < j) × (j ≤ e) × (g h ≡ g j))
pigeonhole_two n e f g low_f low_g apart = sort (pigeonhole (n + e) both both_low)
  where
    both : ℕ → ℕ
    both a = cond (ltb a n) (f a) (g (a - n))

    both_low : (a : ℕ) → a ≤ n + e → both a < n + e
    both_low a h =
        cond_both (ltb a n) (f a) (g (a - n)) (λ z. z < n + e)
        (λ t. low_f a (ltb-true _ _ t))
        (λ t. low_g (a - n) (let l = ltb-false a n t in omega arith))

    at_f : (a : ℕ) → a < n → both a ≡ f a
    at_f a h = grind (arith, nat_tests)

    at_g : (a : ℕ) → n ≤ a → both a ≡ g (a - n)
    at_g a h = grind (arith, nat_tests)

    sort : Collision (n + e) both → ((a : ℕ) × (j : ℕ) × (a < n) × (j ≤ e) × (f a ≡ g j)) ⊎ ((h : ℕ) × (j : ℕ) × (h < j) × (j ≤ e) × (g h ≡ g j))
    sort c =
        let l = c.2 in
        let most = c.3 in
        elim (cases_lt c.1 n) [
          | inl b ↦ absurd (apart c.0 c.1 l b (sym (at_f c.0 (omega arith)) ∙ c.4 ∙ at_f c.1 b))
          | inr b ↦ elim (cases_lt c.0 n) [
            | inl a ↦ inl (c.0, c.1 - n, a, omega arith, sym (at_f c.0 a) ∙ c.4 ∙ at_g c.1 b)
            | inr a ↦ inr (c.0 - n, c.1 - n, omega arith, omega arith, sym (at_g c.0 a) ∙ c.4 ∙ at_g c.1 b)
          ]
        ]
