-- The smallest state that is alike to a state at a level: two states are alike exactly if these are one. Assumes nothing.
use Rattle.std.proofs.Common.{◌≡◌, ℕ, suc, ◌<◌, ◌≤◌, true, inl, inr, arith}
use Rattle.std.proofs.lemmas.Bool.{cases_lt, both_ways}
use Rattle.machine.specs.Machine.{Machine}
use Rattle.machine.proofs.First.{first_cases}
use Rattle.minimal.specs.Levels.{alike, class_at}
use Rattle.minimal.proofs.Alike.{alike_itself, alike_back, alike_through, alike_lower}

-- what makes a number the smallest of those alike to s
pub record Smallest (k : ℕ) (m : Machine) (j s r : ℕ) : Type 0 where
  pub passes : alike k m j r s ≡ true
  pub most : r ≤ s
  pub least : (t : ℕ) → alike k m j t s ≡ true → r ≤ t

module _ (k : ℕ) (m : Machine) (j : ℕ) where
  -- the class of a state is the smallest state that is alike to it
  pub class_smallest : (s : ℕ) → Smallest k m j s (class_at k m j s)
  unfolding class_at
  class_smallest s =
      elim (first_cases (λ t. alike k m j t s) s) [
        | inl a ↦ rw a.0 (record {
          passes = alike_itself k m j s;
          most = omega arith;
          least = λ t e. elim (cases_lt t s) [ inl l ↦ absurd (both_ways (alike k m j t s) (a.1 t l) e) | inr g ↦ g ];
        })
        | inr b ↦ let f = b.2 in rw b.1 (record {
          passes = f.passes;
          most = let l = f.inside in omega arith;
          least = λ t e. elim (cases_lt t b.0) [ inl l ↦ absurd (both_ways (alike k m j t s) (f.none t l) e) | inr g ↦ g ];
        })
      ]

  -- states that are alike have one class
  pub class_same : (s t : ℕ) → alike k m j s t ≡ true → class_at k m j s ≡ class_at k m j t
  class_same s t e =
      let a = class_smallest s in
      let b = class_smallest t in
      let x = a.least (class_at k m j t) (alike_through k m j _ t s b.passes (alike_back k m j s t e)) in
      let y = b.least (class_at k m j s) (alike_through k m j _ s t a.passes e) in
      omega arith

  -- and the other way round
  pub class_tells : (s t : ℕ) → class_at k m j s ≡ class_at k m j t → alike k m j s t ≡ true
  class_tells s t e =
      alike_through k m j s (class_at k m j s) t (alike_back k m j _ s (class_smallest s).passes) (rw e (class_smallest t).passes)

  -- the class of a class is itself
  pub class_twice : (s : ℕ) → class_at k m j (class_at k m j s) ≡ class_at k m j s
  class_twice s = class_same (class_at k m j s) s (class_smallest s).passes

  -- the class of a state below n is below n
  pub class_below : (s n : ℕ) → s < n → class_at k m j s < n
  class_below s n h = let l = (class_smallest s).most in omega arith

-- the first of its class stays so
pub class_grows : (k : ℕ) (m : Machine) (j s : ℕ) → class_at k m j s ≡ s → class_at k m (suc j) s ≡ s
class_grows k m j s e =
    let above = class_smallest k m (suc j) s in
    let l = above.most in
    let g = (class_smallest k m j s).least _ (alike_lower k m j (suc j) _ s (omega arith) above.passes) in
    omega arith
