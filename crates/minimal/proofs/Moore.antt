-- With n states, those that are alike at level n - 1 are equivalent: the levels are stable by then. Assumes nothing.
use Rattle.std.proofs.Common.{◌≡◌, ℕ, zero, suc, ◌-◌, ◌<◌, ◌≤◌, Bool, true, eqb, length, sym, ◌∙◌, arith}
use Rattle.std.proofs.lemmas.Bool.{eqb-true, eq-eqb}
use Rattle.machine.specs.Machine.{Machine, Proper, EquivalentStates}
use Rattle.machine.proofs.Runs.{move_below}
use Rattle.minimal.specs.Levels.{alike, class_at}
use Rattle.minimal.specs.Promises.{ShortSeparation}
use Rattle.minimal.proofs.Smallest.{class_smallest, class_same, class_tells, class_twice, class_below, class_grows}
use Rattle.minimal.proofs.Counts.{count, count_some, stops}
use Rattle.minimal.proofs.Alike.{alike_step, alike_from, shows_alike, alike_back, alike_through, alike_lower, alike_equivalent, alike_zero}

module _ {k : ℕ} {m : Machine} (proper : Proper k m) where
  -- the states that are the smallest of their class
  leads : ℕ → ℕ → Bool
  leads j s = eqb (class_at k m j s) s

  -- at some level below the number of states, states that are alike are alike at the next level too
  stable_level : (i : ℕ) × (i < length m) × ((s t : ℕ) → s < length m → t < length m → alike k m i s t ≡ true → alike k m (suc i) s t ≡ true)
  unfolding leads
  stable_level = (found.0, found.1, stable)
    where
      one : 0 < count (leads 0) (length m)
      one = count_some (leads 0) (length m) 0 proper.some (eq-eqb _ _ (let l = (class_smallest k m 0 0).most in omega arith))

      found : (i : ℕ) × (i < length m) × ((s : ℕ) → s < length m → leads (suc i) s ≡ true → leads i s ≡ true)
      found = stops leads (length m) one (λ j s e. eq-eqb _ _ (class_grows k m j s (eqb-true _ _ e)))

      -- the class of a state at the level behind is the smallest of its class at this one
      lead : (s : ℕ) → s < length m → class_at k m found.0 (class_at k m (suc found.0) s) ≡ class_at k m (suc found.0) s
      lead s h = eqb-true _ _ (found.2 (class_at k m (suc found.0) s) (class_below k m _ s (length m) h) (eq-eqb _ _ (class_twice k m _ s)))

      stable : (s t : ℕ) → s < length m → t < length m → alike k m found.0 s t ≡ true → alike k m (suc found.0) s t ≡ true
      stable s t hs ht e =
          class_tells k m (suc i) s t (sym (lead s hs) ∙ together ∙ lead t ht)
        where
          i : ℕ
          i = found.0

          own : (u : ℕ) → alike k m i (class_at k m (suc i) u) u ≡ true
          own u = alike_lower k m i (suc i) _ u (omega arith) (class_smallest k m (suc i) u).passes

          together : class_at k m i (class_at k m (suc i) s) ≡ class_at k m i (class_at k m (suc i) t)
          together = class_same k m i _ _ (alike_through k m i _ s _ (own s) (alike_through k m i s t _ e (alike_back k m i _ t (own t))))

  -- from a stable level on nothing changes
  stays : (i : ℕ) → ((s t : ℕ) → s < length m → t < length m → alike k m i s t ≡ true → alike k m (suc i) s t ≡ true) →
      (j s t : ℕ) → s < length m → t < length m → alike k m i s t ≡ true → alike k m j s t ≡ true
  stays i stable zero s t hs ht e = alike_zero k m s t
  stays i stable (suc j) s t hs ht e =
      alike_from k m j s t (λ x l.
      let b = alike_step k m i s t (stable s t hs ht e) x l in
      (b.0, stays i stable j _ _ (move_below proper s x hs) (move_below proper t x ht) b.1))

  -- as many levels as states less one are enough
  pub alike_enough : (j s t : ℕ) → s < length m → t < length m → length m ≤ suc j → alike k m j s t ≡ true → EquivalentStates k m s t
  alike_enough j s t hs ht enough e =
      let found = stable_level in
      let l = found.1 in
      alike_equivalent k m s t (λ i. stays found.0 found.2 i s t hs ht (alike_lower k m found.0 j s t (omega arith) e))

-- states that show the same on every word with fewer keys than there are states are equivalent
pub short_separation : ShortSeparation
short_separation k m s t proper hs ht h =
    let some = proper.some in
    alike_enough proper (length m - 1) s t hs ht (omega arith) (shows_alike k m (length m - 1) s t (λ w ok l. h w ok (omega arith)))
