-- One round of refinement leads from the classes at a level to those at the next. Assumes nothing.
use Rattle.std.proofs.Common.{◌≡◌, ℕ, suc, ◌<◌, ◌≤◌, Bool, true, false, eqb, List, length, sym, ap, ◌∙◌, inl, inr, arith}
use Rattle.std.proofs.lemmas.Bool.{and_parts, and_from, eqb-true, eq-eqb, ne_eqb, and_left, and_right}
use Rattle.std.proofs.lemmas.Bool.Decides.{same_from_decides}
use Rattle.machine.specs.First.{first}
use Rattle.machine.specs.Machine.{Machine, Proper, move, outputs}
use Rattle.machine.proofs.First.{first_cases, first_none, first_some}
use Rattle.machine.proofs.Runs.{move_below}
use Rattle.minimal.specs.Levels.{every_below, alike, number_or, class_at, class_in, AtLevel, agrees, finer}
use Rattle.minimal.specs.Quotient.{Equivalence}
use Rattle.minimal.proofs.Alike.{every_holds, every_from, every_not, alike_step, alike_from, alike_zero}
use Rattle.minimal.proofs.Quotient.{levels_equivalence}
use Rattle.minimal.proofs.Smallest.{class_smallest, class_same, class_tells}

module _ (k : ℕ) (m : Machine) (of : List ℕ) (s : ℕ) where
  -- a state below s in which every key agrees, and none below it
  pub finer_is : (t : ℕ) → t < s → ((x : ℕ) → x < k → agrees m of t s x ≡ true) → ((u : ℕ) → u < t → (x : ℕ) × (x < k) × (agrees m of u s x ≡ false)) → t ≡ finer k m of s
  unfolding finer
  finer_is t h all none =
      sym (ap (number_or s) (first_some (λ t. every_below (agrees m of t s) k) s t h (every_from _ k all) (λ u l. let r = none u l in every_not (agrees m of u s) k r.0 r.1 r.2)))

  -- if there is no such state below s, it is s itself
  pub finer_itself : ((u : ℕ) → u < s → (x : ℕ) × (x < k) × (agrees m of u s x ≡ false)) → s ≡ finer k m of s
  unfolding finer
  finer_itself none = sym (ap (number_or s) (first_none (λ t. every_below (agrees m of t s) k) s (λ u l. let r = none u l in every_not (agrees m of u s) k r.0 r.1 r.2)))

module _ {k : ℕ} {m : Machine} (proper : Proper k m) (j : ℕ) (of : List ℕ) (level : AtLevel k m j of) where
  -- every key agrees exactly if the states are alike at the next level
  agrees_alike : (s t : ℕ) → s < length m → t < length m → every_below (agrees m of s t) k ≡ alike k m (suc j) s t
  agrees_alike s t hs ht =
      same_from_decides (every_below (agrees m of s t) k) (alike k m (suc j) s t)
      (λ e x l. up x l (every_holds _ k e x l), λ h. every_from _ k (λ x l. down x l (h x l))) (alike_step k m j s t, alike_from k m j s t)
    where
      up : (x : ℕ) → x < k → agrees m of s t x ≡ true → ((move m s x).output ≡ (move m t x).output) × (alike k m j (move m s x).to (move m t x).to ≡ true)
      up x l e =
          let both = and_parts (eqb (move m s x).output (move m t x).output) (eqb (class_in of (move m s x).to) (class_in of (move m t x).to)) e in (
            eqb-true _ _ both.0,
            class_tells k m j _ _ (sym (level _ (move_below proper s x hs)) ∙ eqb-true _ _ both.1 ∙ level _ (move_below proper t x ht)),
          )

      down : (x : ℕ) → x < k → ((move m s x).output ≡ (move m t x).output) × (alike k m j (move m s x).to (move m t x).to ≡ true) → agrees m of s t x ≡ true
      down x l both =
          and_from _ _ (eq-eqb _ _ both.0)
          (eq-eqb _ _ (level _ (move_below proper s x hs) ∙ class_same k m j _ _ both.1 ∙ sym (level _ (move_below proper t x ht))))

  -- refining the classes at a level gives those at the next
  pub finer_next : (s : ℕ) → s < length m → finer k m of s ≡ class_at k m (suc j) s
  unfolding finer class_at
  finer_next s h = ap (number_or s) (first_same s (λ t l. agrees_alike t s (omega arith) h))
    where
      first_same : {p q : ℕ → Bool} (n : ℕ) → ((t : ℕ) → t < n → p t ≡ q t) → first p n ≡ first q n
      first_same {p} {q} n e =
          elim (first_cases q n) [
            | inl none ↦ first_none p n (λ t l. e t l ∙ none.1 t l) ∙ sym none.0
            | inr some ↦ let f = some.2 in let i = f.inside in
                first_some p n some.0 i (e _ i ∙ f.passes) (λ t l. e t (omega arith) ∙ f.none t l) ∙ sym some.1
          ]

-- all in one class
pub class_zero : (k : ℕ) (m : Machine) (s : ℕ) → class_at k m 0 s ≡ 0
class_zero k m s = let l = (class_smallest k m 0 s).least 0 (alike_zero k m 0 s) in omega arith

-- how two states are seen to differ in a key
module _ (m : Machine) (of : List ℕ) (s t x a b : ℕ) where
  -- the key shows different outputs
  pub other_output : a ≡ (move m s x).output → b ≡ (move m t x).output → (a ≡ b → ⊥) → agrees m of s t x ≡ false
  other_output p q d = and_left _ _ (ne_eqb _ _ (λ e. d (p ∙ e ∙ sym q)))

  -- the key leads to states of different classes
  pub other_class : a ≡ class_in of (move m s x).to → b ≡ class_in of (move m t x).to → (a ≡ b → ⊥) → agrees m of s t x ≡ false
  other_class p q d = and_right _ _ (ne_eqb _ _ (λ e. d (p ∙ e ∙ sym q)))

-- the classes at a high enough level are those of equivalent states
pub level_equivalence : {k : ℕ} {m : Machine} → Proper k m → (j : ℕ) (of : List ℕ) → AtLevel k m j of → length m ≤ suc j → Equivalence k m (class_in of)
level_equivalence {k} {m} proper j of level enough =
    let e = levels_equivalence proper j enough in
    record {
      most = λ s h. rw (level s h) (e.most s h);
      equivalent = λ s h w ok. ap (λ r. outputs m r w) (level s h) ∙ e.equivalent s h w ok;
      smallest = λ s t hs ht q. rw (level s hs) (e.smallest s t hs ht q);
    }
