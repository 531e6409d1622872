-- States that a machine needs: reached, and equivalent to no smaller one. Assumes nothing.
use Rattle.std.proofs.Common.{◌≡◌, ℕ, ◌<◌, ◌≤◌, eqb, [], ◌∷◌, length, Some, None, sym, ap, ◌∙◌, inl, inr, arith}
use Rattle.std.specs.List.{position}
use mathlib.Core.Path.{fun_ext}
use Rattle.std.proofs.lemmas.Bool.{cases_order, eqb-true, eqb-false}
use Rattle.machine.specs.Items.{items}
use Rattle.machine.specs.Machine.{Machine, Word, Keys, Proper, Minimal, EquivalentStates, after, move}
use Rattle.machine.proofs.First.{first_cases}
use Rattle.machine.proofs.Runs.{after_append, after_below}
use Rattle.minimal.specs.Minimal.{Redundant, NoneRedundant}
use Rattle.minimal.specs.Quotient.{Congruence, Equivalence, class_after}
use Rattle.minimal.specs.Search.{word_at, found_count, SearchTree}
use Rattle.minimal.specs.declared.tree.Tree.{Tree}
use Rattle.minimal.proofs.Growing.{found_some, found_none}
use Rattle.minimal.proofs.Searches.{search_exists}

-- classes of one state each
module _ (k : ℕ) (m : Machine) (class : ℕ → ℕ) (own : (s : ℕ) → s < length m → class s ≡ s) where
  -- moves respect such classes
  pub own_congruence : Congruence k m class
  own_congruence = record {
    inside = λ s h. rw (own s h) h;
    moves = λ s x h l. ap (λ t. class (move m t x).to) (own s h);
  }

  -- a search by such classes is a search by states
  pub own_search : Proper k m → (tree : Tree) → SearchTree k (class_after class m) tree → SearchTree k (after m 0) tree
  own_search proper tree h =
      let P : (Word → ℕ) → Type 0 = λ f. SearchTree k f tree in
      let e : class_after class m ≡ after m 0 = fun_ext (λ w. own (after m 0 w) (after_below proper 0 w proper.some)) in
      rw e at h

-- a state that can be reached, and is equivalent to no smaller one
pub record Needed (k : ℕ) (m : Machine) (s : ℕ) : Type 0 where
  pub reached : (w : Word) × Keys k w × (after m 0 w ≡ s)
  pub distinct : (t : ℕ) → t < s → EquivalentStates k m t s → ⊥

module _ {k : ℕ} {m : Machine} where
  -- a state that is needed is not redundant
  pub needed_not_redundant : (s : ℕ) → Needed k m s → Redundant k m s → ⊥
  needed_not_redundant s h (inl r) = r h.reached.0 h.reached.1 h.reached.2
  needed_not_redundant s h (inr r) = h.distinct r.0 r.1 r.2

  -- a machine all of whose states are needed is minimal
  pub needed_minimal : ((s : ℕ) → s < length m → Needed k m s) → Minimal k m
  needed_minimal all = record {
    distinct = λ s t hs ht e. elim (cases_order s t) [
      | inl q ↦ q
      | inr d ↦ elim d [ inl l ↦ absurd ((all t ht).distinct s l e) | inr l ↦ absurd ((all s hs).distinct t l (λ w ok. sym (e w ok))) ]
    ];
    reached = λ s h. (all s h).reached;
  }

  -- no state of a minimal machine is redundant
  pub minimal_none_redundant : Minimal k m → NoneRedundant k m
  minimal_none_redundant minimal s h (inl r) = let w = minimal.reached s h in r w.0 w.1 w.2
  minimal_none_redundant minimal s h (inr r) = let e = minimal.distinct r.0 s (let l = r.1 in omega arith) h r.2 in absurd (let l = r.1 in omega arith)

  -- and a machine of which no state is redundant is minimal: a search finds the words that reach its states
  pub none_redundant_minimal : Proper k m → NoneRedundant k m → Minimal k m
  unfolding after
  none_redundant_minimal proper none = record {
    distinct = λ s t hs ht e. elim (cases_order s t) [
      | inl q ↦ q
      | inr d ↦ elim d [ inl l ↦ absurd (none t ht (inr (s, l, e))) | inr l ↦ absurd (none s hs (inr (t, l, λ w ok. sym (e w ok)))) ]
    ];
    reached = λ s h.
        let found = search_exists k (after m 0) (length m) (λ w ok. after_below proper 0 w proper.some)
        (λ u v x _ _ _ e. after_append m 0 u (x ∷ []) ∙ ap (λ t. (move m t x).to) e ∙ sym (after_append m 0 v (x ∷ []))) in
        elim (first_cases (λ j. eqb (after m 0 (word_at found.0 j)) s) (length found.0)) [
          | inl out ↦ absurd (none s h (inl (λ w ok e. let c = found.1.complete w ok in eqb-false _ _ (out.1 c.0 c.1) (c.2 ∙ e))))
          | inr some ↦ (word_at found.0 some.0, (found.1.first some.0 some.2.inside).keys, eqb-true _ _ some.2.passes)
        ];
  }

  module _ (class : ℕ → ℕ) (of : Equivalence k m class) (tree : Tree) (found : SearchTree k (after m 0) tree) (s : ℕ) (h : s < length m) where
    -- found by the search, and the smallest of its class
    pub needed_state : s ≤ class s → (j : ℕ) → position (λ found. eqb found.class s) (items tree.found) ≡ Some j → Needed k m s
    needed_state own j e =
        let at = found_some tree s j e in
        let kept = found.2 in
        let l : j < length found.0 = (let a = kept.many in let b = at.0 in omega arith) in
        record {
          reached = (word_at found.0 j, (found.1.first j l).keys, sym (kept.values j at.0) ∙ at.1);
          distinct = λ t less same. let a = of.smallest s t h (omega arith) same in omega arith;
        }

    -- a state that is not the smallest of its class is redundant
    pub redundant_class : class s < s → Redundant k m s
    redundant_class l = inr (class s, l, of.equivalent s h)

    -- a state that the search did not find is redundant
    pub redundant_place : position (λ found. eqb found.class s) (items tree.found) ≡ None → Redundant k m s
    redundant_place out = inl (λ w ok e.
        let c = found.1.complete w ok in
        let kept = found.2 in
        let l : c.0 < found_count tree = (let a = kept.many in let b = c.1 in omega arith) in
        found_none tree s out c.0 l (kept.values c.0 l ∙ c.2 ∙ e))
