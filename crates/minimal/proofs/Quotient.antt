-- The machine made of the classes that a search finds is the minimal machine. Assumes nothing.
use Rattle.std.proofs.Common.{◌≡◌, ℕ, suc, ◌<◌, ◌≤◌, eqb, ◌⊎◌, List, [], ◌∷◌, ◌++◌, length, get_or, sym, refl, ap, ◌∙◌, inl, inr, arith}
use Rattle.std.proofs.ByRecursion.{All-push}
use Rattle.std.proofs.lemmas.Bool.{eqb-true, eqb-false}
use Rattle.machine.specs.Machine.{Machine, Word, Keys, Proper, Minimal, Equivalent, EquivalentStates, move, outputs, after}
use Rattle.machine.specs.Words.{Before}
use Rattle.machine.proofs.First.{first_cases}
use Rattle.machine.proofs.Order.{before_transitive}
use Rattle.machine.proofs.Runs.{after_append, after_below, move_below}
use Rattle.machine.proofs.Tables.{length_table, full_table, move_table}
use Rattle.minimal.specs.Levels.{number_or, class_at}
use Rattle.minimal.specs.Minimal.{MinimalMachine}
use Rattle.minimal.specs.Promises.{MinimalExists}
use Rattle.minimal.specs.Quotient.{Congruence, Equivalence, class_after, place, quotient, quotient_move}
use Rattle.minimal.specs.Search.{word_at, Searched}
use Rattle.minimal.proofs.Smallest.{class_smallest}
use Rattle.minimal.proofs.Searches.{one_place, found_not_after, search_exists}
use Rattle.minimal.proofs.Alike.{equivalent_alike}
use Rattle.minimal.proofs.Moore.{alike_enough}
use Rattle.minimal.proofs.FirstWords.{NotAfter}
use Rattle.minimal.proofs.Unique.{same_behind, same_key, least}

-- what does not stand among the first n values has the place n
pub place_cases : (f : ℕ → ℕ) (n c : ℕ) → ((place f n c ≡ n) × ((j : ℕ) → j < n → f j ≡ c → ⊥)) ⊎ ((place f n c < n) × (f (place f n c) ≡ c))
unfolding place
place_cases f n c =
    elim (first_cases (λ i. eqb (f i) c) n) [
      | inl none ↦ inl (ap (number_or n) none.0, λ j h e. eqb-false _ _ (none.1 j h) e)
      | inr some ↦ inr (rw some.1 (some.2.inside, eqb-true _ _ some.2.passes))
    ]

-- the machine made of n classes, move by move
module _ (k : ℕ) (m : Machine) (class entry : ℕ → ℕ) (n : ℕ) where
  -- it has n states
  pub length_quotient : length (quotient k m class entry n) ≡ n
  unfolding quotient
  length_quotient = length_table (quotient_move m class entry n) n k

  -- every state has k moves
  pub full_quotient : (j : ℕ) → j < n → length (get_or (quotient k m class entry n) j []) ≡ k
  unfolding quotient
  full_quotient = full_table (quotient_move m class entry n) n k

  -- the move of a state and a key is the one defined for its class
  pub move_quotient : (j x : ℕ) → j < n → x < k → move (quotient k m class entry n) j x ≡ quotient_move m class entry n j x
  unfolding quotient
  move_quotient = move_table (quotient_move m class entry n) n k

-- a search by classes: they are states, and the class behind a key depends on the class alone
module _ {k : ℕ} {m : Machine} (proper : Proper k m) {class : ℕ → ℕ} (of : Congruence k m class) where
  -- the class after a word is a state
  pub congruence_low : (w : Word) → Keys k w → class_after class m w < length m
  congruence_low w ok = of.inside _ (after_below proper 0 w proper.some)

  -- the class that a key leads to from the class after a word is that after the word with the key behind
  pub class_key : (w : Word) (x : ℕ) → x < k → class (move m (class_after class m w) x).to ≡ class_after class m (w ++ x ∷ [])
  unfolding after
  class_key w x h = of.moves (after m 0 w) x (after_below proper 0 w proper.some) h ∙ ap class (sym (after_append m 0 w (x ∷ [])))

  -- words that lead to one class lead to one class with a key behind, too
  pub congruent_after : (u v : Word) (x : ℕ) → Keys k u → Keys k v → x < k → class_after class m u ≡ class_after class m v → class_after class m (u ++ x ∷ []) ≡ class_after class m (v ++ x ∷ [])
  congruent_after u v x a b h e = sym (class_key u x h) ∙ ap (λ c. class (move m c x).to) e ∙ class_key v x h

-- states that are alike at a high enough level
pub levels_equivalence : {k : ℕ} {m : Machine} → Proper k m → (j : ℕ) → length m ≤ suc j → Equivalence k m (class_at k m j)
levels_equivalence {k} {m} proper j enough = record {
  most = λ s h. (class_smallest k m j s).most;
  equivalent = λ s h. let l = (class_smallest k m j s).most in alike_enough proper j (class_at k m j s) s (omega arith) h enough (class_smallest k m j s).passes;
  smallest = λ s t hs ht e. (class_smallest k m j s).least t (equivalent_alike k m j t s e);
}

module _ {k : ℕ} {m : Machine} (proper : Proper k m) {class : ℕ → ℕ} (of : Equivalence k m class) where
  -- the class of a state is a state
  below : (s : ℕ) → s < length m → class s < length m
  below s h = let l = of.most s h in omega arith

  -- equivalent states have one class
  same_class : (s t : ℕ) → s < length m → t < length m → EquivalentStates k m s t → class s ≡ class t
  same_class s t hs ht e =
      let a = of.smallest s (class t) hs (below t ht) (λ w ok. of.equivalent t ht w ok ∙ sym (e w ok)) in
      let b = of.smallest t (class s) ht (below s hs) (λ w ok. of.equivalent s hs w ok ∙ e w ok) in
      omega arith

  -- the class of a class is itself
  class_class : (s : ℕ) → s < length m → class (class s) ≡ class s
  class_class s h = same_class (class s) s (below s h) h (of.equivalent s h)

  -- moves respect the classes of equivalent states
  pub equivalence_congruence : Congruence k m class
  equivalence_congruence = record {
    inside = λ s h. below s h;
    moves = λ s x h l. same_class _ _ (move_below proper _ x (below s h)) (move_below proper s x h) (same_key m m (class s) s x l (of.equivalent s h)).1;
  }

  module _ {ws : List Word} (found : Searched k (class_after class m) ws) (entry : ℕ → ℕ) (are : (j : ℕ) → j < length ws → entry j ≡ class_after class m (word_at ws j)) where
    -- the machine with a state for each class found
    abbrev l : Machine
    l = quotient k m class entry (length ws)

    -- it has as many states as there are words found
    length_l : length l ≡ length ws
    length_l = length_quotient k m class entry (length ws)

    -- the move of a state and a key is the one defined for its class
    move_l : (j x : ℕ) → j < length ws → x < k → move l j x ≡ quotient_move m class entry (length ws) j x
    move_l j x h hx = move_quotient k m class entry (length ws) j x h hx

    -- a word found leads to a state
    state : (j : ℕ) → after m 0 (word_at ws j) < length m
    state j = after_below proper 0 (word_at ws j) proper.some

    -- a class found is a state
    entry_below : (j : ℕ) → j < length ws → entry j < length m
    entry_below j h = rw (are j h) (below _ (state j))

    -- the state that a key leads to is the place of the class that it leads to
    target : (j x : ℕ) → j < length ws → x < k → ((move l j x).to < length ws) × (entry (move l j x).to ≡ class (move m (entry j) x).to)
    target j x h hx =
        let v = word_at ws j in
        let c = found.complete (v ++ x ∷ []) (All-push (λ y. y < k) v x (found.first j h).keys hx) in
        let there : entry c.0 ≡ class (move m (entry j) x).to =
        are c.0 c.1 ∙ c.2 ∙ sym (class_key proper equivalence_congruence v x hx) ∙ ap (λ e. class (move m e x).to) (sym (are j h)) in
        rw (move_l j x h hx) (elim (place_cases entry (length ws) (class (move m (entry j) x).to)) [ inl none ↦ absurd (none.1 c.0 c.1 there) | inr here ↦ here ])

    -- the machine made is proper
    quotient_proper : Proper k l
    quotient_proper = record {
      some = rw length_l found.some;
      full = λ s h. full_quotient k m class entry (length ws) s (rw length_l at h);
      closed = λ s x h hx. rw length_l (target s x (rw length_l at h) hx).0;
    }

    -- a state of the machine made shows what its class shows
    quotient_shows : (w : Word) (j : ℕ) → j < length ws → Keys k w → outputs l j w ≡ outputs m (entry j) w
    unfolding outputs
    quotient_shows [] j h ok = refl
    quotient_shows (x ∷ w) j h ok =
        let t = target j x h ok.0 in
        let here : (move l j x).output ≡ (move m (entry j) x).output = ap (λ a. a.output) (move_l j x h ok.0) in
        let rest = quotient_shows w (move l j x).to t.0 ok.1 in
        let same = of.equivalent (move m (entry j) x).to (move_below proper _ x (entry_below j h)) w ok.1 in
        let there : outputs m (entry (move l j x).to) w ≡ outputs m (class (move m (entry j) x).to) w = ap (λ e. outputs m e w) t.1 in
        cc

    -- the class after a word is that of the state after it
    quotient_after : (w : Word) (j : ℕ) → j < length ws → Keys k w → (after l j w < length ws) × (entry (after l j w) ≡ class (after m (entry j) w))
    unfolding after
    quotient_after [] j h ok = (h, are j h ∙ sym (class_class _ (state j)) ∙ ap class (sym (are j h)))
    quotient_after (x ∷ w) j h ok =
        let t = target j x h ok.0 in
        let rest = quotient_after w (move l j x).to t.0 ok.1 in
        let next = (move m (entry j) x).to in
        let inside : next < length m = move_below proper _ x (entry_below j h) in (
          rest.0,
          rest.1 ∙ ap (λ e. class (after m e w)) t.1
              ∙ same_class _ _ (after_below proper _ w (below next inside)) (after_below proper next w inside) (same_behind m m _ next w ok.1 (of.equivalent next inside)),
        )

    -- the first class found is that of the beginning
    begin : entry 0 ≡ class 0
    unfolding after
    begin = are 0 found.some ∙ ap (class_after class m) found.start

    -- after a word the machine made is in the state of the class after that word
    after_start : (w : Word) → Keys k w → (after l 0 w < length ws) × (entry (after l 0 w) ≡ class (after m 0 w))
    after_start w ok =
        let r = quotient_after w 0 found.some ok in
        (r.0, r.1 ∙ ap (λ e. class (after m e w)) begin ∙ same_class _ _ (after_below proper _ w (below 0 proper.some)) (after_below proper 0 w proper.some) (same_behind m m _ 0 w ok (of.equivalent 0 proper.some)))

    -- one entry, one place
    entry_once : (i j : ℕ) → i < length ws → j < length ws → entry i ≡ entry j → i ≡ j
    entry_once i j hi hj e = one_place found i j hi hj (sym (are i hi) ∙ e ∙ are j hj)

    -- word j leads to state j
    reaches : (j : ℕ) → j < length ws → after l 0 (word_at ws j) ≡ j
    reaches j h = let r = after_start (word_at ws j) (found.first j h).keys in entry_once _ j r.0 h (r.1 ∙ sym (are j h))

    -- the machine made is minimal
    quotient_minimal : Minimal k l
    quotient_minimal = record {
      distinct = λ s t hs ht e. let a = rw length_l at hs in let b = rw length_l at ht in
          entry_once s t a b (own s a ∙ same_class (entry s) (entry t) (entry_below s a) (entry_below t b)
          (λ w ok. sym (quotient_shows w s a ok) ∙ e w ok ∙ quotient_shows w t b ok) ∙ sym (own t b));
      reached = λ s h. let a = rw length_l at h in (word_at ws s, (found.first s a).keys, reaches s a);
    }
      where
        own : (j : ℕ) → j < length ws → entry j ≡ class (entry j)
        own j h = are j h ∙ sym (class_class _ (state j)) ∙ ap class (sym (are j h))

    -- it is equivalent to the machine whose classes they are
    quotient_equivalent : Equivalent k m l
    quotient_equivalent w ok =
        sym (of.equivalent 0 proper.some w ok) ∙ ap (λ e. outputs m e w) (sym begin) ∙ sym (quotient_shows w 0 found.some ok)

    -- it is the minimal machine of that one
    pub quotient_machine : MinimalMachine k m l
    quotient_machine = record {
      proper = quotient_proper;
      minimal = quotient_minimal;
      equivalent = quotient_equivalent;
      numbered = λ s t less ht w ok e.
          let h = rw length_l at ht in
          let r = after_start w ok in
          let value : class_after class m w ≡ class_after class m (word_at ws t) = sym r.1 ∙ ap entry e ∙ are t h in
          (word_at ws s, (found.first s (omega arith)).keys, earlier _ (word_at ws t) w (found.increasing s t less h) (found_not_after found t w h ok value), reaches s (omega arith));
      fewest = λ i fit same. least k l i quotient_minimal fit (λ w ok. sym (quotient_equivalent w ok) ∙ same w ok);
    }
      where
        earlier : (u v w : Word) → Before u v → NotAfter v w → Before u w
        earlier u v w a (inl e) = rw e at a
        earlier u v w a (inr b) = before_transitive u v w a b

-- for every machine there is an equivalent minimal one with no more states
pub minimal_exists : MinimalExists
minimal_exists k m proper =
    let of = levels_equivalence proper (length m) (omega arith) in
    let class = class_at k m (length m) in
    let r = search_exists k (class_after class m) (length m) (congruence_low proper (equivalence_congruence proper of)) (congruent_after proper (equivalence_congruence proper of)) in
    let made = quotient_machine proper of r.1 (λ j. class_after class m (word_at r.0 j)) (λ j h. refl) in
    (_, made, made.fewest m proper (λ w ok. refl))
