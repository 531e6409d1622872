-- Access words out of the tree of a breadth first search: each word is that of its parent with a key behind. Assumes nothing.
use Rattle.std.proofs.Common.{◌≡◌, ℕ, ◌+◌, ◌<◌, ◌≤◌, List, [], ◌∷◌, ◌++◌, length, get_or, set, sym, ap, ◌∙◌, subst, inl, inr, arith}
use lib.ListN.{length-map}
use Rattle.std.proofs.lemmas.List.FromFn.{fill_by_all}
use Rattle.std.proofs.lemmas.List.{get_or-map, get_or-set_same, get_or-set_other, length-set}
use Rattle.std.proofs.lemmas.Bool.{cases_lt}
use Rattle.machine.specs.declared.fixed_list.FixedList.{FixedList}
use Rattle.machine.specs.Machine.{Machine, Word, Proper, Minimal, after}
use Rattle.machine.specs.Words.{FirstWord}
use Rattle.machine.proofs.Cut.{first_short}
use Rattle.machine.proofs.Runs.{after_below}
use Rattle.minimal.specs.Search.{Searched, Kept, SearchTree, word_at, class_found, found_at, found_count}
use Rattle.minimal.specs.declared.tree.Tree.{Tree}
use Rattle.minimal.proofs.Searches.{found_short}
use Rattle.cover.specs.Cover.{access_words}
use Rattle.cover.specs.Words.{word_of, words_of}
use Rattle.cover.proofs.Access.{access_word, access_is}

-- the words of the first j states that the search found stand at their states
pub record Placed (k : ℕ) (m : Machine) (tree : Tree) (j : ℕ) (qs : List Word) : Type 0 where
  pub long : length qs ≡ length m
  pub stand :
      (ws : List Word) → Searched k (after m 0) ws → Kept k (after m 0) ws tree → (h : ℕ) → h < j → h < found_count tree → get_or qs (class_found tree h) [] ≡ word_at ws h

-- the state from which the search found another
abbrev pub parent_of : Tree → ℕ → ℕ
parent_of tree j = class_found tree (found_at tree j).parent

module _ {k : ℕ} {m : Machine} {tree : Tree} (proper : Proper k m) (search : SearchTree k (after m 0) tree) where
  -- what the search found are states
  pub found_inside : {h : ℕ} → h < found_count tree → class_found tree h < length m
  found_inside {h} l = rw (search.2.values h l) (after_below proper 0 (word_at search.0 h) proper.some)

  -- and so are their parents
  pub parent_inside : {j : ℕ} → 0 < j → j < found_count tree → parent_of tree j < length m
  parent_inside {j} some c = found_inside (let before = search.2.parents j some c in omega arith)

  module _ {j : ℕ} {qs : List Word} (placed : Placed k m tree j qs) where
    -- the word of a parent has at most as many keys as there are states found before it
    pub parent_short : 0 < j → j < found_count tree → length (get_or qs (parent_of tree j) []) < found_count tree
    parent_short some c =
        let before = search.2.parents j some c in
        let a = ap length (placed.stand search.0 search.1 search.2 (found_at tree j).parent before (omega arith)) in
        let short = found_short search.1 (found_at tree j).parent (let e = search.2.many in omega arith) in
        omega arith

    -- one state more: the words before it stay, and its own is its parent's with a key behind
    pub placed_more : {w : Word} → 0 < j → j < found_count tree → w ≡ get_or qs (parent_of tree j) [] ++ (found_at tree j).key ∷ [] → Placed k m tree (j + 1) (set qs (class_found tree j) w)
    placed_more {w} some c grown = record { long = length-set qs (class_found tree j) w ∙ placed.long; stand = step }
      where
        step :
            (ws : List Word) → Searched k (after m 0) ws → Kept k (after m 0) ws tree →
            (h : ℕ) → h < j + 1 → h < found_count tree → get_or (set qs (class_found tree j) w) (class_found tree h) [] ≡ word_at ws h
        step ws searched kept h l hc =
            elim (cases_lt h j) [
              | inl before ↦
                  get_or-set_other qs (class_found tree j) (class_found tree h) w []
                  (λ e. searched.different h j before (let n = kept.many in omega arith) (sym (kept.values h hc) ∙ e ∙ kept.values j c))
                  ∙ placed.stand ws searched kept h before hc
              | inr g ↦
                  let same : h ≡ j = omega arith in
                  let before = kept.parents j some c in
                  rw same
                  (get_or-set_same qs (class_found tree j) w [] (let inside = found_inside c in let long = placed.long in omega arith)
                  ∙ grown
                  ∙ ap (λ z. z ++ (found_at tree j).key ∷ []) (placed.stand ws searched kept (found_at tree j).parent before (omega arith))
                  ∙ sym (kept.steps j some c))
            ]

    -- all states that were found, which in a minimal machine are all
    pub placed_all : Minimal k m → length m ≤ 16 → found_count tree ≤ j → qs ≡ access_words k m
    unfolding access_words
    placed_all minimal few all = fill_by_all (access_word k m) qs (length m) [] placed.long at
      where
        at : (s : ℕ) → s < length m → get_or qs s [] ≡ access_word k m s
        at s l =
            let r = minimal.reached s l in
            let f = search.1.complete r.0 r.1 in
            let h : f.0 < found_count tree = (let a = f.1 in let e = search.2.many in omega arith) in
            let is : class_found tree f.0 ≡ s = search.2.values f.0 h ∙ f.2 ∙ r.2 in
            let first : FirstWord k (λ v. after m 0 v ≡ s) (word_at search.0 f.0) =
            subst (λ z. FirstWord k (λ v. after m 0 v ≡ z) (word_at search.0 f.0)) (f.2 ∙ r.2) (search.1.first f.0 f.1) in
            ap (λ z. get_or qs z []) (sym is)
            ∙ placed.stand search.0 search.1 search.2 f.0 (omega arith) h
            ∙ sym (access_is k m s (word_at search.0 f.0) first (let b = first_short proper 0 proper.some s (word_at search.0 f.0) first in omega arith))

-- a word that is read out of some words
pub word_read : {room : ℕ} (ws : List (FixedList ℕ room)) (i : ℕ) {xs : List (FixedList ℕ room)} {w : FixedList ℕ room} → xs ≡ ws → i < length (words_of ws) → w ≡ get_or xs i w → word_of w ≡ get_or (words_of ws) i []
word_read ws i {xs} {w} same inside is =
    ap word_of is ∙ ap (λ ws. word_of (get_or ws i w)) same ∙ sym (get_or-map word_of ws i w [] (let e = length-map ws word_of in omega arith))
