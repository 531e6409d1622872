-- A tree that keeps the words found, while the search goes on. Assumes nothing.
use Rattle.std.proofs.Common.{◌≡◌, ℕ, ◌+◌, ◌<◌, ◌≤◌, eqb, List, [], ◌∷◌, ◌++◌, length, get_or, Some, None, Option, sym, refl, ap, ◌∙◌, inl, inr, arith}
use Rattle.std.specs.List.{position}
use Rattle.std.specs.Option.{unwrap_or}
use Rattle.std.proofs.lemmas.List.{get_or_append_left, get_or_push, length_push}
use Rattle.std.proofs.lemmas.List.Quantifiers.{position-Some}
use Rattle.std.proofs.lemmas.Bool.{cases_lt, eqb-true, eqb-false}
use Rattle.machine.specs.Items.{items}
use Rattle.machine.specs.Machine.{Machine, Word, Keys, Proper, move}
use Rattle.machine.proofs.First.{none_first, first_position}
use Rattle.minimal.specs.Levels.{number_or}
use Rattle.minimal.specs.Quotient.{Congruence, class_after, place}
use Rattle.minimal.specs.Search.{word_at, nothing, found_count, found_at, class_found, Kept, SearchTree}
use Rattle.minimal.specs.declared.tree.Found.{Found}
use Rattle.minimal.specs.declared.tree.Tree.{Tree}
use Rattle.minimal.proofs.FirstWords.{Searching, search_begins, key_known, key_new, word_done, search_room, search_ends}
use Rattle.minimal.proofs.Quotient.{congruent_after, class_key}

-- where a class stands in a tree
module _ (tree : Tree) (c : ℕ) where
  -- at a place of the tree, if it is there
  pub found_some : (j : ℕ) → position (λ found. eqb found.class c) (items tree.found) ≡ Some j → (j < found_count tree) × (class_found tree j ≡ c)
  found_some j e = let p = position-Some (λ found. eqb found.class c) (items tree.found) j nothing e in (p.0, eqb-true _ _ p.1)

  -- and at none, if it is not
  pub found_none : position (λ found. eqb found.class c) (items tree.found) ≡ None → (j : ℕ) → j < found_count tree → class_found tree j ≡ c → ⊥
  found_none e j h = eqb-false _ _ (none_first _ _ (sym (first_position (λ found. eqb found.class c) (items tree.found) nothing) ∙ e) j h)

  -- its number, where one that is not there has the number behind the last
  pub found_place : (o : Option ℕ) (n : ℕ) → o ≡ position (λ found. eqb found.class c) (items tree.found) → n ≡ found_count tree → unwrap_or o n ≡ place (class_found tree) (found_count tree) c
  unfolding place
  found_place o n is_o is_n =
      rw is_n (number_is o ∙ ap (number_or (found_count tree)) (is_o ∙ first_position (λ found. eqb found.class c) (items tree.found) nothing))
    where
      number_is : (o : Option ℕ) → unwrap_or o (found_count tree) ≡ number_or (found_count tree) o
      number_is None = refl
      number_is (Some j) = refl

-- a search that has come to key x of class i, and the tree that keeps it
pub record Growing (k : ℕ) (f : Word → ℕ) (i x : ℕ) (tree : Tree) : Type 0 where
  pub words : List Word
  pub searching : Searching k f words i x
  pub kept : Kept k f words tree

module _ {k : ℕ} {f : Word → ℕ} where
  -- the tree with the empty word alone, at the beginning
  pub grows_root : (tree : Tree) (c : ℕ) → (items tree.found) ≡ record { class = c; parent = 0; key = 0 } ∷ [] → c ≡ f [] → Growing k f 0 0 tree
  grows_root tree c one e =
      let many = ap length one in
      record {
        words = [] ∷ [];
        searching = search_begins k f;
        kept = record {
          many = sym many;
          values = λ j h. let z : j ≡ 0 = omega arith in rw z (ap (λ ds. (get_or ds 0 nothing).class) one ∙ e);
          parents = λ j a b. absurd (omega arith);
          keys = λ j a b. absurd (omega arith);
          steps = λ j a b. absurd (omega arith);
        };
      }

  -- all keys of a class were tried
  pub grows_done : (i : ℕ) (tree : Tree) → Growing k f i k tree → Growing k f (i + 1) 0 tree
  grows_done i tree g = record { words = g.words; searching = word_done k f g.words i g.searching; kept = g.kept }

  module _ (i x : ℕ) (tree : Tree) (g : Growing k f i x tree) (hi : i < found_count tree) (hx : x < k) where
    -- the word that is tried next
    abbrev next : Word
    next = word_at g.words i ++ x ∷ []

    -- there is a word for class i
    inside : i < length g.words
    inside = let a = g.kept.many in omega arith

    -- the class behind the key was found before
    pub grows_known : (l : ℕ) → l < found_count tree → class_found tree l ≡ f next → Growing k f i (x + 1) tree
    grows_known l h e = record {
      words = g.words;
      searching = key_known k f g.words i x g.searching inside l (let a = g.kept.many in omega arith) (sym (g.kept.values l h) ∙ e);
      kept = g.kept;
    }

    -- a value that is new to the tree is new to the words
    fresh_words : ((l : ℕ) → l < found_count tree → class_found tree l ≡ f next → ⊥) → (l : ℕ) → l < length g.words → f (word_at g.words l) ≡ f next → ⊥
    fresh_words fresh l h e = let a = g.kept.many in let b : l < found_count tree = omega arith in fresh l b (g.kept.values l b ∙ e)

    -- with values below n there is room for a new one
    pub grows_room : ((l : ℕ) → l < found_count tree → class_found tree l ≡ f next → ⊥) → (n : ℕ) → ((w : Word) → Keys k w → f w < n) → found_count tree < n
    grows_room fresh n low =
        let more = search_room k f _ i (x + 1) n (key_new k f g.words i x g.searching inside hx (fresh_words fresh)) low in
        let a = g.kept.many in
        omega (arith, length_push g.words next)

    -- the class behind the key is new
    pub grows_new :
        ((l : ℕ) → l < found_count tree → class_found tree l ≡ f next → ⊥) → (more : Tree) →
        (items more.found) ≡ (items tree.found) ++ record { class = f next; parent = i; key = x } ∷ [] → Growing k f i (x + 1) more
    grows_new fresh more pushed = record {
      words = ws ++ next ∷ [];
      searching = key_new k f ws i x g.searching inside hx (fresh_words fresh);
      kept = record {
        many = (let a = g.kept.many in let n = many in omega (arith, length_push ws next));
        values = λ j b. elim (cases_lt j (found_count tree)) [
          | inl l ↦ ap (λ (d : Found). d.class) (kept_at j l) ∙ g.kept.values j l ∙ ap f (sym (old j l))
          | inr q ↦ let e : j ≡ found_count tree = (let n = many in omega arith) in rw e (ap (λ (d : Found). d.class) new_at ∙ ap f (sym new))
        ];
        parents = λ j a b. elim (cases_lt j (found_count tree)) [
          | inl l ↦ rw (kept_at j l) (g.kept.parents j a l)
          | inr q ↦ let e : j ≡ found_count tree = (let n = many in omega arith) in rw (e, new_at) hi
        ];
        keys = λ j a b. elim (cases_lt j (found_count tree)) [
          | inl l ↦ rw (kept_at j l) (g.kept.keys j a l)
          | inr q ↦ let e : j ≡ found_count tree = (let n = many in omega arith) in rw (e, new_at) hx
        ];
        steps = λ j a b. elim (cases_lt j (found_count tree)) [
          | inl l ↦ let p = g.kept.parents j a l in
              rw (kept_at j l) (old j l ∙ g.kept.steps j a l ∙ ap (λ u. u ++ (found_at tree j).key ∷ []) (sym (old (found_at tree j).parent (omega arith))))
          | inr q ↦ let e : j ≡ found_count tree = (let n = many in omega arith) in rw (e, new_at, new, old i hi) refl
        ];
      };
    }
      where
        ws : List Word
        ws = g.words

        many : found_count more ≡ found_count tree + 1
        many = ap length pushed ∙ length_push (items tree.found) (record { class = f next; parent = i; key = x })

        old : (j : ℕ) → j < found_count tree → word_at (ws ++ next ∷ []) j ≡ word_at ws j
        old j l = get_or_append_left ws (next ∷ []) [] j (let a = g.kept.many in omega arith)

        new : word_at (ws ++ next ∷ []) (found_count tree) ≡ next
        new = get_or_push ws next [] (found_count tree) g.kept.many

        kept_at : (j : ℕ) → j < found_count tree → found_at more j ≡ found_at tree j
        kept_at j l = ap (λ ds. get_or ds j nothing) pushed ∙ get_or_append_left (items tree.found) (record { class = f next; parent = i; key = x } ∷ []) nothing j l

        new_at : found_at more (found_count tree) ≡ record { class = f next; parent = i; key = x }
        new_at = ap (λ ds. get_or ds (found_count tree) nothing) pushed ∙ get_or_push (items tree.found) (record { class = f next; parent = i; key = x }) nothing (found_count tree) refl

-- the search has come to its end
pub grows_ends : {k : ℕ} {m : Machine} {class : ℕ → ℕ} → Proper k m → Congruence k m class → (i : ℕ) (tree : Tree) → Growing k (class_after class m) i 0 tree → found_count tree ≤ i → SearchTree k (class_after class m) tree
grows_ends {k} {m} {class} proper of i tree g h =
    (g.words, search_ends k (class_after class m) (congruent_after proper of) g.words i g.searching (let a = g.kept.many in omega arith), g.kept)

-- the class behind a key of a class found is that of the word with the key behind
pub behind_is :
    {k : ℕ} {m : Machine} {class : ℕ → ℕ} → Proper k m → Congruence k m class → (i x : ℕ) (tree : Tree) (g : Growing k (class_after class m) i x tree) → i < found_count tree → x < k →
    class (move m (class_found tree i) x).to ≡ class_after class m (word_at g.words i ++ x ∷ [])
behind_is {k} {m} {class} proper of i x tree g hi hx =
    ap (λ e. class (move m e x).to) (g.kept.values i hi) ∙ class_key proper of (word_at g.words i) x hx
