-- Marking places, for one word after the other. Assumes nothing.
use Rattle.std.specs.List.{list_any}
use Rattle.std.proofs.Common.{◌≡◌, ℕ, suc, ◌+◌, ◌<◌, ◌≤◌, Bool, true, false, ◌||◌, List, [], length, get_or, take, replicate, sym, ap, ◌∙◌, arith}
use Rattle.std.proofs.Math.Bool.{or-false, or_assoc}
use Rattle.std.proofs.lemmas.List.Folds.{list_any_more}
use Rattle.std.proofs.lemmas.List.{take_all, get_or-replicate}
use lib.ListN.{length-map}
use Rattle.machine.specs.declared.fixed_list.FixedList.{FixedList}
use Rattle.cover.specs.Words.{word_of, words_of}
use Rattle.suite.specs.Enumeration.{within, marks, marked}
use Rattle.suite.specs.Kept.{begins}
use Rattle.suite.proofs.Places.{word_at}

-- before any word is looked at
pub marks_none : (own j m : ℕ) (b : Bool) → m < 36 → b ≡ (get_or (replicate 36 false) m false || within own j m) → b ≡ (within own j m || false)
marks_none own j m b l e = e ∙ ap (λ z. z || within own j m) (get_or-replicate 36 m false false l) ∙ sym (or-false (within own j m))

module _ {room : ℕ} (e : ℕ) (f : List ℕ) (ws : List (FixedList ℕ room)) (i own j : ℕ) (x : FixedList ℕ room) (inside : i < length ws) (is : x ≡ get_or ws i x) (m : ℕ) (b r : Bool)
    (so_far : b ≡ (within own j m || list_any (marks (suc e) f m) (take i (words_of ws)))) where
  -- with x too, the place has a mark if it had one before or x marks it
  one_more : (within own j m || list_any (marks (suc e) f m) (take (i + 1) (words_of ws))) ≡ (b || marks (suc e) f m (word_of x))
  one_more =
      ap (λ z. within own j m || z) (list_any_more (marks (suc e) f m) (words_of ws) i [] (omega (arith, length-map ws word_of)))
      ∙ ap (λ z. within own j m || (list_any (marks (suc e) f m) (take i (words_of ws)) || marks (suc e) f m z)) (word_at ws i x inside is)
      ∙ sym (or_assoc (within own j m) (list_any (marks (suc e) f m) (take i (words_of ws))) (marks (suc e) f m (word_of x)))
      ∙ ap (λ z. z || marks (suc e) f m (word_of x)) (sym so_far)

  -- if f begins with x, the e + 1 places behind x are marked too
  pub marks_more : begins (word_of x) f ≡ true → r ≡ (b || within (length (word_of x)) (e + 1) m) → r ≡ (within own j m || list_any (marks (suc e) f m) (take (i + 1) (words_of ws)))
  unfolding marks
  marks_more y h = h ∙ ap (λ z. b || z) (sym here) ∙ sym one_more
    where
      one : e + 1 ≡ suc e
      one = omega arith

      here : marks (suc e) f m (word_of x) ≡ within (length (word_of x)) (e + 1) m
      here = rw (y, one)

  -- if it does not, the marks stay as they are
  pub marks_same : begins (word_of x) f ≡ false → b ≡ (within own j m || list_any (marks (suc e) f m) (take (i + 1) (words_of ws)))
  unfolding marks
  marks_same y = sym (or-false b) ∙ ap (λ z. b || z) (sym here) ∙ sym one_more
    where
      here : marks (suc e) f m (word_of x) ≡ false
      here = rw y

-- when every word was looked at
pub marks_all : (e : ℕ) (ws : List (List ℕ)) (own j : ℕ) (f : List ℕ) (m i : ℕ) → length ws ≤ i → (within own j m || list_any (marks (suc e) f m) (take i ws)) ≡ marked e ws own j f m
unfolding marked
marks_all e ws own j f m i l = ap (λ z. within own j m || list_any (marks (suc e) f m) z) (take_all i ws l)
