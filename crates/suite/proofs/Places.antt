-- Comparing words, and words by value in a slice. Assumes nothing.
use Rattle.std.specs.Cmp.Lexicographic.{pointwise}
use Rattle.std.proofs.Common.{take, ◌≡◌, ℕ, nat_eq, ◌&&◌, ◌∷◌, refl, ◌<◌, List, [], length, get_or, sym, ap, ◌∙◌, arith, length-take, length-drop, drop, ◌-◌, false}
use Rattle.std.proofs.lemmas.Bool.{false_from_ne_true}
use Rattle.std.proofs.lemmas.List.{get_or-map, take_all}
use Rattle.machine.specs.Words.{same}
use Rattle.machine.specs.declared.fixed_list.FixedList.{FixedList}
use Rattle.cover.specs.Words.{word_of, words_of}
use Rattle.suite.specs.Kept.{begins}
use Rattle.suite.proofs.Members.{same_true}

-- whether two rows are the same is what `==` on slices computes
pub same_is : (a b : List ℕ) → same a b ≡ pointwise nat_eq a b
unfolding same
same_is [] [] = refl
same_is [] (y ∷ b) = refl
same_is (x ∷ a) [] = refl
same_is (x ∷ a) (y ∷ b) = ap (λ t. nat_eq x y && t) (same_is a b)

-- what is shorter than a word does not begin with it
pub begins_short : (p c : List ℕ) → length c < length p → begins p c ≡ false
unfolding begins
begins_short p c short = false_from_ne_true (same p (take (length p) c)) (λ e. omega (arith, ap length (same_true p (take (length p) c) e), length-take (length p) c))

-- the end of a word from a place on, as the code cuts it out
pub end_from : (c : List ℕ) (n : ℕ) → take (length c - n) (drop n c) ≡ drop n c
end_from c n = take_all (length c - n) (drop n c) (omega (arith, length-drop n c))

-- the word that stands at a place of a slice
pub word_at : {room : ℕ} (ws : List (FixedList ℕ room)) (i : ℕ) (x : FixedList ℕ room) → i < length ws → x ≡ get_or ws i x → get_or (words_of ws) i [] ≡ word_of x
word_at ws i x l e = get_or-map word_of ws i x [] l ∙ ap word_of (sym e)
