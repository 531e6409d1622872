-- Whether one of some words passes a test. Assumes nothing.
use Rattle.std.specs.List.{list_any}
use Rattle.std.proofs.Common.{ℕ, ◌≡◌, Bool, true, ◌||◌, List, [], ◌∷◌, ◌++◌, sym, refl, ap, ◌∙◌, inl, inr}
use mathlib.Core.List.Memᴰ
use Rattle.std.proofs.Math.Bool.{or-false}
use Rattle.std.proofs.lemmas.List.Folds.{list_any-append}
use Rattle.std.proofs.lemmas.Bool.{or_cases, or_left, or_right, false≢true}
use Rattle.machine.specs.declared.fixed_list.FixedList.{FixedList}
use Rattle.cover.specs.Words.{word_of, words_of}
use Rattle.machine.specs.Machine.{Word}
use Rattle.suite.proofs.Members.{In}

module _ (f : Word → Bool) where
  -- if one of some words passes, there is a word among them that does
  pub any_true : (ws : List Word) → list_any f ws ≡ true → (w : Word) × In w ws × (f w ≡ true)
  any_true [] h = absurd (false≢true h)
  any_true (w ∷ ws) h = elim (or_cases (f w) (list_any f ws) h) [
    | inl a ↦ (w, Memᴰ.head refl, a)
    | inr b ↦ let r = any_true ws b in (r.0, Memᴰ.tail r.1, r.2)
  ]

  -- and the other way round
  pub any_from : (ws : List Word) (w : Word) → In w ws → f w ≡ true → list_any f ws ≡ true
  any_from [] w m h = absurd (Memᴰ.not-nil m)
  any_from (v ∷ ws) w m h = elim (Memᴰ.cases_cons m) [
    | inl e ↦ or_left (f v) (list_any f ws) (ap f (sym e) ∙ h)
    | inr t ↦ or_right (f v) (list_any f ws) (any_from ws w t h)
  ]

  -- with one word more at the end: one of those before passes, or it does
  pub any_push : (ws : List Word) (w : Word) → list_any f (ws ++ w ∷ []) ≡ (list_any f ws || f w)
  any_push ws w = list_any-append f ws (w ∷ []) ∙ ap (λ b. list_any f ws || b) (or-false (f w))

-- a test of what some words by value stand for is a test of the words
pub any_words : {room : ℕ} (f : Word → Bool) (ws : List (FixedList ℕ room)) → list_any f (words_of ws) ≡ list_any (λ w. f (word_of w)) ws
any_words f [] = refl
any_words f (w ∷ ws) = ap (λ b. f (word_of w) || b) (any_words f ws)
