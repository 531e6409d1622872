-- What is known of the first keys of a test stays true when more keys stand behind them, if no earlier word in front goes on from them.
-- Assumes nothing.
use Rattle.std.specs.List.{list_any}
use Rattle.std.proofs.Common.{◌≡◌, ℕ, suc, ◌<◌, false, ◌||◌, List, [], ◌∷◌, ◌++◌, length, take, sym, refl, ap, ◌∙◌, inl, inr, arith, length-append}
use Rattle.std.proofs.lemmas.List.{take-append-le, take-take, take_at}
use Rattle.std.proofs.lemmas.Bool.{cases_lt, or_parts, false_from_ne_true, true≢false}
use Rattle.cover.specs.Words.{words_of}
use Rattle.machine.specs.Machine.{Word}
use Rattle.machine.specs.Words.{same}
use Rattle.suite.specs.declared.values.Against.{Against}
use Rattle.suite.specs.declared.values.Known.{Known}
use Rattle.suite.specs.Enumeration.{Knows, within, marks, marked, longer}
use Rattle.suite.specs.Kept.{begins}
use Rattle.suite.proofs.Places.{begins_short}
use Rattle.suite.proofs.Repeats.{begins_true, longer_from, longer_true}

module _ (f u p : Word) (none : longer f p ≡ false) where
  -- p does not go on from f
  stops : length f < length p → f ≡ take (length f) p → ⊥
  stops l e = true≢false (sym (longer_from f p l e) ∙ none)

  -- so it does not go on from f with more keys
  longer_later : longer (f ++ u) p ≡ false
  longer_later = false_from_ne_true (longer (f ++ u) p) (λ h.
      let r = longer_true (f ++ u) p h in
      let long = length-append f u in
      let l = r.0 in
      stops (omega arith) (sym (take_at f u (length f) refl) ∙ ap (take (length f)) r.1 ∙ take-take (length f) (length (f ++ u)) p (omega arith)))

  -- and these begin with it exactly if f does
  begins_later : begins p (f ++ u) ≡ begins p f
  unfolding begins
  begins_later = elim (cases_lt (length f) (length p)) [
    | inl l ↦ false_from_ne_true (begins p (f ++ u)) (λ h.
        stops l (sym (take_at f u (length f) refl) ∙ sym (take-take (length f) (length p) (f ++ u) (omega (arith, l))) ∙ ap (take (length f)) (sym (begins_true p (f ++ u) h))))
        ∙ sym (begins_short p f l)
    | inr l ↦ ap (same p) (take-append-le (length p) f u l)
  ]

  -- and it marks the same places
  marks_later : (n m : ℕ) → marks n (f ++ u) m p ≡ marks n f m p
  unfolding marks
  marks_later n m = rw begins_later

module _ (f u : Word) where
  -- the same for each of some words
  none_longer : (ps : List Word) → list_any (longer f) ps ≡ false → list_any (longer (f ++ u)) ps ≡ false
  none_longer [] none = refl
  none_longer (p ∷ ps) none = let r = or_parts (longer f p) (list_any (longer f) ps) none in rw (longer_later f u p r.0, none_longer ps r.1)

  marks_all_later : (n m : ℕ) (ps : List Word) → list_any (longer f) ps ≡ false → list_any (marks n (f ++ u) m) ps ≡ list_any (marks n f m) ps
  marks_all_later n m [] none = refl
  marks_all_later n m (p ∷ ps) none = let r = or_parts (longer f p) (list_any (longer f) ps) none in rw (marks_later f u p r.0 n m, marks_all_later n m ps r.1)

-- what is known of f is right for f with more keys
pub knows_later : (a : Against) (known : Known) (f u : Word) → Knows a known f → known.longer ≡ false → Knows a known (f ++ u)
unfolding marked
knows_later a known f u k none = record {
  places = λ m h. k.places m h ∙ ap (λ z. within a.own a.between m || z) (sym (marks_all_later f u (suc a.extra) m (words_of a.earlier.now) none_on));
  longer = none ∙ sym (none_longer f u (words_of a.earlier.now) none_on);
}
  where
    none_on : list_any (longer f) (words_of a.earlier.now) ≡ false
    none_on = sym k.longer ∙ none
