-- Words compared and words kept once: which words are kept, and that none is kept twice. Assumes nothing.
use Rattle.std.proofs.Common.{◌≡◌, ℕ, ◌<◌, ◌≤◌, Bool, true, false, ◌||◌, ◌⊎◌, List, [], ◌∷◌, ◌++◌, length, get_or, Decides, sym, refl, ap, ◌∙◌, inl, inr, append-nil, arith}
use mathlib.Core.Bool.{or_assoc, or_comm}
use mathlib.Core.List.Memᴰ
use Rattle.std.proofs.lemmas.Slice.Eq.{compares_Decides}
use Rattle.std.proofs.lemmas.List.{ext_get_or}
use Rattle.std.proofs.lemmas.Bool.{cases_Bool, cond-true, cond-false, both_ways}
use Rattle.std.proofs.lemmas.Bool.Decides.{Decides-by_or, Decides-like}
use Rattle.machine.specs.Machine.{Word}
use Rattle.machine.specs.Words.{In, Different, same, listed, once_from, once}
use Rattle.machine.proofs.Members.{in_get_or, in_has}

-- the test passes exactly if the rows are equal
same_decides : (u v : List ℕ) → Decides (same u v) (u ≡ v)
unfolding same
same_decides = compares_Decides same (record { empty = refl; shorter = λ _ _. refl; longer = λ _ _. refl; heads = λ _ _ _ _. refl })

-- if the test passes the rows are equal
pub same_true : (u v : List ℕ) → same u v ≡ true → u ≡ v
same_true u v = (same_decides u v).0

-- and the other way round
pub eq_same : (u v : List ℕ) → u ≡ v → same u v ≡ true
eq_same u v = (same_decides u v).1

-- if the test does not pass the rows are not equal
pub same_false : (u v : List ℕ) → same u v ≡ false → u ≡ v → ⊥
same_false u v n e = both_ways (same u v) n (eq_same u v e)

-- and the other way round
pub differ_same : (u v : List ℕ) → (u ≡ v → ⊥) → same u v ≡ false
differ_same u v d = elim (cases_Bool (same u v)) [ inl y ↦ absurd (d (same_true u v y)) | inr n ↦ n ]

-- by their places
pub same_places : (u v : List ℕ) → length u ≡ length v → ((j : ℕ) → j < length u → get_or u j 0 ≡ get_or v j 0) → same u v ≡ true
same_places u v l h = eq_same u v (ext_get_or 0 u v l h)

-- rows of different lengths are not the same
pub other_length : (u v : List ℕ) → (length u ≡ length v → ⊥) → same u v ≡ false
other_length u v d = differ_same u v (λ e. d (ap length e))

-- rows that differ at a place are not the same
pub other_place : (u v : List ℕ) (j : ℕ) → (get_or u j 0 ≡ get_or v j 0 → ⊥) → same u v ≡ false
other_place u v j d = differ_same u v (λ e. d (ap (λ z. get_or z j 0) e))

-- whether a word is listed
pub listed_decides : (w : Word) (ws : List Word) → Decides (listed w ws) (In w ws)
unfolding listed
listed_decides w ws =
    Decides-like (listed w ws) (λ h. Memᴰ.cast (h.2 []) (in_get_or ws h.0 h.1)) (λ m. let r = in_has m in (r.0, r.1, λ d. sym (r.2 d)))
    (Decides-by_or (same w) (λ v. w ≡ v) (listed w) (same_decides w) refl (λ _ _. refl) ws)

-- a word that is listed stands in the list
listed_in : {w : Word} (ws : List Word) → listed w ws ≡ true → In w ws
listed_in {w} ws = (listed_decides w ws).0

-- and the other way round
in_listed : {w : Word} (ws : List Word) → In w ws → listed w ws ≡ true
in_listed {w} ws = (listed_decides w ws).1

-- a word that does not stand in the list is not listed
not_listed : {w : Word} (ws : List Word) → (In w ws → ⊥) → listed w ws ≡ false
not_listed {w} ws h = elim (cases_Bool (listed w ws)) [ inl y ↦ absurd (h (listed_in ws y)) | inr n ↦ n ]

-- a word is listed in two lists, one behind the other, exactly if it is in the first or in the second
pub listed_append : (w : Word) (us vs : List Word) → listed w (us ++ vs) ≡ (listed w us || listed w vs)
unfolding listed
listed_append w [] vs = refl
listed_append w (u ∷ us) vs = ap (λ b. same w u || b) (listed_append w us vs) ∙ sym (or_assoc (same w u) (listed w us) (listed w vs))

-- two lists that have the same words
abbrev Alike : List Word → List Word → Type 0
Alike us vs = (w : Word) → listed w us ≡ listed w vs

-- of the words seen it only matters which they are
once_from_alike : (us vs ws : List Word) → Alike us vs → once_from us ws ≡ once_from vs ws
unfolding once_from listed
once_from_alike us vs [] h = refl
once_from_alike us vs (w ∷ ws) h =
    rw (h w, once_from_alike us vs ws h, once_from_alike (w ∷ us) (w ∷ vs) ws (λ c. ap (λ b. same c w || b) (h c)))

-- of two lists, first those of the first, then those of the second with the first seen as well
pub once_from_append : (seen us vs : List Word) → once_from seen (us ++ vs) ≡ once_from seen us ++ once_from (us ++ seen) vs
unfolding once_from listed
once_from_append seen [] vs = refl
once_from_append seen (u ∷ us) vs = elim (cases_Bool (listed u seen)) [
  | inl y ↦ rw (y, once_from_append seen us vs, once_from_alike (us ++ seen) (u ∷ (us ++ seen)) vs (old y))
  | inr n ↦ rw (n, once_from_append (u ∷ seen) us vs, once_from_alike (us ++ u ∷ seen) (u ∷ (us ++ seen)) vs new)
]
  where
    old : listed u seen ≡ true → Alike (us ++ seen) (u ∷ (us ++ seen))
    old y c = absorbed (same c u) (listed c (us ++ seen)) (λ a. in_listed (us ++ seen) (Memᴰ.append_right us (Memᴰ.cast (same_true c u a) (listed_in seen y))))
      where
        absorbed : (a b : Bool) → (a ≡ true → b ≡ true) → b ≡ (a || b)
        absorbed true b h = h refl
        absorbed false b h = refl

    new : Alike (us ++ u ∷ seen) (u ∷ (us ++ seen))
    new c =
        listed_append c us (u ∷ seen) ∙ sym (or_assoc (listed c us) (same c u) (listed c seen)) ∙ ap (λ b. b || listed c seen) (or_comm (listed c us) (same c u))
        ∙ or_assoc (same c u) (listed c us) (listed c seen) ∙ ap (λ b. same c u || b) (sym (listed_append c us seen))

-- a word that is kept is one of the words, and was not seen
of_once_from : {w : Word} (seen ws : List Word) → In w (once_from seen ws) → In w ws × (In w seen → ⊥)
unfolding once_from
of_once_from seen [] m = absurd (Memᴰ.not-nil m)
of_once_from seen (v ∷ vs) m =
    elim (cases_Bool (listed v seen)) [
      | inl y ↦ let r = of_once_from seen vs (rw y at m) in (Memᴰ.tail r.0, r.1)
      | inr n ↦
          elim (Memᴰ.cases_cons (rw n at m)) [
            | inl e ↦ (Memᴰ.head e, λ g. both_ways (listed v seen) n (in_listed seen (Memᴰ.cast (sym e) g)))
            | inr t ↦ let r = of_once_from (v ∷ seen) vs t in (Memᴰ.tail r.0, λ g. r.1 (Memᴰ.tail g))
          ]
    ]

-- and each word that was not seen is kept
in_once_from : {w : Word} (seen ws : List Word) → In w ws → In w seen ⊎ In w (once_from seen ws)
unfolding once_from
in_once_from seen [] m = absurd (Memᴰ.not-nil m)
in_once_from seen (v ∷ vs) m =
    elim (cases_Bool (listed v seen)) [
      | inl y ↦ rw y (elim (Memᴰ.cases_cons m) [ inl e ↦ inl (Memᴰ.cast e (listed_in seen y)) | inr t ↦ in_once_from seen vs t ])
      | inr n ↦
          rw n
          (elim (Memᴰ.cases_cons m) [
            | inl e ↦ inr (Memᴰ.head e)
            | inr t ↦ elim (in_once_from (v ∷ seen) vs t) [
              | inl g ↦ elim (Memᴰ.cases_cons g) [ inl e ↦ inr (Memᴰ.head e) | inr s ↦ inl s ]
              | inr g ↦ inr (Memᴰ.tail g)
            ]
          ])
    ]

-- a list with each word once has exactly the words of the list
pub in_once : {w : Word} (ws : List Word) → In w ws → In w (once ws)
in_once ws m = elim (in_once_from [] ws m) [ inl a ↦ absurd (Memᴰ.not-nil a) | inr b ↦ b ]

-- and the other way round
pub of_once : {w : Word} (ws : List Word) → In w (once ws) → In w ws
of_once ws m = (of_once_from [] ws m).0

-- what is kept once stands once
different_once_from : (seen ws : List Word) → Different (once_from seen ws)
unfolding once_from
different_once_from seen [] = tt
different_once_from seen (v ∷ vs) =
    elim (cases_Bool (listed v seen)) [
      | inl y ↦ rw y (different_once_from seen vs)
      | inr n ↦ rw n (λ m. (of_once_from (v ∷ seen) vs m).1 (Memᴰ.head refl), different_once_from (v ∷ seen) vs)
    ]

-- a list with each word once has no word twice
pub different_once : (ws : List Word) → Different (once ws)
different_once ws = different_once_from [] ws

-- one word more: it was kept before
pub once_again : (seen ws : List Word) (w : Word) → In w seen ⊎ In w (once_from seen ws) → once_from seen (ws ++ w ∷ []) ≡ once_from seen ws
unfolding once_from
once_again seen ws w h =
    once_from_append seen ws (w ∷ [])
    ∙ ap (λ z. once_from seen ws ++ z) (cond-true (listed w (ws ++ seen)) [] (w ∷ []) (in_listed (ws ++ seen) there))
    ∙ append-nil (once_from seen ws)
  where
    there : In w (ws ++ seen)
    there = elim h [ inl a ↦ Memᴰ.append_right ws a | inr b ↦ Memᴰ.append_left seen (of_once_from seen ws b).0 ]

-- or it is new
pub once_new : (seen ws : List Word) (w : Word) → (In w seen → ⊥) → (In w (once_from seen ws) → ⊥) → once_from seen (ws ++ w ∷ []) ≡ once_from seen ws ++ w ∷ []
unfolding once_from
once_new seen ws w a b =
    once_from_append seen ws (w ∷ []) ∙ ap (λ z. once_from seen ws ++ z) (cond-false (listed w (ws ++ seen)) [] (w ∷ []) (not_listed (ws ++ seen) nowhere))
  where
    nowhere : In w (ws ++ seen) → ⊥
    nowhere m = elim (Memᴰ.append_cases ws m) [ inl i ↦ elim (in_once_from seen ws i) [ inl s ↦ a s | inr k ↦ b k ] | inr s ↦ a s ]

-- no more words are kept than there are
pub length_once : (seen ws : List Word) → length (once_from seen ws) ≤ length ws
unfolding once_from
length_once seen [] = omega arith
length_once seen (v ∷ vs) =
    elim (cases_Bool (listed v seen)) [
      | inl y ↦ rw y (let l = length_once seen vs in omega arith)
      | inr n ↦ rw n (let l = length_once (v ∷ seen) vs in omega arith)
    ]
