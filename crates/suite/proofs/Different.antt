-- Lists in which no word stands twice, and keeping each word once. Assumes nothing.
use Rattle.std.proofs.Common.{◌≡◌, ℕ, zero, suc, ◌+◌, ◌<◌, Bool, true, false, not, ◌||◌, List, [], ◌∷◌, ◌++◌, map, length, take, filter, sym, refl, ap, ◌∙◌, inl, inr, arith}
use mathlib.Core.List.Memᴰ
use Rattle.std.specs.List.{range_with_len, AllByRecursion}
use Rattle.std.proofs.lemmas.List.{append_cancel_left, take_at}
use Rattle.std.proofs.lemmas.Bool.{cases_Bool, or_cases, or_right, or_parts, both_ways}
use Rattle.machine.specs.Machine.{Word}
use Rattle.machine.specs.Words.{each_behind, products, single_keys, of_length, same, listed, once_from, once}
use Rattle.suite.specs.Kept.{Different, without}
use Rattle.suite.proofs.Members.{In, in_listed, listed_in, same_true, eq_same, of_products, of_single, in_all}

-- two tests that follow from each other are one
pub same_tests : (a b : Bool) → (a ≡ true → b ≡ true) → (b ≡ true → a ≡ true) → a ≡ b
same_tests true b f g = sym (f refl)
same_tests false true f g = g refl
same_tests false false f g = refl

-- a word that does not stand in a list is not listed
pub not_in : {w : Word} (ws : List Word) → (In w ws → ⊥) → listed w ws ≡ false
not_in {w} ws h = elim (cases_Bool (listed w ws)) [ inl y ↦ absurd (h (listed_in ws y)) | inr n ↦ n ]

-- a word of two lists, one behind the other, is a word of one of them
pub listed_append : (w : Word) (us vs : List Word) → listed w (us ++ vs) ≡ (listed w us || listed w vs)
unfolding listed
listed_append w [] vs = refl
listed_append w (u ∷ us) vs = go (same w u) (listed_append w us vs)
  where
    go : (b : Bool) → listed w (us ++ vs) ≡ (listed w us || listed w vs) → (b || listed w (us ++ vs)) ≡ ((b || listed w us) || listed w vs)
    go true e = refl
    go false e = e

-- two lists that have the same words
abbrev Alike : List Word → List Word → Type 0
Alike us vs = (w : Word) → listed w us ≡ listed w vs

-- of the words seen it only matters which they are
once_from_alike : (us vs ws : List Word) → Alike us vs → once_from us ws ≡ once_from vs ws
unfolding once_from listed
once_from_alike us vs [] h = refl
once_from_alike us vs (w ∷ ws) h =
    rw (h w, once_from_alike us vs ws h, once_from_alike (w ∷ us) (w ∷ vs) ws (λ c. ap (λ b. same c w || b) (h c)))

-- of two lists, first those of the first, then those of the second with the first seen as well
pub once_from_append : (seen us vs : List Word) → once_from seen (us ++ vs) ≡ once_from seen us ++ once_from (us ++ seen) vs
unfolding once_from listed
once_from_append seen [] vs = refl
once_from_append seen (u ∷ us) vs = elim (cases_Bool (listed u seen)) [
  | inl y ↦ rw (y, once_from_append seen us vs, once_from_alike (us ++ seen) (u ∷ (us ++ seen)) vs (old y))
  | inr n ↦ rw (n, once_from_append (u ∷ seen) us vs, once_from_alike (us ++ u ∷ seen) (u ∷ (us ++ seen)) vs new)
]
  where
    old : listed u seen ≡ true → Alike (us ++ seen) (u ∷ (us ++ seen))
    old y c = same_tests (listed c (us ++ seen)) (same c u || listed c (us ++ seen)) (or_right (same c u) (listed c (us ++ seen)))
        (λ h. elim (or_cases (same c u) (listed c (us ++ seen)) h) [ inl a ↦ in_listed (us ++ seen) (Memᴰ.append_right us (Memᴰ.cast (same_true c u a) (listed_in seen y))) | inr b ↦ b ])

    new : Alike (us ++ u ∷ seen) (u ∷ (us ++ seen))
    new c = listed_append c us (u ∷ seen) ∙ swap (listed c us) (same c u) (listed c seen) ∙ ap (λ b. same c u || b) (sym (listed_append c us seen))
      where
        swap : (a b d : Bool) → (a || (b || d)) ≡ (b || (a || d))
        swap true true d = refl
        swap true false d = refl
        swap false b d = refl

-- two tests that agree on each word of a list keep the same words of it
pub kept_by_same : (f g : Word → Bool) (ws : List Word) → AllByRecursion (λ w. f w ≡ g w) ws → filter f ws ≡ filter g ws
kept_by_same f g [] h = refl
kept_by_same f g (w ∷ ws) h = rw (h.0, kept_by_same f g ws h.1)

-- where no word stands twice only those seen before go
pub once_from_different : (seen ws : List Word) → Different ws → once_from seen ws ≡ without (λ c. listed c seen) ws
unfolding once_from listed
once_from_different seen [] d = refl
once_from_different seen (w ∷ ws) d = elim (cases_Bool (listed w seen)) [
  | inl y ↦ rw (y, once_from_different seen ws d.1)
  | inr n ↦ rw (n, once_from_different (w ∷ seen) ws d.1, kept_by_same (λ c. not (same c w || listed c seen)) (λ c. not (listed c seen)) ws (in_all (λ c. not (same c w || listed c seen) ≡ not (listed c seen)) ws other))
]
  where
    other : (c : Word) → In c ws → not (same c w || listed c seen) ≡ not (listed c seen)
    other c m = elim (cases_Bool (same c w)) [
      | inl y ↦ absurd (both_ways (listed w ws) d.0 (in_listed ws (Memᴰ.cast (sym (same_true c w y)) m)))
      | inr n ↦ rw n
    ]

-- what is kept once stands once
pub different_once_from : (seen ws : List Word) → Different (once_from seen ws) × AllByRecursion (λ w. listed w seen ≡ false) (once_from seen ws)
unfolding once_from listed
different_once_from seen [] = (tt, tt)
different_once_from seen (w ∷ ws) = elim (cases_Bool (listed w seen)) [
  | inl y ↦ rw y (different_once_from seen ws)
  | inr n ↦ rw n (fresh n (different_once_from (w ∷ seen) ws))
]
  where
    fresh : listed w seen ≡ false → Different (once_from (w ∷ seen) ws) × AllByRecursion (λ c. (same c w || listed c seen) ≡ false) (once_from (w ∷ seen) ws) →
        Different (w ∷ once_from (w ∷ seen) ws) × AllByRecursion (λ c. listed c seen ≡ false) (w ∷ once_from (w ∷ seen) ws)
    fresh n r = ((not_in (once_from (w ∷ seen) ws) (λ m. apart (once_from (w ∷ seen) ws) r.1 m), r.0), (n, weaker (once_from (w ∷ seen) ws) r.1))
      where
        apart : (cs : List Word) → AllByRecursion (λ c. (same c w || listed c seen) ≡ false) cs → In w cs → ⊥
        apart [] a m = Memᴰ.not-nil m
        apart (c ∷ cs) a m = elim (Memᴰ.cases_cons m) [ inl e ↦ both_ways (same c w) (or_parts (same c w) (listed c seen) a.0).0 (eq_same c w (sym e)) | inr t ↦ apart cs a.1 t ]

        weaker : (cs : List Word) → AllByRecursion (λ c. (same c w || listed c seen) ≡ false) cs → AllByRecursion (λ c. listed c seen ≡ false) cs
        weaker [] a = tt
        weaker (c ∷ cs) a = ((or_parts (same c w) (listed c seen) a.0).1, weaker cs a.1)

-- so for all the words of a list, each kept once
pub different_once : (ws : List Word) → Different (once ws)
different_once ws = (different_once_from [] ws).0

-- two lists in which no word stands twice and that share none, one behind the other
pub different_append : (us vs : List Word) → Different us → Different vs → ((w : Word) → In w us → In w vs → ⊥) → Different (us ++ vs)
different_append [] vs a b h = b
different_append (u ∷ us) vs a b h = (
  not_in (us ++ vs) (λ m. elim (Memᴰ.append_cases us m) [ inl i ↦ both_ways (listed u us) a.0 (in_listed us i) | inr i ↦ h u (Memᴰ.head refl) i ]),
  different_append us vs a.1 b (λ w i j. h w (Memᴰ.tail i) j),
)

-- one word put in front of each word of such a list
pub different_behind : (v : Word) (ws : List Word) → Different ws → Different (each_behind v ws)
different_behind v [] d = tt
different_behind v (w ∷ ws) d = (
  not_in (each_behind v ws) (λ m. let r = Memᴰ.of_map (λ z. v ++ z) ws m in both_ways (listed w ws) d.0 (in_listed ws (Memᴰ.cast (sym (append_cancel_left v r.0 w r.2)) r.1))),
  different_behind v ws d.1,
)

-- words of one length, each followed by each of some words
pub different_products : (n : ℕ) (us ws : List Word) → AllByRecursion (λ u. length u ≡ n) us → Different us → Different ws → Different (products us ws)
different_products n [] ws l a b = tt
different_products n (u ∷ us) ws l a b =
    different_append (each_behind u ws) (products us ws) (different_behind u ws b) (different_products n us ws l.1 a.1 b) apart
  where
    long : {x : Word} (xs : List Word) → AllByRecursion (λ z. length z ≡ n) xs → In x xs → length x ≡ n
    long [] h m = absurd (Memᴰ.not-nil m)
    long (z ∷ xs) h m = elim (Memᴰ.cases_cons m) [ inl e ↦ ap length e ∙ h.0 | inr t ↦ long xs h.1 t ]

    apart : (w : Word) → In w (each_behind u ws) → In w (products us ws) → ⊥
    apart w i j =
        let r = Memᴰ.of_map (λ z. u ++ z) ws i in
        let s = of_products us ws j in
        let front : u ≡ s.front = sym (take_at u r.0 n l.0) ∙ ap (take n) (r.2 ∙ s.whole) ∙ take_at s.front s.behind n (long us l.1 s.front_in) in
        both_ways (listed u us) a.0 (in_listed us (Memᴰ.cast front s.front_in))

-- no word of one key stands twice among those of a range of keys
different_single : (a n : ℕ) → Different (map (λ x. x ∷ []) (range_with_len a n))
different_single a zero = tt
different_single a (suc n) = (not_in (map (λ x. x ∷ []) (range_with_len (a + 1) n)) (later (a + 1) n (omega arith)), different_single (a + 1) n)
  where
    later : (b j : ℕ) → a < b → In (a ∷ []) (map (λ x. x ∷ []) (range_with_len b j)) → ⊥
    later b zero h m = Memᴰ.not-nil m
    later b (suc j) h m = elim (Memᴰ.cases_cons m) [ inl e ↦ let z : a ≡ b = cc in omega arith | inr t ↦ later (b + 1) j (omega arith) t ]

-- no word stands twice among all words of n keys
pub different_of_length : (k n : ℕ) → Different (of_length k n)
unfolding of_length listed
different_of_length k zero = (refl, tt)
different_of_length k (suc n) =
    different_products 1 (single_keys k) (of_length k n) (in_all (λ u. length u ≡ 1) (single_keys k) (λ w m. ap length (of_single k m).2)) (different_single 0 k) (different_of_length k n)
