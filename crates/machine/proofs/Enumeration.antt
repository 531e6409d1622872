-- The words of at most so many keys stand in order in their enumeration, each of them, so the first there that passes a test is the first of all words. Assumes nothing.
use Rattle.std.proofs.Common.{◌≡◌, ℕ, zero, suc, ◌+◌, ◌≤◌, Bool, true, cond, ◌⊎◌, List, [], ◌∷◌, ◌++◌, map, length, sym, refl, ap, ◌∙◌, subst, inl, inr, arith}
use mathlib.Core.List.Memᴰ
use Rattle.std.specs.List.{range_with_len, AllByRecursion}
use Rattle.std.proofs.lemmas.Bool.{cases_Bool, cond-true, cond-false, cond_both, both_ways}
use Rattle.machine.specs.Machine.{Word, Keys}
use Rattle.machine.specs.Words.{Before, FirstWord, In, Different, each_behind, products, of_length, up_to}
use Rattle.machine.proofs.Members.{of_counting, of_products, of_of_length, in_up_to, of_up_to}
use Rattle.machine.proofs.Order.{before_longer, before_front, before_irreflexive, before_transitive, first_word_unique}

-- words in order
abbrev Rising : List Word → Type 0
Rising [] = Unit {0}
Rising (w ∷ ws) = ((v : Word) → In v ws → Before w v) × Rising ws

-- one list behind another, if every word of the first comes before every word of the second
rising_append : (us vs : List Word) → Rising us → Rising vs → ((u v : Word) → In u us → In v vs → Before u v) → Rising (us ++ vs)
rising_append [] vs a b across = b
rising_append (u ∷ us) vs a b across = (
  λ v h. elim (Memᴰ.append_cases us h) [ inl l ↦ a.0 v l | inr r ↦ across u v (Memᴰ.head refl) r ],
  rising_append us vs a.1 b (λ p q h g. across p q (Memᴰ.tail h) g),
)

-- with a key in front of each
behind_rising : (x : ℕ) (ws : List Word) → Rising ws → Rising (each_behind (x ∷ []) ws)
behind_rising x [] r = tt
behind_rising x (w ∷ ws) r =
    (λ v h. let m = Memᴰ.of_map (λ u. x ∷ u) ws h in subst (Before (x ∷ w)) m.2 (before_front x w m.0 (r.0 m.0 m.1)), behind_rising x ws r.1)

-- with each of c keys from a on in front of each, if they are of one length
fronted_rising : (a c n : ℕ) (ws : List Word) → ((u : Word) → In u ws → length u ≡ n) → Rising ws → Rising (products (map (λ x. x ∷ []) (range_with_len a c)) ws)
fronted_rising a zero n ws long r = tt
fronted_rising a (suc c) n ws long r =
    rising_append (each_behind (a ∷ []) ws) (products (map (λ x. x ∷ []) (range_with_len (a + 1) c)) ws) (behind_rising a ws r) (fronted_rising (a + 1) c n ws long r) across
  where
    across : (u v : Word) → In u (each_behind (a ∷ []) ws) → In v (products (map (λ x. x ∷ []) (range_with_len (a + 1) c)) ws) → Before u v
    across u v h g =
        let p = Memᴰ.of_map (λ z. a ∷ z) ws h in
        let q = of_products (map (λ x. x ∷ []) (range_with_len (a + 1) c)) ws g in
        let x = Memᴰ.of_map (λ (y : ℕ). y ∷ []) (range_with_len (a + 1) c) q.front_in in
        let l = (of_counting (a + 1) c x.1).0 in
        rw (← p.2, q.whole, ← x.2) (inr (ap suc (long p.0 p.1 ∙ sym (long q.behind q.behind_in)), inl (omega arith)))

-- the words of n keys stand in order
of_length_rising : (k n : ℕ) → Rising (of_length k n)
unfolding of_length
of_length_rising k zero = (λ v h. absurd (Memᴰ.not-nil h), tt)
of_length_rising k (suc n) = fronted_rising 0 k n (of_length k n) (λ u h. (of_of_length k n h).1) (of_length_rising k n)

-- the words of at most n keys stand in order
up_to_rising : (k n : ℕ) → Rising (up_to k n)
unfolding up_to
up_to_rising k zero = (λ v h. absurd (Memᴰ.not-nil h), tt)
up_to_rising k (suc n) =
    rising_append (up_to k n) (of_length k (suc n)) (up_to_rising k n) (of_length_rising k (suc n))
    (λ u v h g. inl (let a = (of_up_to k n h).1 in let b = (of_of_length k (suc n) g).1 in omega arith))

-- so none stands twice
rising_different : (ws : List Word) → Rising ws → Different ws
rising_different [] r = tt
rising_different (w ∷ ws) r = (λ m. before_irreflexive w (r.0 w m), rising_different ws r.1)

-- none of the words of n keys stands twice
pub different_of_length : (k n : ℕ) → Different (of_length k n)
different_of_length k n = rising_different (of_length k n) (of_length_rising k n)

-- the first of some words that passes a test, or the empty word
unfoldable pub first_in : (Word → Bool) → List Word → Word
first_in p [] = []
first_in p (w ∷ ws) = cond (p w) w (first_in p ws)

-- what holds of each of them, and of the empty word
pub first_in_all : (P : Word → Type 0) (p : Word → Bool) (ws : List Word) → P [] → AllByRecursion P ws → P (first_in p ws)
unfolding first_in
first_in_all P p [] e h = e
first_in_all P p (w ∷ ws) e h = cond_both (p w) w (first_in p ws) P (λ _. h.0) (λ _. first_in_all P p ws e h.1)

-- if one passes, that is one of them, it passes, and none before it does
pub record FoundIn (p : Word → Bool) (ws : List Word) (w : Word) : Type 0 where
  member : In w ws
  pub passes : p w ≡ true
  pub none : (v : Word) → In v ws → p v ≡ true → (v ≡ w) ⊎ Before w v

-- among words in order the first that passes is found, if one of them passes
first_in_found : (p : Word → Bool) (ws : List Word) (v : Word) → Rising ws → In v ws → p v ≡ true → FoundIn p ws (first_in p ws)
unfolding first_in
first_in_found p [] v r h passes = absurd (Memᴰ.not-nil h)
first_in_found p (w ∷ ws) v r h passes =
    elim (cases_Bool (p w)) [
      | inl y ↦ rw (cond-true (p w) w (first_in p ws) y) (record {
        member = Memᴰ.head refl;
        passes = y;
        none = λ u g q. elim (Memᴰ.cases_cons g) [ inl e ↦ inl e | inr t ↦ inr (r.0 u t) ];
      })
      | inr n ↦
          let later : (u : Word) → In u (w ∷ ws) → p u ≡ true → In u ws =
          λ u g q. elim (Memᴰ.cases_cons g) [ inl e ↦ absurd (both_ways (p w) n (sym (ap p e) ∙ q)) | inr t ↦ t ] in
          let f = first_in_found p ws v r.1 (later v h passes) passes in
          rw (cond-false (p w) w (first_in p ws) n) (record { member = Memᴰ.tail f.member; passes = f.passes; none = λ u g q. f.none u (later u g q) q })
    ]

-- among the words of at most n keys the first that passes a test is the first of all words of which it holds, if some word of at most n keys passes
module _ (k n : ℕ) (p : Word → Bool) (P : Word → Type 0) (right : (w : Word) → p w ≡ true → P w) (complete : (w : Word) → Keys k w → P w → p w ≡ true) where
  -- the word that is found is the first of all words, if there is one of at most n keys
  pub first_in_up_to : (v : Word) → Keys k v → length v ≤ n → P v → FirstWord k P (first_in p (up_to k n))
  first_in_up_to v keys short holds =
      let f = first_in_found p (up_to k n) v (up_to_rising k n) (in_up_to k n v keys short) (complete v keys holds) in
      let w : Word = first_in p (up_to k n) in
      let inside = of_up_to k n f.member in
      record {
        keys = inside.0;
        holds = right w f.passes;
        earliest = λ u uk b uh.
            let s : length u ≤ n = let l = before_longer u w b in let i = inside.1 in omega arith in
            elim (f.none u (in_up_to k n u uk s) (complete u uk uh)) [
              | inl e ↦ before_irreflexive w (rw e at b)
              | inr g ↦ before_irreflexive w (before_transitive w u w g b)
            ];
      }

  -- and so the first word of all, if it has at most n keys
  pub first_in_is : (w : Word) → FirstWord k P w → length w ≤ n → first_in p (up_to k n) ≡ w
  first_in_is w f short = first_word_unique k P (first_in p (up_to k n)) w (first_in_up_to w f.keys short f.holds) f
