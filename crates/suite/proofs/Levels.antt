-- The lists that the enumeration hands on, key by key, length by length, and word in front by word in front. Assumes nothing.
use Rattle.std.proofs.Common.{◌≡◌, ℕ, zero, suc, ◌+◌, ◌-◌, ◌<◌, ◌≤◌, List, [], ◌∷◌, ◌++◌, length, get_or, take, sym, refl, ap, ◌∙◌, append_assoc, arith}
use lib.ListN.{length-map}
use Rattle.std.proofs.lemmas.List.FromFn.{map-range_with_len_more}
use Rattle.std.proofs.lemmas.List.{append-nil, map-id, take_more, take_all, take-map}
use Rattle.machine.specs.declared.fixed_list.FixedList.{FixedList}
use Rattle.cover.specs.Words.{word_of, words_of}
use Rattle.machine.specs.Machine.{Word}
use Rattle.machine.specs.Words.{each_behind, products, single_keys, of_length}
use Rattle.suite.specs.Enumeration.{Fed, fresh_behind}
use Rattle.suite.specs.Kept.{kept_behind, kept_from, kept}
use Rattle.suite.proofs.Feeding.{fed_then, fresh_append, fresh_front}
use Rattle.suite.proofs.Places.{word_at}
use Rattle.suite.proofs.TakenApart.{products_append, products_behind}

-- the words of no key, each followed by the ends
pub no_keys : (k n : ℕ) (ws : List Word) → n ≡ 0 → ws ≡ products (of_length k n) ws
unfolding of_length
no_keys k n ws e = rw e (sym (append-nil (each_behind [] ws) ∙ map-id ws))

-- the words of n keys begin with each key in turn
pub first_keys : (k n x : ℕ) (ws : List Word) → (n ≡ 0 → ⊥) → x ≡ k → products (products (single_keys x) (of_length k (n - 1))) ws ≡ products (of_length k n) ws
unfolding of_length
first_keys k zero x ws h e = absurd (h refl)
first_keys k (suc n) x ws h e = let less : suc n - 1 ≡ n = omega arith in rw (e, less)

-- one key more to begin with
pub key_more : (e : ℕ) (ends earlier : List Word) (own j : ℕ) (f : Word) (x : ℕ) (us ws : List Word) → own ≤ length f →
    fresh_behind e ends earlier own j f (products (products (single_keys x) us) ws) ++ fresh_behind e ends earlier own j (f ++ x ∷ []) (products us ws)
    ≡ fresh_behind e ends earlier own j f (products (products (single_keys (x + 1)) us) ws)
key_more e ends earlier own j f x us ws h =
    sym (ap fresh split ∙ fresh_append e ends earlier own j f (products (products (single_keys x) us) ws) (each_behind (x ∷ []) (products us ws)) ∙ ap (λ z. fresh (products (products (single_keys x) us) ws) ++ z) (fresh_front e ends earlier own j f (x ∷ []) (products us ws) h))
  where
    fresh : List Word → List Word
    fresh = fresh_behind e ends earlier own j f

    split : products (products (single_keys (x + 1)) us) ws ≡ products (products (single_keys x) us) ws ++ each_behind (x ∷ []) (products us ws)
    split =
        ap (λ z. products (products z us) ws) (map-range_with_len_more (λ y. y ∷ []) 0 x x (omega arith))
        ∙ ap (λ z. products z ws) (products_append (single_keys x) ((x ∷ []) ∷ []) us ∙ ap (λ z. products (single_keys x) us ++ z) (append-nil (each_behind (x ∷ []) us)))
        ∙ products_append (products (single_keys x) us) (each_behind (x ∷ []) us) ws
        ∙ ap (λ z. products (products (single_keys x) us) ws ++ z) (products_behind (x ∷ []) us ws)

-- one key more between the word in front and the end
between_more : (k e : ℕ) (ws earlier : List Word) (v f : Word) (own j : ℕ) → f ≡ v → length v ≡ own →
    kept_behind k e ws earlier v j ++ fresh_behind e ws earlier own j f (products (of_length k j) ws) ≡ kept_behind k e ws earlier v (j + 1)
unfolding kept_behind fresh_behind
between_more k e ws earlier v f own j same long =
    let one : j + 1 ≡ suc j = omega arith in
    let whole : take own f ≡ v = ap (take own) same ∙ take_all own v (omega arith) in
    rw (one, whole, same)

-- handing on the tests with fewer than j keys between, and then those with j
pub length_more : {S : Type 0} (step : S → Word → S → Type 0) (k e : ℕ) (ws earlier : List Word) (v f : Word) (j : ℕ) (s m t : S) → f ≡ v → Fed step (kept_behind k e ws earlier v j) s m →
    Fed step (fresh_behind e ws earlier (length v) j f (products (of_length k j) ws)) m t → Fed step (kept_behind k e ws earlier v (j + 1)) s t
length_more step k e ws earlier v f j s m t same before these =
    fed_then step (kept_behind k e ws earlier v j) (fresh_behind e ws earlier (length v) j f (products (of_length k j) ws)) (kept_behind k e ws earlier v (j + 1)) s m t
    (between_more k e ws earlier v f (length v) j same refl) before these

-- one word in front more, at the end of a list: its tests come behind those of the others
kept_from_push : (k e : ℕ) (ws earlier vs : List Word) (v : Word) → kept_from k e ws earlier vs ++ kept_behind k e ws (earlier ++ vs) v (suc e) ≡ kept_from k e ws earlier (vs ++ v ∷ [])
unfolding kept_from
kept_from_push k e ws earlier [] v = ap (λ z. kept_behind k e ws z v (suc e)) (append-nil earlier) ∙ sym (append-nil (kept_behind k e ws earlier v (suc e)))
kept_from_push k e ws earlier (u ∷ vs) v =
    append_assoc (kept_behind k e ws earlier u (suc e)) (kept_from k e ws (earlier ++ u ∷ []) vs) (kept_behind k e ws (earlier ++ u ∷ vs) v (suc e))
    ∙ ap (λ z. kept_behind k e ws earlier u (suc e) ++ (kept_from k e ws (earlier ++ u ∷ []) vs ++ kept_behind k e ws z v (suc e))) (sym (append_assoc earlier (u ∷ []) vs))
    ∙ ap (λ z. kept_behind k e ws earlier u (suc e) ++ z) (kept_from_push k e ws (earlier ++ u ∷ []) vs v)

-- one word in front more
pub front_more : {room : ℕ} (k e : ℕ) (ws : List Word) (vs : List (FixedList ℕ room)) (i : ℕ) (x : FixedList ℕ room) → i < length vs → x ≡ get_or vs i x →
    kept k e (take i (words_of vs)) ws ++ kept_behind k e ws (words_of (take i vs)) (word_of x) (suc e) ≡ kept k e (take (i + 1) (words_of vs)) ws
front_more k e ws vs i x l is =
    ap (λ z. kept k e (take i (words_of vs)) ws ++ kept_behind k e ws z (word_of x) (suc e)) (sym (take-map word_of i vs))
    ∙ kept_from_push k e ws [] (take i (words_of vs)) (word_of x)
    ∙ ap (λ z. kept k e z ws) (sym (take_more (words_of vs) i [] (omega (arith, length-map vs word_of)) ∙ ap (λ z. take i (words_of vs) ++ z ∷ []) (word_at vs i x l is)))
