-- Which words stand in products, among all words of at most so many keys, in a list that has each word once, and in a suite. Assumes nothing.
use Rattle.std.proofs.Common.{◌≡◌, ℕ, zero, suc, ◌+◌, ◌<◌, ◌≤◌, true, false, cond, eqb, ◌⊎◌, List, [], ◌∷◌, ◌++◌, length, get_or, sym, refl, ap, subst, inl, inr, append_assoc, arith}
use mathlib.Core.List.Memᴰ
use mathlib.Core.List.{Memᴰ}
use Rattle.std.specs.List.{range_with_len, ContainsAt as Has, AllByRecursion}
use Rattle.std.proofs.ByRecursion.{All-append}
use Rattle.std.proofs.lemmas.List.{append-nil}
use Rattle.std.proofs.lemmas.Bool.{cases_Bool, cases_lt, and_parts, and_from, or_cases, or_left, or_right, eq-eqb, eqb-true, false≢true}
use Rattle.machine.specs.Machine.{Word, Keys}
pub use Rattle.machine.specs.Words.{In}
use Rattle.machine.specs.Words.{each_behind, products, single_keys, of_length, up_to, same, listed, once_from, once}
use Rattle.suite.specs.Suite.{with_key, candidates, suite}

-- what stands in a list is contained at a place of it
pub in_has : {w : Word} (ws : List Word) → In w ws → Has ws w
in_has [] m = absurd (Memᴰ.not-nil m)
in_has {w} (v ∷ ws) m =
    elim (Memᴰ.cases_cons m) [
      | inl e ↦ (0, omega arith, λ d. sym e)
      | inr t ↦ let h = in_has ws t in (suc h.0, (let l = h.1 in omega arith), h.2)
    ]

-- and the other way round
pub has_in : {w : Word} (ws : List Word) → Has ws w → In w ws
has_in [] h = absurd (let l = h.1 in omega arith)
has_in {w} (v ∷ ws) h = go h.0 h.1 h.2 (λ k l a. has_in ws (k, l, a))
  where
    go : (k : ℕ) → k < length (v ∷ ws) → ((d : Word) → get_or (v ∷ ws) k d ≡ w) → ((j : ℕ) → j < length ws → ((d : Word) → get_or ws j d ≡ w) → In w ws) → In w (v ∷ ws)
    go zero l a below = Memᴰ.head (sym (a []))
    go (suc k) l a below = Memᴰ.tail (below k (omega arith) a)

-- what stands at a place
pub in_get_or : (ws : List Word) (i : ℕ) → i < length ws → In (get_or ws i []) ws
in_get_or [] i h = absurd (omega arith)
in_get_or (v ∷ ws) zero h = Memᴰ.head refl
in_get_or (v ∷ ws) (suc i) h = Memᴰ.tail (in_get_or ws i (omega arith))

-- what holds of each word of a list holds of one that stands there
pub all_in : (P : Word → Type 0) {w : Word} (ws : List Word) → AllByRecursion P ws → In w ws → P w
all_in P [] a m = absurd (Memᴰ.not-nil m)
all_in P (v ∷ ws) a m = elim (Memᴰ.cases_cons m) [ inl e ↦ subst P (sym e) a.0 | inr t ↦ all_in P ws a.1 t ]

-- if it holds of each word that stands in a list, it holds of all of them
pub in_all : (P : Word → Type 0) (ws : List Word) → ((w : Word) → In w ws → P w) → AllByRecursion P ws
in_all P [] h = tt
in_all P (v ∷ ws) h = (h v (Memᴰ.head refl), in_all P ws (λ w m. h w (Memᴰ.tail m)))

-- a word of one list and a word of another behind it make a word of their product
pub in_products : {v w : Word} {vs ws : List Word} → In v vs → In w ws → In (v ++ w) (products vs ws)
in_products {v} {w} {ws = ws} (Memᴰ.head {x = x} {xs = xs} e) b =
    Memᴰ.append_left (products xs ws) (Memᴰ.cast (ap (λ z. z ++ w) e) (Memᴰ.map (λ z. x ++ z) b))
in_products {ws = ws} (Memᴰ.tail {x = x} a) b = Memᴰ.append_right (each_behind x ws) (in_products a b)

-- the two words of which a word of a product is made
pub record Parts (vs ws : List Word) (c : Word) : Type 0 where
  pub front : Word
  pub behind : Word
  pub front_in : In front vs
  pub behind_in : In behind ws
  pub whole : c ≡ front ++ behind

-- and every word of a product is made so
pub of_products : {c : Word} (vs ws : List Word) → In c (products vs ws) → Parts vs ws c
of_products [] ws m = absurd (Memᴰ.not-nil m)
of_products {c} (v ∷ vs) ws m =
    elim (Memᴰ.append_cases (each_behind v ws) m) [
      | inl a ↦ let r = Memᴰ.of_map (λ z. v ++ z) ws a in record { front = v; behind = r.0; front_in = Memᴰ.head refl; behind_in = r.1; whole = sym r.2 }
      | inr b ↦ let r = of_products vs ws b in record { front = r.front; behind = r.behind; front_in = Memᴰ.tail r.front_in; behind_in = r.behind_in; whole = r.whole }
    ]

-- a number from a on, and below a + n, stands among the n numbers from a on
in_counting : (a n x : ℕ) → a ≤ x → x < a + n → Memᴰ x (range_with_len a n)
in_counting a zero x low high = absurd (omega arith)
in_counting a (suc n) x low high = elim (cases_lt a x) [ inl l ↦ Memᴰ.tail (in_counting (a + 1) n x (omega arith) (omega arith)) | inr g ↦ Memᴰ.head (omega arith) ]

-- and what stands among them is below a + n
of_counting : {x : ℕ} (a n : ℕ) → Memᴰ x (range_with_len a n) → x < a + n
of_counting a zero m = absurd (Memᴰ.not-nil m)
of_counting a (suc n) m = elim (Memᴰ.cases_cons m) [ inl e ↦ omega arith | inr t ↦ let h = of_counting (a + 1) n t in omega arith ]

-- each key makes a word of one key
pub in_single : (k x : ℕ) → x < k → In (x ∷ []) (single_keys k)
in_single k x h = Memᴰ.map (λ y. y ∷ []) (in_counting 0 k x (omega arith) (omega arith))

-- and every word of one key is made so
pub of_single : {w : Word} (k : ℕ) → In w (single_keys k) → (x : ℕ) × (x < k) × (w ≡ x ∷ [])
of_single k m = let r = Memᴰ.of_map (λ (x : ℕ). x ∷ []) (range_with_len 0 k) m in (r.0, (let h = of_counting 0 k r.1 in omega arith), sym r.2)

-- a word of keys is among all words that have as many keys as it has
pub in_of_length : (k : ℕ) (u : Word) → Keys k u → In u (of_length k (length u))
unfolding of_length
in_of_length k [] h = Memᴰ.head refl
in_of_length k (x ∷ u) h = in_products (in_single k x h.0) (in_of_length k u h.1)

-- and what is among all words of n keys is a word of n keys
pub of_of_length : (k n : ℕ) {u : Word} → In u (of_length k n) → Keys k u × (length u ≡ n)
unfolding of_length
of_of_length k zero m = let e = Memᴰ.eq_of_singleton m in rw e (tt, refl)
of_of_length k (suc n) {u} m = made (of_single k r.front_in) (of_of_length k n r.behind_in)
  where
    r : Parts (single_keys k) (of_length k n) u
    r = of_products (single_keys k) (of_length k n) m

    made : ((x : ℕ) × (x < k) × (r.front ≡ x ∷ [])) → Keys k r.behind × (length r.behind ≡ n) → Keys k u × (length u ≡ suc n)
    made s t = rw (r.whole, s.2) ((s.1, t.0), ap suc t.1)

-- a word of keys is among all words of at most so many keys exactly if it is no longer
pub in_up_to : (k n : ℕ) (u : Word) → Keys k u → length u ≤ n → In u (up_to k n)
unfolding up_to of_length
in_up_to k zero [] h l = Memᴰ.head refl
in_up_to k zero (x ∷ u) h l = absurd (omega arith)
in_up_to k (suc n) u h l =
    elim (cases_lt n (length u)) [
      | inl g ↦ let e : length u ≡ suc n = omega arith in Memᴰ.append_right (up_to k n) (subst (λ z. In u (of_length k z)) e (in_of_length k u h))
      | inr s ↦ Memᴰ.append_left (of_length k (suc n)) (in_up_to k n u h s)
    ]

-- and what is among all words of at most n keys is a word of at most n keys
pub of_up_to : {u : Word} (k n : ℕ) → In u (up_to k n) → Keys k u × (length u ≤ n)
unfolding up_to
of_up_to k zero m = let e = Memᴰ.eq_of_singleton m in rw e (tt, omega arith)
of_up_to k (suc n) m =
    elim (Memᴰ.append_cases (up_to k n) m) [
      | inl a ↦ let r = of_up_to k n a in (r.0, let l = r.1 in omega arith)
      | inr b ↦ let r = of_of_length k (suc n) b in (r.0, let l = r.1 in omega arith)
    ]

-- a word is the same as itself
same_reflexive : (u : Word) → same u u ≡ true
unfolding same
same_reflexive [] = refl
same_reflexive (x ∷ u) = and_from (eqb x x) (same u u) (eq-eqb x x refl) (same_reflexive u)

-- words that are found to be the same are equal
pub same_true : (u v : Word) → same u v ≡ true → u ≡ v
unfolding same
same_true [] [] h = refl
same_true [] (y ∷ v) h = absurd (false≢true h)
same_true (x ∷ u) [] h = absurd (false≢true h)
same_true (x ∷ u) (y ∷ v) h = let p = and_parts (eqb x y) (same u v) h in let e = eqb-true x y p.0 in let r = same_true u v p.1 in cc

-- and equal words are found to be the same
pub eq_same : (u v : Word) → u ≡ v → same u v ≡ true
eq_same u v e = rw e (same_reflexive v)

-- a word that is listed stands in the list
pub listed_in : {w : Word} (ws : List Word) → listed w ws ≡ true → In w ws
unfolding listed
listed_in [] h = absurd (false≢true h)
listed_in {w} (v ∷ ws) h = elim (or_cases (same w v) (listed w ws) h) [ inl a ↦ Memᴰ.head (same_true w v a) | inr b ↦ Memᴰ.tail (listed_in ws b) ]

-- and the other way round
pub in_listed : {w : Word} (ws : List Word) → In w ws → listed w ws ≡ true
unfolding listed
in_listed [] m = absurd (Memᴰ.not-nil m)
in_listed {w} (v ∷ ws) m = elim (Memᴰ.cases_cons m) [ inl e ↦ or_left (same w v) (listed w ws) (eq_same w v e) | inr t ↦ or_right (same w v) (listed w ws) (in_listed ws t) ]

-- a word of a list was seen before, or it is kept
pub in_once_from : {w : Word} (seen ws : List Word) → In w ws → In w seen ⊎ In w (once_from seen ws)
unfolding once_from
in_once_from seen [] m = absurd (Memᴰ.not-nil m)
in_once_from {w} seen (v ∷ ws) m = go (cases_Bool (listed v seen)) (Memᴰ.cases_cons m) (in_once_from seen ws) (in_once_from (v ∷ seen) ws)
  where
    Goal : List Word → Type 0
    Goal ts = In w seen ⊎ In w ts

    old : In w (v ∷ seen) ⊎ In w (once_from (v ∷ seen) ws) → Goal (v ∷ once_from (v ∷ seen) ws)
    old (inl s) = elim (Memᴰ.cases_cons s) [ inl e ↦ inr (Memᴰ.head e) | inr t ↦ inl t ]
    old (inr r) = inr (Memᴰ.tail r)

    go : (listed v seen ≡ true) ⊎ (listed v seen ≡ false) → (w ≡ v) ⊎ In w ws → (In w ws → In w seen ⊎ In w (once_from seen ws)) →
        (In w ws → In w (v ∷ seen) ⊎ In w (once_from (v ∷ seen) ws)) → Goal (cond (listed v seen) (once_from seen ws) (v ∷ once_from (v ∷ seen) ws))
    go (inl y) (inl e) below new = inl (Memᴰ.cast e (listed_in seen y))
    go (inl y) (inr t) below new = rw y (below t)
    go (inr n) (inl e) below new = rw n (inr (Memᴰ.head e))
    go (inr n) (inr t) below new = rw n (old (new t))

-- what is kept once stood in the list
pub of_once_from : {w : Word} (seen ws : List Word) → In w (once_from seen ws) → In w ws
unfolding once_from
of_once_from seen [] m = m
of_once_from {w} seen (v ∷ ws) m = go (cases_Bool (listed v seen)) m (of_once_from seen ws) (of_once_from (v ∷ seen) ws)
  where
    go : (listed v seen ≡ true) ⊎ (listed v seen ≡ false) → In w (cond (listed v seen) (once_from seen ws) (v ∷ once_from (v ∷ seen) ws)) →
        (In w (once_from seen ws) → In w ws) → (In w (once_from (v ∷ seen) ws) → In w ws) → In w (v ∷ ws)
    go (inl y) m below new = Memᴰ.tail (below (rw y at m))
    go (inr n) m below new = elim (Memᴰ.cases_cons (rw n at m)) [ inl e ↦ Memᴰ.head e | inr t ↦ Memᴰ.tail (new t) ]

-- every word of a list is kept
pub in_once : {w : Word} (ws : List Word) → In w ws → In w (once ws)
in_once ws m = elim (in_once_from [] ws m) [ inl a ↦ absurd (Memᴰ.not-nil a) | inr b ↦ b ]

-- and no other word is
pub of_once : {w : Word} (ws : List Word) → In w (once ws) → In w ws
of_once ws m = of_once_from [] ws m

-- a test: a word that reaches, at most e + 1 keys, and a word that tells apart
pub in_suite : (k e : ℕ) {q w : Word} (u : Word) {qs ws : List Word} → In q qs → Keys k u → length u ≤ suc e → In w ws → In (q ++ (u ++ w)) (suite k e qs ws)
unfolding suite candidates
in_suite k e {q} {w} [] {qs} {ws} a h l b =
    in_once _ (Memᴰ.cast (sym (ap (λ z. z ++ w) (append-nil q))) (in_products (in_products (Memᴰ.append_left (products qs (single_keys k)) a) (in_up_to k e [] h (omega arith))) b))
in_suite k e {q} {w} (x ∷ u) {qs} {ws} a h l b =
    in_once _ (Memᴰ.cast (sym (whole)) (in_products (in_products (Memᴰ.append_right qs (in_products a (in_single k x h.0))) (in_up_to k e u h.1 (omega arith))) b))
  where
    whole : ((q ++ x ∷ []) ++ u) ++ w ≡ q ++ (x ∷ (u ++ w))
    whole = simp append_assoc

-- words of keys with a word of keys in front are words of keys
pub behind_keys : (k : ℕ) (v : Word) (ws : List Word) → Keys k v → AllByRecursion (Keys k) ws → AllByRecursion (Keys k) (each_behind v ws)
behind_keys k v [] h a = tt
behind_keys k v (w ∷ ws) h a = (All-append (λ x. x < k) v w h a.0, behind_keys k v ws h a.1)

-- so are words of keys with words of keys behind them
pub products_keys : (k : ℕ) (vs ws : List Word) → AllByRecursion (Keys k) vs → AllByRecursion (Keys k) ws → AllByRecursion (Keys k) (products vs ws)
products_keys k [] ws a b = tt
products_keys k (v ∷ vs) ws a b = All-append (Keys k) (each_behind v ws) (products vs ws) (behind_keys k v ws a.0 b) (products_keys k vs ws a.1 b)

-- so are all words of n keys
pub of_length_keys : (k n : ℕ) → AllByRecursion (Keys k) (of_length k n)
of_length_keys k n = in_all (Keys k) (of_length k n) (λ w m. (of_of_length k n m).0)

-- so are all words of at most n keys
pub up_to_keys : (k n : ℕ) → AllByRecursion (Keys k) (up_to k n)
up_to_keys k n = in_all (Keys k) (up_to k n) (λ w m. (of_up_to k n m).0)

-- so are words of keys, and each of them followed by one key
pub with_key_keys : (k : ℕ) (qs : List Word) → AllByRecursion (Keys k) qs → AllByRecursion (Keys k) (with_key k qs)
with_key_keys k qs a =
    All-append (Keys k) qs (products qs (single_keys k)) a
    (products_keys k qs (single_keys k) a (in_all (Keys k) (single_keys k) (λ w m. let r = of_single k m in subst (Keys k) (sym r.2) (r.1, tt))))

-- every test is a word of keys, if the words of the two lists are
pub suite_keys : (k e : ℕ) (qs ws : List Word) → AllByRecursion (Keys k) qs → AllByRecursion (Keys k) ws → AllByRecursion (Keys k) (suite k e qs ws)
unfolding suite candidates
suite_keys k e qs ws a b =
    let c = products_keys k (products (with_key k qs) (up_to k e)) ws (products_keys k (with_key k qs) (up_to k e) (with_key_keys k qs a) (up_to_keys k e)) b in
    in_all (Keys k) (once (products (products (with_key k qs) (up_to k e)) ws)) (λ w m. all_in (Keys k) (products (products (with_key k qs) (up_to k e)) ws) c (of_once (products (products (with_key k qs) (up_to k e)) ws) m))
