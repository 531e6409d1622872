-- What stands in a list: by its place, among counted numbers, in lists one behind the other, in products, and among all words of so many keys. Assumes nothing.
use Rattle.std.proofs.Common.{◌≡◌, ℕ, zero, suc, ◌+◌, ◌<◌, ◌≤◌, List, [], ◌∷◌, ◌++◌, length, get_or, sym, refl, ap, subst, inl, inr, arith}
use mathlib.Core.List.Memᴰ
use mathlib.Core.List.{Memᴰ}
use Rattle.std.specs.List.{range_with_len, flat_map, ContainsAt as Has, AllByRecursion}
use Rattle.std.proofs.ByRecursion.{all-has, All-from_get_or}
use Rattle.std.proofs.lemmas.Bool.{cases_eq, cases_lt}
use Rattle.machine.specs.Machine.{Word, Keys}
use Rattle.machine.specs.Words.{In, each_behind, products, single_keys, of_length, up_to}

-- a word of a list stands at a place, and what stands at a place is a word of the list
pub in_get_or : (ws : List Word) (i : ℕ) → i < length ws → In (get_or ws i []) ws
in_get_or [] i h = absurd (omega arith)
in_get_or (v ∷ ws) zero h = Memᴰ.head refl
in_get_or (v ∷ ws) (suc i) h = Memᴰ.tail (in_get_or ws i (omega arith))

-- a word of a list stands at a place there
pub in_has : {w : Word} {ws : List Word} → In w ws → Has ws w
in_has (Memᴰ.head e) = (0, omega arith, λ d. sym e)
in_has (Memᴰ.tail m) = let r = in_has m in (suc r.0, (let l = r.1 in omega arith), r.2)

-- and the other way round
pub has_in : {w : Word} (ws : List Word) → Has ws w → In w ws
has_in ws h = Memᴰ.cast (sym (h.2 [])) (in_get_or ws h.0 h.1)

-- what holds of each holds of one that stands there, and the other way round
pub all_in : (P : Word → Type 0) {w : Word} (ws : List Word) → AllByRecursion P ws → In w ws → P w
all_in P {w} ws a m = all-has P ws w a (in_has m)

-- what holds of every word that stands there holds of each
pub in_all : (P : Word → Type 0) (ws : List Word) → ((w : Word) → In w ws → P w) → AllByRecursion P ws
in_all P ws h = All-from_get_or P ws [] (λ i l. h (get_or ws i []) (in_get_or ws i l))

-- a number from a on, below a + n, is one of the n numbers counted from a
pub in_counting : (a n x : ℕ) → a ≤ x → x < a + n → Memᴰ x (range_with_len a n)
in_counting a zero x low high = absurd (omega arith)
in_counting a (suc n) x low high = elim (cases_eq x a) [ inl e ↦ Memᴰ.head e | inr d ↦ Memᴰ.tail (in_counting (a + 1) n x (omega arith) (omega arith)) ]

-- and the other way round
pub of_counting : (a n : ℕ) {x : ℕ} → Memᴰ x (range_with_len a n) → (a ≤ x) × (x < a + n)
of_counting a zero m = absurd (Memᴰ.not-nil m)
of_counting a (suc n) m =
    elim (Memᴰ.cases_cons m) [
      | inl e ↦ (omega arith, omega arith)
      | inr t ↦ let r = of_counting (a + 1) n t in let l = r.0 in let g = r.1 in (omega arith, omega arith)
    ]

-- lists of words one behind the other
module _ {X : Type 0} (f : X → List Word) where
  -- a word of the list of one thing is a word of the lists of all, one behind the other
  pub in_joined : {x : X} {w : Word} {xs : List X} → Memᴰ x xs → In w (f x) → In w (flat_map f xs)
  in_joined {w = w} (Memᴰ.head {xs = xs} e) g = Memᴰ.append_left (flat_map f xs) (subst (λ z. In w (f z)) e g)
  in_joined (Memᴰ.tail {x = y} m) g = Memᴰ.append_right (f y) (in_joined m g)

  -- and the other way round
  pub of_joined : {w : Word} (xs : List X) → In w (flat_map f xs) → (x : X) × Memᴰ x xs × In w (f x)
  of_joined [] m = absurd (Memᴰ.not-nil m)
  of_joined (x ∷ xs) m =
      elim (Memᴰ.append_cases (f x) m) [
        | inl a ↦ (x, Memᴰ.head refl, a)
        | inr b ↦ let r = of_joined xs b in (r.0, Memᴰ.tail r.1, r.2)
      ]

-- a word of the first with a word of the second behind it is a word of the product
pub in_products : {v w : Word} {vs ws : List Word} → In v vs → In w ws → In (v ++ w) (products vs ws)
in_products {v} {ws = ws} a b = in_joined (λ u. each_behind u ws) a (Memᴰ.map (λ z. v ++ z) b)

-- the two words of which a word of a product is made
pub record Parts (vs ws : List Word) (c : Word) : Type 0 where
  pub front : Word
  pub behind : Word
  pub front_in : In front vs
  pub behind_in : In behind ws
  pub whole : c ≡ front ++ behind

-- every word of a product is made of two such words
pub of_products : {c : Word} (vs ws : List Word) → In c (products vs ws) → Parts vs ws c
of_products vs ws m =
    let r = of_joined (λ u. each_behind u ws) vs m in
    let q = Memᴰ.of_map (λ z. r.0 ++ z) ws r.2 in
    record { front = r.0; behind = q.0; front_in = r.1; behind_in = q.1; whole = sym q.2 }

-- the word of a key that is there is one of the words of one key
pub in_single : (k x : ℕ) → x < k → In (x ∷ []) (single_keys k)
in_single k x h = Memᴰ.map (λ y. y ∷ []) (in_counting 0 k x (omega arith) (omega arith))

-- and the other way round
pub of_single : {w : Word} (k : ℕ) → In w (single_keys k) → (x : ℕ) × (x < k) × (w ≡ x ∷ [])
of_single k m = let r = Memᴰ.of_map (λ (x : ℕ). x ∷ []) (range_with_len 0 k) m in (r.0, (let h = (of_counting 0 k r.1).1 in omega arith), sym r.2)

-- the words of n keys: just those, and each of them
in_of_length : (k n : ℕ) (u : Word) → Keys k u → length u ≡ n → In u (of_length k n)
unfolding of_length
in_of_length k zero [] h e = Memᴰ.head refl
in_of_length k zero (x ∷ u) h e = absurd (omega arith)
in_of_length k (suc n) [] h e = absurd (omega arith)
in_of_length k (suc n) (x ∷ u) h e = in_products (in_single k x h.0) (in_of_length k n u h.1 (omega arith))

-- what stands there has n keys, and they are keys that are there
pub of_of_length : (k n : ℕ) {u : Word} → In u (of_length k n) → Keys k u × (length u ≡ n)
unfolding of_length
of_of_length k zero m = rw (Memᴰ.eq_of_singleton m) (tt, refl)
of_of_length k (suc n) m =
    let r = of_products (single_keys k) (of_length k n) m in
    let s = of_single k r.front_in in
    let t = of_of_length k n r.behind_in in
    rw (r.whole, s.2) ((s.1, t.0), ap suc t.1)

-- the words of at most n keys: just those, and each of them
pub in_up_to : (k n : ℕ) (u : Word) → Keys k u → length u ≤ n → In u (up_to k n)
unfolding up_to of_length
in_up_to k zero u h l = in_of_length k 0 u h (omega arith)
in_up_to k (suc n) u h l =
    elim (cases_lt n (length u)) [
      | inl g ↦ Memᴰ.append_right (up_to k n) (in_of_length k (suc n) u h (omega arith))
      | inr s ↦ Memᴰ.append_left (of_length k (suc n)) (in_up_to k n u h s)
    ]

-- what stands there has at most n keys, and they are keys that are there
pub of_up_to : {u : Word} (k n : ℕ) → In u (up_to k n) → Keys k u × (length u ≤ n)
unfolding up_to
of_up_to k zero m = rw (Memᴰ.eq_of_singleton m) (tt, omega arith)
of_up_to k (suc n) m =
    elim (Memᴰ.append_cases (up_to k n) m) [
      | inl a ↦ let r = of_up_to k n a in (r.0, let l = r.1 in omega arith)
      | inr b ↦ let r = of_of_length k (suc n) b in (r.0, let l = r.1 in omega arith)
    ]
