-- A breadth first search by words, one key at a time, finds the first words in order. Assumes nothing.
use Rattle.std.proofs.Common.{◌≡◌, ℕ, zero, suc, ◌+◌, ◌<◌, ◌≤◌, ◌⊎◌, List, [], ◌∷◌, ◌++◌, length, sym, refl, ap, ◌∙◌, inl, inr, append_assoc, append-nil, arith, length-append}
use Rattle.std.proofs.ByRecursion.{All-push}
use Rattle.std.proofs.lemmas.List.{get_or_append_left, get_or_push, length_push}
use Rattle.std.proofs.lemmas.Bool.{cases_lt, cases_order}
use Rattle.machine.specs.Machine.{Word, Keys}
use Rattle.machine.specs.Words.{Before}
use Rattle.machine.proofs.Order.{before_key, before_last, before_transitive, before_irreflexive}
use Rattle.machine.proofs.Pigeonhole.{pigeonhole}
use Rattle.minimal.specs.Search.{word_at, Searched}

-- u is v, or comes before it
abbrev pub NotAfter : Word → Word → Type 0
NotAfter u v = (u ≡ v) ⊎ Before u v

-- key y behind word j was tried: the keys of the words before i, and the first x keys of word i
abbrev Tried : ℕ → ℕ → ℕ → ℕ → Type 0
Tried i x j y = (j < i) ⊎ ((j ≡ i) × (y < x))

-- with one key more tried: a key that was tried before, or that one
cases_tried : (i x j y : ℕ) → Tried i (x + 1) j y → Tried i x j y ⊎ ((j ≡ i) × (y ≡ x))
cases_tried i x j y (inl c) = inl (inl c)
cases_tried i x j y (inr c) = let d = c.1 in elim (cases_lt y x) [ inl l ↦ inl (inr (c.0, l)) | inr g ↦ inr (c.0, omega arith) ]

-- the search has come to key x of word i
pub record Searching (k : ℕ) (f : Word → ℕ) (ws : List Word) (i x : ℕ) : Type 0 where
  pub some : 0 < length ws
  pub start : word_at ws 0 ≡ []
  pub keys : (j : ℕ) → j < length ws → Keys k (word_at ws j)
  pub increasing : (h j : ℕ) → h < j → j < length ws → Before (word_at ws h) (word_at ws j)
  pub different : (h j : ℕ) → h < j → j < length ws → f (word_at ws h) ≡ f (word_at ws j) → ⊥
  pub grown : (j : ℕ) → 0 < j → j < length ws → (h : ℕ) × (y : ℕ) × (h < j) × (y < k) × (word_at ws j ≡ word_at ws h ++ y ∷ []) × Tried i x h y
  pub tried :
      (j y : ℕ) → j < length ws → y < k → Tried i x j y →
      (l : ℕ) × (l < length ws) × (f (word_at ws l) ≡ f (word_at ws j ++ y ∷ [])) × NotAfter (word_at ws l) (word_at ws j ++ y ∷ [])

module _ (k : ℕ) (f : Word → ℕ) where
  -- at the beginning only the empty word is found
  pub search_begins : Searching k f ([] ∷ []) 0 0
  search_begins = record {
    some = omega arith;
    start = refl;
    keys = λ j l. only j l;
    increasing = λ h j a b. absurd (omega arith);
    different = λ h j a b e. omega arith;
    grown = λ j a b. absurd (omega arith);
    tried = λ j y a b t. elim t [ inl c ↦ absurd (omega arith) | inr c ↦ absurd (let d = c.1 in omega arith) ];
  }
    where
      only : (j : ℕ) → j < 1 → Keys k (word_at ([] ∷ []) j)
      only zero l = tt
      only (suc j) l = absurd (omega arith)

  module _ (ws : List Word) (i x : ℕ) (at : Searching k f ws i x) where
    -- the next word comes after all that were found
    next_after : i < length ws → (j : ℕ) → j < length ws → Before (word_at ws j) (word_at ws i ++ x ∷ [])
    next_after hi zero l = inl (rw at.start (omega (arith, length-append (word_at ws i) (x ∷ []))))
    next_after hi (suc j) l =
        let g = at.grown (suc j) (omega arith) l in
        rw g.4 (elim g.5 [
          | inl b ↦ before_key _ _ g.1 x (at.increasing g.0 i b hi)
          | inr b ↦ rw b.0 (before_last (word_at ws i) g.1 x b.1)
        ])

    -- its value was found before
    pub key_known : i < length ws → (l : ℕ) → l < length ws → f (word_at ws l) ≡ f (word_at ws i ++ x ∷ []) → Searching k f ws i (x + 1)
    key_known hi l inside e = record {
      some = at.some;
      start = at.start;
      keys = at.keys;
      increasing = at.increasing;
      different = at.different;
      grown = λ j a b. let g = at.grown j a b in (g.0, g.1, g.2, g.3, g.4, elim g.5 [ inl c ↦ inl c | inr c ↦ inr (c.0, (let d = c.1 in omega arith)) ]);
      tried = λ j y a b t. elim (cases_tried i x j y t) [
        | inl c ↦ at.tried j y a b c
        | inr c ↦ rw (c.0, c.1) (l, inside, e, inr (next_after hi l inside))
      ];
    }

    -- its value is new
    pub key_new :
        i < length ws → x < k → ((l : ℕ) → l < length ws → f (word_at ws l) ≡ f (word_at ws i ++ x ∷ []) → ⊥) →
        Searching k f (ws ++ (word_at ws i ++ x ∷ []) ∷ []) i (x + 1)
    key_new hi hx fresh = record {
      some = omega (arith, long);
      start = old 0 at.some ∙ at.start;
      keys = λ j l. elim (old_or_new j l) [ inl b ↦ rw (old j b) (at.keys j b) | inr e ↦ rw (e, new) (All-push (λ y. y < k) (word_at ws i) x (at.keys i hi) hx) ];
      increasing = λ h j a b. elim (old_or_new j b) [
        | inl c ↦ let d : h < length ws = omega arith in rw (old j c, old h d) (at.increasing h j a c)
        | inr e ↦ let d : h < length ws = omega arith in rw (old h d, e, new) (next_after hi h d)
      ];
      different = λ h j a b q. elim (old_or_new j b) [
        | inl c ↦ let d : h < length ws = omega arith in at.different h j a c (rw (old j c, old h d) at q)
        | inr e ↦ let d : h < length ws = omega arith in fresh h d (rw (old h d, e, new) at q)
      ];
      grown = λ j a b. elim (old_or_new j b) [
        | inl c ↦ let g = at.grown j a c in
            let d : g.0 < length ws = (let z = g.2 in omega arith) in
            (g.0, g.1, g.2, g.3, rw (old j c, old g.0 d) g.4, elim g.5 [ inl z ↦ inl z | inr z ↦ inr (z.0, (let q = z.1 in omega arith)) ])
        | inr e ↦ (i, x, omega arith, hx, rw (e, new, old i hi) refl, inr (refl, omega arith))
      ];
      tried = λ j y a b t. elim (cases_tried i x j y t) [
        | inl c ↦ let inside = tried_inside j y c in
            let r = at.tried j y inside b c in
            (r.0, (let z = r.1 in omega (arith, long)), rw (old r.0 r.1, old j inside) r.2, rw (old r.0 r.1, old j inside) r.3)
        | inr c ↦ (length ws, omega (arith, long), rw (c.0, c.1, new, old i hi) refl, inl (rw (c.0, c.1, new, old i hi) refl))
      ];
    }
      where
        us : List Word
        us = ws ++ (word_at ws i ++ x ∷ []) ∷ []

        long : length us ≡ length ws + 1
        long = length_push ws (word_at ws i ++ x ∷ [])

        old : (j : ℕ) → j < length ws → word_at us j ≡ word_at ws j
        old j l = get_or_append_left ws ((word_at ws i ++ x ∷ []) ∷ []) [] j l

        new : word_at us (length ws) ≡ word_at ws i ++ x ∷ []
        new = get_or_push ws (word_at ws i ++ x ∷ []) [] (length ws) refl

        old_or_new : (j : ℕ) → j < length us → (j < length ws) ⊎ (j ≡ length ws)
        old_or_new j l = elim (cases_lt j (length ws)) [ inl b ↦ inl b | inr g ↦ inr (omega (arith, long)) ]

        tried_inside : (j y : ℕ) → Tried i x j y → j < length ws
        tried_inside j y (inl c) = omega arith
        tried_inside j y (inr c) = let e = c.0 in omega arith

  -- all keys of a word were tried
  pub word_done : (ws : List Word) (i : ℕ) → Searching k f ws i k → Searching k f ws (i + 1) 0
  word_done ws i at = record {
    some = at.some;
    start = at.start;
    keys = at.keys;
    increasing = at.increasing;
    different = at.different;
    grown = λ j a b. let g = at.grown j a b in (g.0, g.1, g.2, g.3, g.4, inl (elim g.5 [ inl c ↦ omega arith | inr c ↦ let e = c.0 in omega arith ]));
    tried = λ j y a b t. at.tried j y a b (elim t [
      | inl c ↦ elim (cases_lt j i) [ inl l ↦ inl l | inr g ↦ inr (omega arith, b) ]
      | inr c ↦ absurd (let z = c.1 in omega arith)
    ]);
  }

  -- with values below n there are at most n words
  pub search_room : (ws : List Word) (i x n : ℕ) → Searching k f ws i x → ((w : Word) → Keys k w → f w < n) → length ws ≤ n
  search_room ws i x n at low =
      elim (cases_lt n (length ws)) [
        | inl l ↦
            let c = pigeonhole n (λ a. f (word_at ws a)) (λ a h. low (word_at ws a) (at.keys a (omega arith))) in
            let b = c.3 in
            absurd (at.different c.0 c.1 c.2 (omega arith) c.4)
        | inr g ↦ g
      ]

  module _ (congruent : (u v : Word) (x : ℕ) → Keys k u → Keys k v → x < k → f u ≡ f v → f (u ++ x ∷ []) ≡ f (v ++ x ∷ [])) where
    module _ (ws : List Word) (i : ℕ) (at : Searching k f ws i 0) (all : length ws ≤ i) where
      -- a word found has the value of u and does not come after u
      Known : Word → Type 0
      Known u = (l : ℕ) × (l < length ws) × (f (word_at ws l) ≡ f u) × NotAfter (word_at ws l) u

      -- what is known stays known with a key behind
      known_key : (u : Word) (x : ℕ) → Keys k u → x < k → Known u → Known (u ++ x ∷ [])
      unfolding Known
      known_key u x ok hx a =
          let inside = a.1 in
          let r = at.tried a.0 x inside hx (inl (omega arith)) in
          (r.0, r.1, r.2 ∙ congruent (word_at ws a.0) u x (at.keys a.0 inside) ok hx a.2, later r.0 r.3 a.3)
        where
          later : (l : ℕ) → NotAfter (word_at ws l) (word_at ws a.0 ++ x ∷ []) → NotAfter (word_at ws a.0) u → NotAfter (word_at ws l) (u ++ x ∷ [])
          later l b (inl e) = rw e at b
          later l (inl e) (inr c) = inr (rw e (before_key (word_at ws a.0) u x x c))
          later l (inr b) (inr c) = inr (before_transitive _ _ _ b (before_key (word_at ws a.0) u x x c))

      -- and with a word of keys behind
      known_behind : (v u : Word) → Keys k u → Keys k v → Known u → Known (u ++ v)
      known_behind [] u a b h = rw append-nil h
      known_behind (x ∷ v) u a b h =
          rw append_assoc at (known_behind v (u ++ x ∷ []) (All-push (λ y. y < k) u x a b.0) b.1 (known_key u x a b.0 h))

      -- every word of keys
      known : (v : Word) → Keys k v → Known v
      unfolding Known
      known v ok = known_behind v [] tt ok (0, at.some, ap f at.start, inl at.start)

      -- the words found are the first in order
      pub search_ends : Searched k f ws
      unfolding Known
      search_ends = record {
        first = λ j l. record { keys = at.keys j l; holds = refl; earliest = λ v ok b e. earliest j l v ok b e };
        increasing = at.increasing;
        different = at.different;
        complete = λ v ok. let r = known v ok in (r.0, r.1, r.2);
        some = at.some;
        start = at.start;
        grown = λ j a b. let g = at.grown j a b in (g.0, g.1, g.2, g.3, g.4);
      }
        where
          not_after : (u v : Word) → NotAfter u v → Before v u → ⊥
          not_after u v (inl e) b = before_irreflexive v (rw e at b)
          not_after u v (inr a) b = before_irreflexive v (before_transitive v u v b a)

          earliest : (j : ℕ) → j < length ws → (v : Word) → Keys k v → Before v (word_at ws j) → f v ≡ f (word_at ws j) → ⊥
          earliest j l v ok b e =
              let r = known v ok in
              let inside = r.1 in
              elim (cases_order r.0 j) [
                | inl q ↦ not_after (word_at ws j) v (rw q at r.3) b
                | inr d ↦ elim d [
                  | inl c ↦ at.different r.0 j c l (r.2 ∙ e)
                  | inr c ↦ at.different j r.0 c inside (sym e ∙ sym r.2)
                ]
              ]
