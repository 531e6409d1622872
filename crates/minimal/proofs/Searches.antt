-- There is always a search to its end, and what its words tell. Assumes nothing.
use Rattle.std.proofs.Common.{◌≡◌, ℕ, zero, suc, ◌+◌, ◌<◌, ◌≤◌, eqb, List, [], ◌∷◌, ◌++◌, length, sym, inl, inr, add-one, arith, length-append}
use Rattle.std.proofs.lemmas.List.{length_push}
use Rattle.std.proofs.lemmas.Bool.{cases_lt, cases_order, eqb-true, eqb-false}
use Rattle.machine.specs.Machine.{Word, Keys}
use Rattle.machine.proofs.First.{first_cases}
use Rattle.machine.proofs.Order.{before_cases}
use Rattle.minimal.specs.Search.{word_at, Searched}
use Rattle.minimal.proofs.FirstWords.{Searching, NotAfter, search_begins, key_known, key_new, word_done, search_room, search_ends}

module _ (k : ℕ) (f : Word → ℕ) (n : ℕ) (low : (w : Word) → Keys k w → f w < n)
    (congruent : (u v : Word) (x : ℕ) → Keys k u → Keys k v → x < k → f u ≡ f v → f (u ++ x ∷ []) ≡ f (v ++ x ∷ [])) where
  -- a search that has come to key x of word i comes to the next key
  search_key : (i x : ℕ) → x < k → ((ws : List Word) × Searching k f ws i x × (i < length ws)) → (us : List Word) × Searching k f us i (suc x) × (i < length us)
  search_key i x hx r =
      let ws = r.0 in
      let at = r.1 in
      let hi = r.2 in
      elim (first_cases (λ j. eqb (f (word_at ws j)) (f (word_at ws i ++ x ∷ []))) (length ws)) [
        | inl none ↦ (_, rw add-one at (key_new k f ws i x at hi hx (λ l h e. eqb-false _ _ (none.1 l h) e)), omega (arith, length_push ws (word_at ws i ++ x ∷ [])))
        | inr some ↦ (ws, rw add-one at (key_known k f ws i x at hi some.0 some.2.inside (eqb-true _ _ some.2.passes)), hi)
      ]

  -- from the first key of a word it comes to any key, and to the end of the keys
  search_keys : (x : ℕ) → x ≤ k → (ws : List Word) (i : ℕ) → Searching k f ws i 0 → i < length ws → (us : List Word) × Searching k f us i x × (i < length us)
  search_keys zero h ws i at hi = (ws, at, hi)
  search_keys (suc x) h ws i at hi = search_key i x (omega arith) (search_keys x (omega arith) ws i at hi)

  -- a search that has come to the first key of a word comes to its end
  search_words : (fuel : ℕ) (ws : List Word) (i : ℕ) → Searching k f ws i 0 → n ≤ i + fuel → (us : List Word) × Searched k f us
  search_words zero ws i at h = (ws, search_ends k f congruent ws i at (let r = search_room k f ws i 0 n at low in omega arith))
  search_words (suc fuel) ws i at h =
      elim (cases_lt i (length ws)) [
        | inl l ↦ let r = search_keys k (omega arith) ws i at l in search_words fuel r.0 (i + 1) (word_done k f r.0 i r.1) (omega arith)
        | inr g ↦ (ws, search_ends k f congruent ws i at g)
      ]

  -- there are words that a search finds
  pub search_exists : (ws : List Word) × Searched k f ws
  search_exists = search_words n ([] ∷ []) 0 (search_begins k f) (omega arith)

module _ {k : ℕ} {f : Word → ℕ} {ws : List Word} (s : Searched k f ws) where
  -- words with one value stand at one place
  pub one_place : (i j : ℕ) → i < length ws → j < length ws → f (word_at ws i) ≡ f (word_at ws j) → i ≡ j
  one_place i j hi hj e =
      elim (cases_order i j) [
        | inl q ↦ q
        | inr d ↦ elim d [ inl l ↦ absurd (s.different i j l hj e) | inr l ↦ absurd (s.different j i l hi (sym e)) ]
      ]

  -- the word found comes no later than any with its value
  pub found_not_after : (j : ℕ) (v : Word) → j < length ws → Keys k v → f v ≡ f (word_at ws j) → NotAfter (word_at ws j) v
  found_not_after j v h ok e =
      elim (before_cases (word_at ws j) v) [
        | inl q ↦ inl q
        | inr d ↦ elim d [ inl b ↦ inr b | inr b ↦ absurd ((s.first j h).earliest v ok b e) ]
      ]

  -- a word has at most as many keys as there are words before it
  short_below : (bound j : ℕ) → j < bound → j < length ws → length (word_at ws j) ≤ j
  short_below zero j b h = absurd (omega arith)
  short_below (suc bound) zero b h = rw s.start (omega arith)
  short_below (suc bound) (suc j) b h =
      let g = s.grown (suc j) (omega arith) h in
      let l = g.2 in
      let rest = short_below bound g.0 (omega arith) (omega arith) in
      rw g.4 (omega (arith, length-append (word_at ws g.0) (g.1 ∷ [])))

  -- the same for every word found
  pub found_short : (j : ℕ) → j < length ws → length (word_at ws j) ≤ j
  found_short j h = short_below (suc j) j (omega arith) h
