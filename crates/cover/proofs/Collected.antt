-- Collecting the words of all pairs of states, each once, into a vector: what holds before each pair. Assumes nothing.
use Rattle.std.proofs.Common.{◌≡◌, ℕ, zero, suc, ◌+◌, ◌<◌, ◌≤◌, Bool, List, [], ◌∷◌, ◌++◌, map, length, Decides, IsTrue, nat_eq, sym, refl, ap, ◌∙◌, ap₂, inl, inr, append_assoc, append-nil, add-one, arith, length-append}
use mathlib.Core.List.Memᴰ
use lib.ListN.{length-map}
use Rattle.std.specs.Cmp.Lexicographic.{pointwise}
use Rattle.std.specs.List.{range_with_len, flat_map, list_any}
use Rattle.std.proofs.lemmas.List.FromFn.{length-map-range_with_len, map-range_with_len_more}
use Rattle.std.proofs.lemmas.List.{map_push, flat_map_more}
use Rattle.std.proofs.lemmas.Slice.Eq.{bytes_eq-Decides}
use Rattle.std.proofs.lemmas.Bool.{cases_Bool, cases_lt, both_ways}
use Rattle.machine.specs.declared.fixed_list.FixedList.{FixedList}
use Rattle.machine.specs.Machine.{Machine, Word}
use Rattle.machine.specs.Words.{In, once_from}
use Rattle.machine.proofs.Once.{once_again, once_new, length_once}
use Rattle.cover.specs.Cover.{telling_words, separating_words}
use Rattle.cover.specs.Words.{word_of, words_of}
use Rattle.cover.proofs.Keys.{counting_more}
use Rattle.cover.proofs.Separating.{several_states, one_state}
use Rattle.cover.proofs.Telling.{telling_word}

-- how many pairs of states below n there are
pairs : ℕ → ℕ
pairs zero = 0
pairs (suc n) = pairs n + n

-- of more states there are no fewer pairs
pairs_grow : (a b : ℕ) → a ≤ b → pairs a ≤ pairs b
unfolding pairs
pairs_grow a zero h = let z : a ≡ 0 = omega arith in rw z (omega arith)
pairs_grow a (suc b) h =
    elim (cases_lt b a) [
      | inl l ↦ let e : a ≡ suc b = omega arith in rw e (omega arith)
      | inr g ↦ let l = pairs_grow a b g in omega arith
    ]

module _ (k : ℕ) (m : Machine) where
  -- the words of state s with the states below it
  row : ℕ → List Word
  row s = map (λ t. telling_word k m t s) (range_with_len 0 s)

  -- the words of the pairs of states below s
  rows : ℕ → List Word
  rows s = flat_map row (range_with_len 0 s)

  -- the words of the pairs of states below s, and of s with the states below t
  pub told_to : ℕ → ℕ → List Word
  told_to s t = rows s ++ map (λ t. telling_word k m t s) (range_with_len 0 t)

  -- with one pair more there is its word more
  told_more : (s t : ℕ) → told_to s (t + 1) ≡ told_to s t ++ telling_word k m t s ∷ []
  unfolding told_to
  told_more s t =
      ap (λ z. rows s ++ z) (map-range_with_len_more (λ t. telling_word k m t s) 0 t t (omega arith))
      ∙ sym (append_assoc (rows s) (map (λ t. telling_word k m t s) (range_with_len 0 t)) (telling_word k m t s ∷ []))

  -- with all states below s told from it the next state begins
  told_row : (s : ℕ) → told_to (s + 1) 0 ≡ told_to s s
  unfolding told_to rows row
  told_row s = append-nil (rows (s + 1)) ∙ ap (flat_map row) (counting_more s) ∙ sym (flat_map_more row [] (range_with_len 0 s) s)

  -- at the beginning there are no words
  told_none : told_to 0 0 ≡ []
  unfolding told_to rows
  told_none = refl

  -- at the end they are those of all pairs of states
  told_all : told_to (length m) 0 ≡ telling_words k m
  unfolding told_to rows row telling_words
  told_all = append-nil (rows (length m))

  -- there are as many words as pairs of states below s
  length_rows : (s : ℕ) → length (rows s) ≡ pairs s
  unfolding rows row pairs
  length_rows zero = refl
  length_rows (suc s) =
      ap (λ n. length (rows n)) (sym (add-one s))
      ∙ ap (λ z. length (flat_map row z)) (counting_more s)
      ∙ ap length (sym (flat_map_more row [] (range_with_len 0 s) s))
      ∙ length-append (rows s) (row s)
      ∙ ap₂ ◌+◌ (length_rows s) (length-map-range_with_len (λ t. telling_word k m t s) 0 s)

  -- and one more for each state below t
  length_told : (s t : ℕ) → length (told_to s t) ≡ pairs s + t
  unfolding told_to
  length_told s t = length-append (rows s) (map (λ t. telling_word k m t s) (range_with_len 0 t)) ∙ ap₂ ◌+◌ (length_rows s) (length-map-range_with_len (λ t. telling_word k m t s) 0 t)

-- looking for the keys of a word among those of some words answers whether they stand there
looking_decides : {room : ℕ} (w : FixedList ℕ room) (ws : List (FixedList ℕ room)) → Decides (list_any (λ v. pointwise nat_eq (word_of v) (word_of w)) ws) (In (word_of w) (words_of ws))
looking_decides w [] = (λ e. absurd (both_ways _ refl e), λ i. absurd (Memᴰ.not-nil i))
looking_decides w (v ∷ ws) =
    let here = bytes_eq-Decides (word_of v) (word_of w) in
    let rest = looking_decides w ws in
    elim (cases_Bool (pointwise nat_eq (word_of v) (word_of w))) [
      | inl y ↦ rw y (λ _. Memᴰ.head (sym (here.0 y)), λ _. refl)
      | inr n ↦ rw n (λ e. Memᴰ.tail (rest.0 e), λ i. elim (Memᴰ.cases_cons i) [ inl e ↦ absurd (both_ways _ n (here.1 (sym e))) | inr t ↦ rest.1 t ])
    ]

-- the same of the answer
pub looking_answers :
    {room : ℕ} (w : FixedList ℕ room) (ws : List (FixedList ℕ room)) (r : Bool) → r ≡ list_any (λ v. pointwise nat_eq (word_of v) (word_of w)) ws →
    (IsTrue r → In (word_of w) (words_of ws)) × (In (word_of w) (words_of ws) → IsTrue r)
looking_answers w ws r is = let d = looking_decides w ws in (λ y. d.0 (sym is ∙ y), λ i. is ∙ d.1 i)

-- the words are those told so far, each once
pub record KeptTo {room : ℕ} (k : ℕ) (m : Machine) (s t : ℕ) (ws : List (FixedList ℕ room)) : Type 0 where
  pub kept : words_of ws ≡ once_from [] (told_to k m s t)

-- at the beginning no word is kept
pub kept_starts : {room : ℕ} {k : ℕ} {m : Machine} {ws : List (FixedList ℕ room)} → ws ≡ [] → KeptTo k m 0 0 ws
unfolding once_from
kept_starts {k} {m} none = record { kept = rw (none, told_none k m) refl }

-- with all states below s told from it the next state begins
pub kept_row : {room : ℕ} {k : ℕ} {m : Machine} {s t : ℕ} {ws : List (FixedList ℕ room)} → t ≡ s → KeptTo k m s t ws → KeptTo k m (s + 1) 0 ws
kept_row {k} {m} {s} end h = record { kept = rw (told_row k m s) (rw end at h.kept) }

-- with all states told from those below them all pairs were told
pub kept_all : {room : ℕ} {k : ℕ} {m : Machine} {s : ℕ} {ws : List (FixedList ℕ room)} → s ≡ length m → KeptTo k m s 0 ws → words_of ws ≡ once_from [] (telling_words k m)
kept_all {k} {m} end h = rw end at h.kept ∙ ap (once_from []) (told_all k m)

-- of at most 16 states there are at most 120 pairs, and so many words that tell them apart
pub few_separating : (k : ℕ) (m : Machine) → length m ≤ 16 → length (separating_words k m) ≤ 120
unfolding pairs
few_separating k m few =
    elim (cases_lt 1 (length m)) [
      | inl l ↦
          let a = length_once [] (telling_words k m) in
          let b = ap length (told_all k m) in
          let c = length_told k m (length m) 0 in
          let d = pairs_grow (length m) 16 few in
          rw (several_states k m l) (omega arith)
      | inr g ↦ rw (one_state k m g) (omega arith)
    ]

module _ {room : ℕ} {k : ℕ} {m : Machine} {s t : ℕ} {ws : List (FixedList ℕ room)} (h : KeptTo k m s t ws) where
  -- there is room for one word more
  pub kept_room : s < 16 → t < s → length ws < 120
  unfolding pairs
  kept_room hs ht =
      let a = length-map ws word_of in
      let b = ap length h.kept in
      let c = length_once [] (told_to k m s t) in
      let d = length_told k m s t in
      let e = pairs_grow (suc s) 16 (omega arith) in
      omega arith

  -- the word of the next pair was kept before
  pub kept_again : {w : Word} → w ≡ telling_word k m t s → In w (words_of ws) → KeptTo k m s (t + 1) ws
  kept_again is there =
      record {
        kept = h.kept
            ∙ sym (ap (once_from []) (told_more k m s t) ∙ once_again [] (told_to k m s t) (telling_word k m t s) (inr (rw (← h.kept, ← is) there)));
      }

  -- or is new
  pub kept_more : (w : FixedList ℕ room) → word_of w ≡ telling_word k m t s → (In (word_of w) (words_of ws) → ⊥) → KeptTo k m s (t + 1) (ws ++ w ∷ [])
  kept_more w is new =
      record {
        kept = map_push word_of ws w
            ∙ ap₂ (λ a b. a ++ b ∷ []) h.kept is
            ∙ sym (ap (once_from []) (told_more k m s t) ∙ once_new [] (told_to k m s t) (telling_word k m t s) Memᴰ.not-nil (λ g. new (rw (h.kept, is) g)));
      }
