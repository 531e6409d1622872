-- The separating words of a minimal machine: the first word of every pair of states, each once, and short. Assumes nothing.
use Rattle.std.proofs.Common.{◌≡◌, ℕ, zero, suc, ◌<◌, ◌≤◌, false, leb, List, [], ◌∷◌, map, length, get_or, sym, refl, ap, subst, inl, inr, arith}
use mathlib.Core.List.Memᴰ
use Rattle.std.specs.List.{range_with_len}
use Rattle.std.proofs.ByRecursion.{All-from_get_or}
use Rattle.std.proofs.lemmas.Bool.{cases_Bool, cases_lt, cases_order, both_ways, cond-true, cond-false, cond_both, le-leb, lt-leb}
use Rattle.machine.specs.Machine.{Machine, Word, Proper, Minimal}
use Rattle.machine.specs.Words.{FirstWord, In, Different, once_from}
use Rattle.machine.proofs.Members.{in_get_or, in_has, in_counting, of_counting, in_joined, of_joined}
use Rattle.machine.proofs.Once.{in_once, of_once, different_once}
use Rattle.minimal.specs.Levels.{alike}
use Rattle.minimal.specs.Promises.{ShortSeparation}
use Rattle.minimal.proofs.Alike.{alike_zero, alike_shows}
use Rattle.cover.specs.Cover.{Tells, Separates, telling_words, separating_words}
use Rattle.cover.specs.Promises.{TellingFirst, AllTelling, EachOnce, FewerKeys}
use Rattle.cover.proofs.Telling.{Apart, telling_word, telling_level, telling_length}

module _ (k : ℕ) (m : Machine) where
  -- the word of any two states is one of the telling words
  telling_mem : (t s : ℕ) → t < s → s < length m → In (telling_word k m t s) (telling_words k m)
  unfolding telling_words
  telling_mem t s l h =
      in_joined (λ s. map (λ t. telling_word k m t s) (range_with_len 0 s))
      (in_counting 0 (length m) s (omega arith) (omega arith))
      (Memᴰ.map (λ t. telling_word k m t s) (in_counting 0 s t (omega arith) (omega arith)))

  -- and each of them is the word of two states
  pub mem_telling : (w : Word) → In w (telling_words k m) → (t : ℕ) × (s : ℕ) × (t < s) × (s < length m) × (telling_word k m t s ≡ w)
  unfolding telling_words
  mem_telling w h =
      let r = of_joined (λ s. map (λ t. telling_word k m t s) (range_with_len 0 s)) (range_with_len 0 (length m)) h in
      let q = Memᴰ.of_map (λ t. telling_word k m t r.0) (range_with_len 0 r.0) r.2 in
      let a = of_counting 0 (length m) r.1 in
      let b = of_counting 0 r.0 q.1 in
      let g = a.1 in
      let l = b.1 in
      (q.0, r.0, omega arith, omega arith, q.2)

  -- the level at which states are told apart
  first_level : (n t s : ℕ) → alike k m n t s ≡ false → (j : ℕ) × (j < n) × Apart k m j t s
  first_level zero t s e = absurd (both_ways _ e (alike_zero k m t s))
  first_level (suc n) t s e =
      elim (cases_Bool (alike k m n t s)) [
        | inl y ↦ (n, omega arith, record { alike_at = y; apart_at = e })
        | inr f ↦ let r = first_level n t s f in (r.0, (let l = r.1 in omega arith), r.2)
      ]

-- with two states the separating words are the telling words, each once; with one there is the empty word
pub several_states : (k : ℕ) (m : Machine) → 1 < length m → separating_words k m ≡ once_from [] (telling_words k m)
unfolding separating_words
several_states k m h = cond-false (leb (length m) 1) ([] ∷ []) (once_from [] (telling_words k m)) (lt-leb (length m) 1 h)

-- with one state it is the empty word alone
pub one_state : (k : ℕ) (m : Machine) → length m ≤ 1 → separating_words k m ≡ [] ∷ []
unfolding separating_words
one_state k m h = cond-true (leb (length m) 1) ([] ∷ []) (once_from [] (telling_words k m)) (le-leb (length m) 1 h)

-- words of which none stands twice, by their places
each_once : (ws : List Word) → Different ws → EachOnce ws
each_once [] d i j l h e = omega arith
each_once (w ∷ ws) d i zero l h e = omega arith
each_once (w ∷ ws) d zero (suc j) l h e = d.0 (rw e (in_get_or ws j (omega arith)))
each_once (w ∷ ws) d (suc i) (suc j) l h e = each_once ws d.1 i j (omega arith) (omega arith) e

-- none of the separating words stands twice
separating_different : (k : ℕ) (m : Machine) → Different (separating_words k m)
unfolding separating_words
separating_different k m = cond_both (leb (length m) 1) ([] ∷ []) (once_from [] (telling_words k m)) Different (λ _. (Memᴰ.not-nil, tt)) (λ _. different_once (telling_words k m))

-- no word stands twice
pub separating_once : (k : ℕ) (m : Machine) → EachOnce (separating_words k m)
separating_once k m = each_once (separating_words k m) (separating_different k m)

-- the theorems, for a minimal machine; that states with the same outputs on short words are equivalent is proved in the crate minimal
module _ (separation : ShortSeparation) (k : ℕ) (m : Machine) (proper : Proper k m) (minimal : Minimal k m) where
  -- any two states are told apart at a level below the number of states
  pub apart_level : (t s : ℕ) → t < s → s < length m → (j : ℕ) × (suc j < length m) × Apart k m j t s
  apart_level t s l h = go (length m) refl
    where
      go : (n : ℕ) → length m ≡ n → (j : ℕ) × (suc j < length m) × Apart k m j t s
      go zero e = absurd (omega arith)
      go (suc n) e =
          elim (cases_Bool (alike k m n t s)) [
            | inl y ↦
                let same = minimal.distinct t s (omega arith) h (separation k m t s proper (omega arith) h (λ w keys short. alike_shows k m n t s y w keys (omega arith))) in
                absurd (omega arith)
            | inr f ↦ let r = first_level k m n t s f in (r.0, (let b = r.1 in omega arith), r.2)
          ]

  -- the word of two states is the first of all words that tell them apart
  pair_first : (t s : ℕ) → t < s → s < length m → FirstWord k (Tells m t s) (telling_word k m t s)
  pair_first t s l h = let r = apart_level t s l h in telling_level k m r.0 t s r.2 (let b = r.1 in omega arith)

  -- it has fewer keys than there are states
  pair_short : (t s : ℕ) → t < s → s < length m → length (telling_word k m t s) < length m
  pair_short t s l h = let r = apart_level t s l h in let q = telling_length k m r.0 t s r.2 (let b = r.1 in omega arith) in let b = r.1 in omega arith

  -- it is one of the separating words
  separating_mem : (t s : ℕ) → t < s → s < length m → In (telling_word k m t s) (separating_words k m)
  separating_mem t s l h =
      rw (several_states k m (omega arith)) (in_once (telling_words k m) (telling_mem k m t s l h))

  -- for any two states the first of all words that tell them apart is there
  pub separating_first : TellingFirst k m (separating_words k m)
  separating_first t s l h =
      let r = in_has (separating_mem t s l h) in
      (r.0, r.1, rw (r.2 []) (pair_first t s l h))

  -- if there are two states, each separating word is the word of two states
  mem_separating : (w : Word) → 1 < length m → In w (separating_words k m) → (t : ℕ) × (s : ℕ) × (t < s) × (s < length m) × (telling_word k m t s ≡ w)
  mem_separating w h g = mem_telling k m w (of_once (telling_words k m) (rw (several_states k m h) at g))

  -- and no word besides these, if there are two states
  pub separating_only : AllTelling k m (separating_words k m)
  separating_only h i l =
      let r = mem_separating (get_or (separating_words k m) i []) h (in_get_or (separating_words k m) i l) in
      (r.0, r.1, r.2, r.3, subst (FirstWord k (Tells m r.0 r.1)) r.4 (pair_first r.0 r.1 r.2 r.3))

  -- every separating word has fewer keys than there are states
  pub separating_short : FewerKeys m (separating_words k m)
  separating_short =
      elim (cases_lt 1 (length m)) [
        | inl h ↦ All-from_get_or (λ w. length w < length m) (separating_words k m) []
            (λ i l. let r = mem_separating (get_or (separating_words k m) i []) h (in_get_or (separating_words k m) i l) in let e = ap length r.4 in let b = pair_short r.0 r.1 r.2 r.3 in omega arith)
        | inr g ↦ rw (one_state k m g) (proper.some, tt)
      ]

  -- there are such words, and two states that show the same on all of them are one
  pub separating_separates : Separates m (separating_words k m)
  separating_separates = record {
    some = elim (cases_lt 1 (length m)) [ inl h ↦ let r = in_has (separating_mem 0 1 (omega arith) h) in let l = r.1 in omega arith | inr g ↦ rw (one_state k m g) (omega arith) ];
    tells = λ s t hs ht same. elim (cases_order s t) [
      | inl e ↦ e
      | inr r ↦ elim r [
        | inl l ↦ let w = separating_first s t l ht in absurd (w.2.holds (same w.0 w.1))
        | inr l ↦ let w = separating_first t s l hs in absurd (w.2.holds (sym (same w.0 w.1)))
      ]
    ];
  }
