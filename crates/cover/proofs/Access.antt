-- The access words: each is the first of all words that reach its state, and has fewer keys than there are states. Assumes nothing.
use Rattle.std.proofs.Common.{◌≡◌, ℕ, ◌<◌, ◌≤◌, cond, eqb, List, [], ◌∷◌, length, get_or, refl, ap, ◌∙◌, inl, inr, arith}
use Rattle.std.proofs.lemmas.List.FromFn.{length-map-range_with_len, get_or-map-range_with_len}
use Rattle.std.proofs.ByRecursion.{All-from_get_or}
use Rattle.std.proofs.lemmas.Bool.{eqb-true, eq-eqb}
use Rattle.machine.specs.Machine.{Machine, Word, Keys, Proper, Minimal, after}
use Rattle.machine.specs.Words.{Before, FirstWord, up_to}
use Rattle.machine.proofs.Cut.{first_short, first_access}
use Rattle.machine.proofs.Enumeration.{first_in, first_in_is}
use Rattle.cover.specs.Cover.{first_reaching, access_words, Reaches}
use Rattle.cover.specs.Promises.{FewerKeys}

-- the empty word is the first of all
first_empty : (k : ℕ) (P : Word → Type 0) → P [] → FirstWord k P []
first_empty k P holds = record { keys = tt; holds = holds; earliest = none }
  where
    none : (v : Word) → Keys k v → Before v [] → P v → ⊥
    none v keys (inl l) h = omega arith
    none [] keys (inr e) h = e.1
    none (x ∷ v) keys (inr e) h = e.1

-- the first of some words that reaches a state is the first that passes a test
pub reaching_is_in : (m : Machine) (s : ℕ) (ws : List Word) → first_reaching m s ws ≡ first_in (λ w. eqb (after m 0 w) s) ws
unfolding first_reaching first_in
reaching_is_in m s [] = refl
reaching_is_in m s (w ∷ ws) = ap (λ z. cond (eqb (after m 0 w) s) w z) (reaching_is_in m s ws)

module _ (k : ℕ) (m : Machine) (s : ℕ) where
  -- the access word of state s
  abbrev pub access_word : Word
  access_word = first_reaching m s (up_to k (length m))

  -- the first word of all, if it is not too long, is the one that is found
  pub access_is : (w : Word) → FirstWord k (λ v. after m 0 v ≡ s) w → length w ≤ length m → access_word ≡ w
  access_is w first short =
      reaching_is_in m s (up_to k (length m))
      ∙ first_in_is k (length m) (λ w. eqb (after m 0 w) s) (λ v. after m 0 v ≡ s) (λ v e. eqb-true _ _ e) (λ v keys e. eq-eqb _ _ e) w first short

  module _ (proper : Proper k m) where
    -- a state that can be reached is reached by the word that is found, and by none before it
    access_first : (w : Word) → Keys k w → after m 0 w ≡ s → FirstWord k (λ v. after m 0 v ≡ s) access_word
    access_first w keys reached = rw (reaching_is_in m s (up_to k (length m))) (first_access proper 0 proper.some s w keys reached)

-- there is one for each state
pub length_access : (k : ℕ) (m : Machine) → length (access_words k m) ≡ length m
unfolding access_words
length_access k m = length-map-range_with_len (access_word k m) 0 (length m)

-- word s is that of state s
pub access_at : (k : ℕ) (m : Machine) (s : ℕ) → s < length m → get_or (access_words k m) s [] ≡ access_word k m s
unfolding access_words
access_at k m s h = get_or-map-range_with_len (access_word k m) 0 (length m) s s [] h (omega arith)

module _ (k : ℕ) (m : Machine) (proper : Proper k m) (minimal : Minimal k m) where
  -- each is the first of all words that reach its state
  pub access_words_first : (s : ℕ) → s < length m → FirstWord k (λ v. after m 0 v ≡ s) (get_or (access_words k m) s [])
  access_words_first s h = let r = minimal.reached s h in rw (access_at k m s h) (access_first k m s proper r.0 r.1 r.2)

  -- each has fewer keys than there are states
  access_words_short : (s : ℕ) → s < length m → length (get_or (access_words k m) s []) < length m
  access_words_short s h = first_short proper 0 proper.some s (get_or (access_words k m) s []) (access_words_first s h)

  -- the same for all of them at once
  pub access_words_fewer : FewerKeys m (access_words k m)
  access_words_fewer = All-from_get_or (λ w. length w < length m) (access_words k m) [] (λ i l. access_words_short i (rw (length_access k m) at l))

  -- they reach every state, the beginning by the empty word
  pub access_words_reach : Reaches k m (access_words k m)
  unfolding after
  access_words_reach = record {
    begins = (0, rw (length_access k m) proper.some, access_at k m 0 proper.some ∙ access_is k m 0 [] (first_empty k (λ v. after m 0 v ≡ 0) refl) (omega arith));
    every = λ s h. (s, rw (length_access k m) h, (access_words_first s h).holds);
  }
