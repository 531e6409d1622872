-- Access words and separating words. Assumes nothing: these are definitions.
use Rattle.std.specs.Prelude.{◌≡◌, ℕ, ◌<◌, cond, List, [], ◌∷◌, map, length, ◌==◌, nat_le, slice_index_or}
use Rattle.std.specs.List.{range_with_len, flat_map}
use Rattle.machine.specs.Machine.{Machine, Word, outputs, after}
use Rattle.machine.specs.Words.{up_to, same, once}

-- of some words the first that reaches state s, or the empty word
unfoldable pub first_reaching : Machine → ℕ → List Word → Word
first_reaching m s [] = []
first_reaching m s (w ∷ ws) = cond (after m 0 w == s) w (first_reaching m s ws)

-- word w tells states t and s apart: begun in t the machine does not show what it shows begun in s
abbrev pub Tells : Machine → ℕ → ℕ → Word → Type 0
Tells m t s w = outputs m t w ≡ outputs m s w → ⊥

-- of some words the first for which states t and s show different rows, or the empty word
unfoldable pub first_telling : Machine → ℕ → ℕ → List Word → Word
first_telling m t s [] = []
first_telling m t s (w ∷ ws) = cond (same (outputs m t w) (outputs m s w)) (first_telling m t s ws) w

-- for each state, by its number, the first word in order that reaches it
unfoldable pub access_words : ℕ → Machine → List Word
access_words k m = map (λ s. first_reaching m s (up_to k (length m))) (range_with_len 0 (length m))

-- for each state s by its number, for each t below it, the first word in order that tells them apart
unfoldable pub telling_words : ℕ → Machine → List Word
telling_words k m = flat_map (λ s. map (λ t. first_telling m t s (up_to k (length m))) (range_with_len 0 s)) (range_with_len 0 (length m))

-- each of these once; the empty word if there is only one state
unfoldable pub separating_words : ℕ → Machine → List Word
separating_words k m = cond (nat_le (length m) 1) ([] ∷ []) (once (telling_words k m))

-- the words reach every state, the beginning by the empty word
pub record Reaches (k : ℕ) (m : Machine) (qs : List Word) : Type 0 where
  pub begins : (i : ℕ) × (i < length qs) × (slice_index_or qs i [] ≡ [])
  pub every : (s : ℕ) → s < length m → (i : ℕ) × (i < length qs) × (after m 0 (slice_index_or qs i []) ≡ s)

-- there are words, and two states that show the same on all of them are one
pub record Separates (m : Machine) (ws : List Word) : Type 0 where
  pub some : 0 < length ws
  pub tells : (s t : ℕ) → s < length m → t < length m → ((i : ℕ) → i < length ws → outputs m s (slice_index_or ws i []) ≡ outputs m t (slice_index_or ws i [])) → s ≡ t
