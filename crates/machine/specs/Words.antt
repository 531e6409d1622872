-- Words in order: by length, and words of one length key by key. Assumes nothing: these are definitions.
use Rattle.std.specs.Prelude.{◌≡◌, ℕ, zero, suc, ◌<◌, Bool, true, false, cond, ◌&&◌, ◌||◌, ◌⊎◌, List, [], ◌∷◌, ◌++◌, map, length, ◌==◌}
use mathlib.Core.List.{Memᴰ}
use Rattle.std.specs.List.{range_with_len, flat_map}
use Rattle.machine.specs.Machine.{Word, Keys}

-- of two words of one length: where they first differ, the key of the first is smaller
abbrev pub Smaller : Word → Word → Type 0
Smaller [] v = ⊥
Smaller (x ∷ u) [] = ⊥
Smaller (x ∷ u) (y ∷ v) = (x < y) ⊎ ((x ≡ y) × Smaller u v)

-- u comes before v: it is shorter, or of the same length and smaller
abbrev pub Before : Word → Word → Type 0
Before u v = (length u < length v) ⊎ ((length u ≡ length v) × Smaller u v)

-- w is the first word in order, of all words of keys there are, of which P holds
pub record FirstWord (k : ℕ) (P : Word → Type 0) (w : Word) : Type 0 where
  pub keys : Keys k w
  pub holds : P w
  pub earliest : (v : Word) → Keys k v → Before v w → P v → ⊥

-- w stands in ws
abbrev pub In : Word → List Word → Type 0
In w ws = Memᴰ w ws

-- no word stands twice
abbrev pub Different : List Word → Type 0
Different [] = Unit {0}
Different (w ∷ ws) = (In w ws → ⊥) × Different ws

-- a word in front of each of some words
abbrev pub each_behind : Word → List Word → List Word
each_behind v ws = map (λ w. v ++ w) ws

-- every word of the first with every word of the second behind it
abbrev pub products : List Word → List Word → List Word
products vs ws = flat_map (λ v. each_behind v ws) vs

-- the words of one key
abbrev pub single_keys : ℕ → List Word
single_keys k = map (λ x. x ∷ []) (range_with_len 0 k)

-- all words of so many keys, in order
unfoldable pub of_length : ℕ → ℕ → List Word
of_length k zero = [] ∷ []
of_length k (suc n) = products (single_keys k) (of_length k n)

-- all words of at most so many keys, in order
unfoldable pub up_to : ℕ → ℕ → List Word
up_to k zero = [] ∷ []
up_to k (suc n) = up_to k n ++ of_length k (suc n)

-- whether two rows are the same
unfoldable pub same : List ℕ → List ℕ → Bool
same [] [] = true
same [] (y ∷ v) = false
same (x ∷ u) [] = false
same (x ∷ u) (y ∷ v) = x == y && same u v

-- whether a word is one of some words
unfoldable pub listed : Word → List Word → Bool
listed w [] = false
listed w (v ∷ vs) = same w v || listed w vs

-- each word that is not among those seen, once, where it first stands
unfoldable pub once_from : List Word → List Word → List Word
once_from seen [] = []
once_from seen (w ∷ ws) = cond (listed w seen) (once_from seen ws) (w ∷ once_from (w ∷ seen) ws)

-- each word once, where it first stands
abbrev pub once : List Word → List Word
once ws = once_from [] ws
