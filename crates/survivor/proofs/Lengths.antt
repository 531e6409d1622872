-- The longest of some words. Assumes nothing.
use Rattle.std.proofs.Common.{◌≡◌, ℕ, zero, suc, max, List, [], ◌∷◌, ◌++◌, length, replicate, refl, ap, ◌∙◌, arith}
use Rattle.machine.specs.Machine.{Word}
use Rattle.survivor.specs.Longest.{longest_of}

-- empty words are not the longest
pub longest_padded : (ws : List Word) (n : ℕ) → longest_of (ws ++ replicate n []) ≡ longest_of ws
unfolding longest_of
longest_padded [] zero = refl
longest_padded [] (suc n) = let r = longest_padded [] n in omega arith
longest_padded (w ∷ ws) n = ap (max (length w)) (longest_padded ws n)

-- the longest of a word and some words
pub longest_more : (w : Word) (ws : List Word) → longest_of (w ∷ ws) ≡ max (length w) (longest_of ws)
unfolding longest_of
longest_more w ws = refl

-- of no words the longest has no keys
pub longest_none : longest_of [] ≡ 0
unfolding longest_of
longest_none = refl
