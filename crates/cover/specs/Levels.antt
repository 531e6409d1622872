-- The level at which two states are told apart, and a table of these. Assumes nothing: these are definitions.
use Rattle.std.specs.Prelude.{◌≡◌, ℕ, zero, suc, ◌+◌, ◌*◌, ◌<◌, cond, not, List, length, Option, nat_lt, slice_index}
use Rattle.std.specs.List.{range_with_len, find}
use Rattle.machine.specs.Machine.{Machine}
use Rattle.minimal.specs.Levels.{alike, agrees_on}

-- one more than the last level below b at which s and t are alike: the first level at which they are not, if that is below b, and otherwise b
unfoldable pub level : ℕ → Machine → ℕ → ℕ → ℕ → ℕ
level k m zero s t = 0
level k m (suc b) s t = cond (alike k m b s t) (suc b) (level k m b s t)

-- the entry of two states in a table over pairs of sixteen states
abbrev pub entry : List ℕ → ℕ → ℕ → ℕ
entry es s t = slice_index es (16 * s + t)

-- whether an entry is above j says whether the states are alike at level j
abbrev pub LevelsTell : ℕ → Machine → ℕ → List ℕ → Type 0
LevelsTell k m j es = (s t : ℕ) → s < length m → t < length m → nat_lt j (entry es s t) ≡ alike k m j s t

-- a table of the levels below b, for any two states
abbrev pub LevelsBelow : ℕ → Machine → ℕ → List ℕ → Type 0
LevelsBelow k m b es = (s t : ℕ) → s < length m → t < length m → entry es s t ≡ level k m b s t

-- the smallest key that does not agree on states s and t at level j, if there is one
abbrev pub first_key : ℕ → Machine → ℕ → ℕ → ℕ → Option ℕ
first_key k m j s t = find (λ x. not (agrees_on k m j s t x)) (range_with_len 0 k)
