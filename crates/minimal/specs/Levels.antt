-- Which states show the same on words of at most so many keys, as a test. Assumes nothing: these are definitions.
use Rattle.std.specs.Prelude.{◌≡◌, ℕ, zero, suc, ◌<◌, Bool, true, ◌&&◌, List, length, Some, None, Option, ◌==◌, slice_index}
use Rattle.machine.specs.First.{first}
use Rattle.machine.specs.Machine.{Machine, move}

-- every number below n passes
unfoldable pub every_below : (ℕ → Bool) → ℕ → Bool
every_below p zero = true
every_below p (suc n) = every_below p n && p n

-- states s and t show the same on every word of at most j of k keys
unfoldable pub alike : ℕ → Machine → ℕ → ℕ → ℕ → Bool
alike k m zero s t = true
alike k m (suc j) s t = every_below (λ x. ((move m s x).output == (move m t x).output) && alike k m j (move m s x).to (move m t x).to) k

-- key x shows the same in states s and t, and leads to states that are alike at level j
abbrev pub agrees_on : ℕ → Machine → ℕ → ℕ → ℕ → ℕ → Bool
agrees_on k m j s t x = (move m s x).output == (move m t x).output && alike k m j (move m s x).to (move m t x).to

-- the number, or d if there is none
abbrev pub number_or : ℕ → Option ℕ → ℕ
number_or d None = d
number_or d (Some n) = n

-- the smallest state that shows the same as s on every word of at most j of k keys
unfoldable pub class_at : ℕ → Machine → ℕ → ℕ → ℕ
class_at k m j s = number_or s (first (λ t. alike k m j t s) s)

-- the class of a state in a list of classes
abbrev pub class_in : List ℕ → ℕ → ℕ
class_in of s = slice_index of s

-- a list of the classes at level j
abbrev pub AtLevel : ℕ → Machine → ℕ → List ℕ → Type 0
AtLevel k m j of = (s : ℕ) → s < length m → class_in of s ≡ class_at k m j s

-- in states s and t a key shows the same and leads to states of one class
abbrev pub agrees : Machine → List ℕ → ℕ → ℕ → ℕ → Bool
agrees m of s t x = (move m s x).output == (move m t x).output && class_in of (move m s x).to == class_in of (move m t x).to

-- the smallest state in which every key shows the same as in s and leads to a state of the same class
unfoldable pub finer : ℕ → Machine → List ℕ → ℕ → ℕ
finer k m of s = number_or s (first (λ t. every_below (agrees m of t s) k) s)
