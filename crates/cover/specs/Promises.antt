-- What is promised of access words and separating words, in words that say nothing of how they are found. Assumes nothing.
use Rattle.std.specs.Prelude.{◌≡◌, ℕ, ◌<◌, List, [], length, ◌≢◌, slice_index_or}
use Rattle.std.specs.List.{AllByRecursion}
use Rattle.machine.specs.Machine.{Machine, Word, after}
use Rattle.machine.specs.Words.{FirstWord}
use Rattle.cover.specs.Cover.{Tells}

-- each state has the first of all words that reach it
abbrev pub AccessFirst : ℕ → Machine → List Word → Type 0
AccessFirst k m qs = (s : ℕ) → s < length m → FirstWord k (λ w. after m 0 w ≡ s) (slice_index_or qs s [])

-- for any two states the first of all words that tell them apart is there
abbrev pub TellingFirst : ℕ → Machine → List Word → Type 0
TellingFirst k m ws = (t s : ℕ) → t < s → s < length m → (i : ℕ) × (i < length ws) × FirstWord k (Tells m t s) (slice_index_or ws i [])

-- and no word besides these, if there are two states
abbrev pub AllTelling : ℕ → Machine → List Word → Type 0
AllTelling k m ws =
    1 < length m → (i : ℕ) → i < length ws → (t : ℕ) × (s : ℕ) × (t < s) × (s < length m) × FirstWord k (Tells m t s) (slice_index_or ws i [])

-- no word stands twice
abbrev pub EachOnce : List Word → Type 0
EachOnce ws = (i j : ℕ) → i < j → j < length ws → slice_index_or ws i [] ≢ slice_index_or ws j []

-- every word has fewer keys than the machine has states
abbrev pub FewerKeys : Machine → List Word → Type 0
FewerKeys m ws = AllByRecursion (λ w. length w < length m) ws
