-- How long the longest of the tests in a row is. Assumes nothing: these are definitions.
use Rattle.std.specs.Prelude.{ℕ, max, List, [], ◌∷◌, length, slice_index}
use Rattle.machine.specs.Machine.{Word}
use Rattle.suite.specs.Written.{words_in}

-- how many keys the longest of some words has
unfoldable pub longest_of : List Word → ℕ
longest_of [] = 0
longest_of (w ∷ ws) = max (length w) (longest_of ws)

-- the tests that a row holds: their count, and for each its length and its keys
abbrev pub tests_in : List ℕ → List Word
tests_in row = words_in (slice_index row 0) row 1
