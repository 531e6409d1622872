-- The tests, and what it is to pass them. Assumes nothing: these are definitions.
use Rattle.std.specs.Prelude.{◌≡◌, ℕ, List, ◌++◌}
use Rattle.std.specs.List.{AllByRecursion}
use Rattle.machine.specs.Machine.{Machine, Word, outputs}
use Rattle.machine.specs.Words.{products, single_keys, up_to, once}
use Rattle.cover.specs.Cover.{access_words, separating_words}

-- words, and behind them each of them followed by one key
abbrev pub with_key : ℕ → List Word → List Word
with_key k qs = qs ++ products qs (single_keys k)

-- every test as often as it comes up
unfoldable pub candidates : ℕ → ℕ → List Word → List Word → List Word
candidates k e qs ws = products (products (with_key k qs) (up_to k e)) ws

-- the tests made of words that reach and words that tell apart: a word that reaches, perhaps one key more, up to e keys whatever, and a word that tells apart
unfoldable pub suite : ℕ → ℕ → List Word → List Word → List Word
suite k e qs ws = once (candidates k e qs ws)

-- the tests for a machine and e extra states
unfoldable pub tests : ℕ → ℕ → Machine → List Word
tests k e m = suite k e (access_words k m) (separating_words k m)

-- machine i shows on each of some words what machine m shows
abbrev pub Passes : Machine → Machine → List Word → Type 0
Passes m i ws = AllByRecursion (λ w. outputs m 0 w ≡ outputs i 0 w) ws
