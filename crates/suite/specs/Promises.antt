-- What follows from passing the tests: statements, each proved on the contract of a function. Assumes nothing.
use Rattle.std.specs.Prelude.{◌≡◌, ℕ, zero, suc, ◌+◌, ◌*◌, ◌^◌, ◌<◌, ◌≤◌, List, [], ◌++◌, length, slice_index_or}
use Rattle.std.specs.List.{ContainsAt as Has, AllByRecursion}
use Rattle.machine.specs.Machine.{Machine, Word, Keys, Proper, Equivalent}
use Rattle.machine.specs.Row.{word_in}
use Rattle.cover.specs.Cover.{Reaches, Separates, separating_words}
use Rattle.suite.specs.Kept.{Different, kept}
use Rattle.suite.specs.Suite.{with_key, suite, tests, Passes}
use Rattle.suite.specs.Written.{tests_row, test_place, words_in}

-- whatever has at most e states more than m and passes the tests made of words that reach and words that tell apart is equivalent to m
abbrev pub PassingSuiteIsEquivalent : Type 0
PassingSuiteIsEquivalent =
    (k e : ℕ) (m i : Machine) (qs ws : List Word) → Proper k m → Proper k i → length i ≤ length m + e →
    Reaches k m qs → Separates m ws → Passes m i (suite k e qs ws) → Equivalent k m i

-- and so for the tests that are written
abbrev pub PassingIsEquivalent : ℕ → ℕ → Machine → Type 0
PassingIsEquivalent k e m = (i : Machine) → Proper k i → length i ≤ length m + e → Passes m i (tests k e m) → Equivalent k m i

-- whatever is equivalent passes, however many states it has
abbrev pub EquivalentPasses : ℕ → ℕ → Machine → Type 0
EquivalentPasses k e m = (i : Machine) → Equivalent k m i → Passes m i (tests k e m)

-- how many words there are of at most e keys
unfoldable pub words_up_to : ℕ → ℕ → ℕ
words_up_to k zero = 1
words_up_to k (suc e) = words_up_to k e + k ^ suc e

-- there are at most as many tests as there are ways to make one
abbrev pub FewTests : Type 0
FewTests = (k e : ℕ) (m : Machine) → length (tests k e m) ≤ length m * (1 + k) * words_up_to k e * length (separating_words k m)

-- the tests for fewer extra states are among those for more
abbrev pub MoreExtraMoreTests : Type 0
MoreExtraMoreTests = (k d e : ℕ) (m : Machine) (w : Word) → d ≤ e → Has (tests k d m) w → Has (tests k e m) w

-- for every machine, minimal or not
abbrev pub EquivalentAlwaysPasses : Type 0
EquivalentAlwaysPasses = (k e : ℕ) (m : Machine) → EquivalentPasses k e m

-- leaving out what can be taken apart in an earlier way keeps each test once
abbrev pub EachTestOnce : Type 0
EachTestOnce =
    (k e : ℕ) (qs ws : List Word) → AllByRecursion (Keys k) qs → AllByRecursion (Keys k) ws → Different ws → suite k e qs ws ≡ kept k e (with_key k qs) ws

-- reading back a row that begins with tests gives the tests, and each stands at its place
abbrev pub TestsReadBack : Type 0
TestsReadBack =
    (ts : List Word) (rest : List ℕ) →
    (words_in (length ts) (tests_row ts ++ rest) 1 ≡ ts) × ((i : ℕ) → i < length ts → word_in (tests_row ts ++ rest) (test_place ts i) ≡ slice_index_or ts i [])
