-- What the enumeration of the tests does: which words it hands on, and to what. Assumes nothing: these are definitions.
use Rattle.std.specs.List.{list_any}
use Rattle.std.specs.Prelude.{◌≡◌, ℕ, suc, ◌+◌, ◌-◌, ◌<◌, Bool, false, ◌&&◌, ◌||◌, List, [], ◌∷◌, length, take, drop, nat_le, nat_lt, slice_index_or}
use Rattle.cover.specs.Words.{words_of}
use Rattle.machine.specs.Machine.{Word}
use Rattle.machine.specs.Words.{each_behind, same}
use Rattle.suite.specs.declared.values.Against.{Against}
use Rattle.suite.specs.declared.values.Known.{Known}
use Rattle.suite.specs.Kept.{begins, repeats, without}

-- handing some words on, one after the other, leads from s to t
unfoldable pub Fed : {S : Type 0} → (S → Word → S → Type 0) → List Word → S → S → Type 0
Fed step [] s t = s ≡ t
Fed {S} step (w ∷ ws) s t = (m : S) × step s w m × Fed step ws m t

-- some words, each with f in front, without those that have come up before; the first `own` keys of f are the word in front, and j more keys come behind it
unfoldable pub fresh_behind : ℕ → List Word → List Word → ℕ → ℕ → Word → List Word → List Word
fresh_behind e ends earlier own j f ws = without (repeats e ends earlier (take own f) j) (each_behind f ws)

-- the same, for what a candidate is measured against
abbrev pub fresh_of : Against → Word → List Word → List Word
fresh_of a f ws = fresh_behind a.extra (words_of a.ends.now) (words_of a.earlier.now) a.own a.between f ws

-- m is one of n places from a on
abbrev pub within : ℕ → ℕ → ℕ → Bool
within a n m = nat_le a m && nat_lt m (a + n)

-- f begins with p, and place m is fewer than n keys behind it
unfoldable pub marks : ℕ → Word → ℕ → Word → Bool
marks n f m p = begins p f && within (length p) n m

-- in a word that begins with f an end that starts at place m shows that the word has come up before
unfoldable pub marked : ℕ → List Word → ℕ → ℕ → Word → ℕ → Bool
marked e earlier own j f m = within own j m || list_any (marks (suc e) f m) earlier

-- c ends with w, at a place that has a mark
unfoldable pub ends_marked : List Bool → Word → Word → Bool
ends_marked at c w = nat_le (length w) (length c) && (slice_index_or at (length c - length w) false && same w (drop (length c - length w) c))

-- p is longer than f, and begins with it
unfoldable pub longer : Word → Word → Bool
longer f p = nat_lt (length f) (length p) && begins f p

-- what is known of tests that begin with f is right: which places are marked, and whether an earlier word in front is longer than f and begins with it
pub record Knows (a : Against) (known : Known) (f : Word) : Type 0 where
  pub places : (m : ℕ) → m < 36 → slice_index_or known.marks m false ≡ marked a.extra (words_of a.earlier.now) a.own a.between f m
  pub longer : known.longer ≡ list_any (longer f) (words_of a.earlier.now)
