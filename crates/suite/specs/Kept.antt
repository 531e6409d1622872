-- The tests, each once, told without looking at those before: a test is left out if it can be taken apart in an earlier way. Assumes nothing: these are definitions.
use Rattle.std.specs.List.{list_any}
use Rattle.std.specs.Prelude.{◌≡◌, ℕ, zero, suc, ◌+◌, ◌-◌, Bool, false, not, ◌&&◌, ◌||◌, List, [], ◌∷◌, ◌++◌, length, take, drop, filter, nat_le, nat_lt}
use Rattle.machine.specs.Machine.{Word}
use Rattle.machine.specs.Words.{each_behind, products, of_length, same, listed}

-- no word stands twice
abbrev pub Different : List Word → Type 0
Different [] = Unit {0}
Different (w ∷ ws) = (listed w ws ≡ false) × Different ws

-- c begins with p
unfoldable pub begins : Word → Word → Bool
begins p c = same p (take (length p) c)

-- c ends with w, and what stands before it has at least m keys and fewer than m + n
unfoldable pub ends : ℕ → ℕ → Word → Word → Bool
ends m n w c = nat_le (m + length w) (length c) && (nat_lt (length c) (m + length w + n) && same w (drop (length c - length w) c))

-- c ends so with one of some words
abbrev pub some_end : ℕ → ℕ → List Word → Word → Bool
some_end m n ws c = list_any (λ w. ends m n w c) ws

-- c is p, then fewer than n keys, then one of some words
unfoldable pub parts : ℕ → List Word → Word → Word → Bool
parts n ws p c = begins p c && some_end (length p) n ws c

-- c is made so with one of some words in front
abbrev pub some_parts : ℕ → List Word → List Word → Word → Bool
some_parts n ws ps c = list_any (λ p. parts n ws p c) ps

-- a word with v in front and j keys behind it has come up before: with an earlier word in front, or with v and fewer keys behind it
unfoldable pub repeats : ℕ → List Word → List Word → Word → ℕ → Word → Bool
repeats e ws earlier v j c = some_parts (suc e) ws earlier c || parts j ws v c

-- the words of a list that do not pass a test
abbrev pub without : (Word → Bool) → List Word → List Word
without f cs = filter (λ c. not (f c)) cs

-- the tests with v in front and fewer than so many keys behind it that have not come up before
unfoldable pub kept_behind : ℕ → ℕ → List Word → List Word → Word → ℕ → List Word
kept_behind k e ws earlier v zero = []
kept_behind k e ws earlier v (suc j) = kept_behind k e ws earlier v j ++ without (repeats e ws earlier v j) (each_behind v (products (of_length k j) ws))

-- the same for each word of a list in front, with some words before them
unfoldable pub kept_from : ℕ → ℕ → List Word → List Word → List Word → List Word
kept_from k e ws earlier [] = []
kept_from k e ws earlier (v ∷ vs) = kept_behind k e ws earlier v (suc e) ++ kept_from k e ws (earlier ++ v ∷ []) vs

-- the same with no words before them
abbrev pub kept : ℕ → ℕ → List Word → List Word → List Word
kept k e vs ws = kept_from k e ws [] vs
