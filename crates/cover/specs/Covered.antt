-- The two lists of words that a cover holds. Assumes nothing: these are definitions.
use Rattle.std.specs.Prelude.{ℕ, List}
use Rattle.machine.specs.Items.{items}
use Rattle.cover.specs.Words.{words_of}
use Rattle.cover.specs.declared.cover.Cover.{Cover}

-- the access words, one for each state
abbrev pub access_of : Cover → List (List ℕ)
access_of c = words_of (items c.access)

-- the separating words
abbrev pub separating_of : Cover → List (List ℕ)
separating_of c = words_of (items c.separating)
