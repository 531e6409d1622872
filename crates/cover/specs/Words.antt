-- The keys of a word that goes by value. Assumes nothing: these are definitions.
use Rattle.std.specs.Prelude.{ℕ, List, map}
use Rattle.machine.specs.Items.{items}
use Rattle.machine.specs.declared.fixed_list.FixedList.{FixedList}

-- the keys of a word, in order
abbrev pub word_of : {room : ℕ} → FixedList ℕ room → List ℕ
word_of w = items w

-- the same for each of some words
abbrev pub words_of : {room : ℕ} → List (FixedList ℕ room) → List (List ℕ)
words_of ws = map word_of ws
