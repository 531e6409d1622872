-- What the programs print of words, a digit for each key and a dash for the empty word, and of failures. Assumes nothing: these are definitions.
use Rattle.std.specs.Prelude.{ℕ, ◌+◌, ◌%◌, List, [], ◌∷◌, map, codes}
use Rattle.machine.specs.Told.{refusal_text}
use Rattle.formats.specs.declared.failures.Failure.{Failure}
use Rattle.formats.specs.declared.failures.Failure.TheVariants.{Refused, OutOfMemory}

-- the programs' keys are below 4, so the last digit of a key is the key
abbrev pub digit : ℕ → ℕ
digit x = 48 + x % 10

-- the text of a word
abbrev pub word_text : List ℕ → List ℕ
word_text [] = 45 ∷ []
word_text (x ∷ w) = map digit (x ∷ w)

-- the text of a failure
abbrev pub failure_text : Failure → List ℕ
failure_text (Refused f) = refusal_text f
failure_text OutOfMemory = codes "out of memory"
