-- Reading tests out of a row of numbers, whatever stands there. Assumes nothing: these are definitions.
use Rattle.std.specs.Prelude.{ℕ, zero, suc, List, [], ◌∷◌, take, drop}
use Rattle.machine.specs.Machine.{Word}
use Rattle.suite.specs.declared.reading.Tests.{Tests}

-- so many words, each behind its length; where the row ends before, those that are there, and of the last the keys that are there
unfoldable pub words_from : ℕ → List ℕ → List Word
words_from zero row = []
words_from (suc n) [] = []
words_from (suc n) (x ∷ row) = take x row ∷ words_from n (drop x row)

-- the tests in a row: as many as its first number says
unfoldable pub tests_of : List ℕ → List Word
tests_of [] = []
tests_of (n ∷ row) = words_from n row

-- those that are left to read
abbrev pub tests_left : Tests → List Word
tests_left t = words_from t.left t.rest.now
