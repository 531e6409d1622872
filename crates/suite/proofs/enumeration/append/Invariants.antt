use Rattle.std.proofs.Common.{◌≡◌, ◌++◌, take}
use Rattle.suite.proofs.enumeration.append.Given as goal

abbrev pub invariant-loop-key : goal.invariant-loop-key
invariant-loop-key l = l.test.items ≡ l.initial.test.items ++ take l.key-index l.word
