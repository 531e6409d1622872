use Rattle.std.proofs.Common.{arith}
use Rattle.suite.specs.Kept.{begins}
use Rattle.suite.proofs.Places.{same_is, begins_short}
use Rattle.suite.proofs.apart.begins.Goals as goal

pub returns-then-word-front : goal.returns-then-word-front
unfolding begins
returns-then-word-front c = grind (arith, same_is, c.same_keys.ensures)

pub returns-else-word-front : goal.returns-else-word-front
returns-else-word-front c = grind (arith, begins_short)
