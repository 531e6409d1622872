use Rattle.std.proofs.Common.{arith}
use Rattle.suite.specs.Kept.{parts}
use Rattle.suite.proofs.Any.{any_words}
use Rattle.suite.proofs.apart.parts.Goals as goal

pub returns-then-begins : goal.returns-then-begins
unfolding parts
returns-then-begins c = grind (arith, any_words)

pub returns-else-begins : goal.returns-else-begins
unfolding parts
returns-else-begins c = grind arith
