use Rattle.std.proofs.Common.{arith}
use Rattle.suite.proofs.Any.{any_words}
use Rattle.suite.proofs.values.Against.repeated.Goals as goal

pub returns-then-some_end_marked : goal.returns-then-some_end_marked
returns-then-some_end_marked c = grind (arith, any_words)

pub returns-then-known : goal.returns-then-known
returns-then-known c = grind (arith, any_words)

pub returns-else-known : goal.returns-else-known
returns-else-known c = grind (arith, any_words)
