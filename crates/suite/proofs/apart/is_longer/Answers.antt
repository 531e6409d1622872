use Rattle.std.proofs.Common.{arith}
use Rattle.std.proofs.lemmas.Bool.Decides.{nat_tests}
use Rattle.suite.specs.Enumeration.{longer}
use Rattle.suite.proofs.apart.is_longer.Goals as goal

pub returns-then-word-front : goal.returns-then-word-front
unfolding longer
returns-then-word-front c = grind (arith, nat_tests, c.begins.ensures, c.as_slice-word.ensures)

pub returns-else-word-front : goal.returns-else-word-front
unfolding longer
returns-else-word-front c = grind (arith, nat_tests, c.as_slice-word.ensures)
