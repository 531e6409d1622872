use Rattle.std.proofs.Common.{arith}
use Rattle.std.proofs.lemmas.Bool.Decides.{nat_tests}
use Rattle.suite.specs.Kept.{ends}
use Rattle.suite.proofs.Places.{same_is, end_from}
use Rattle.suite.proofs.apart.ends.Goals as goal

pub returns-in_default : goal.returns-in_default
unfolding ends
returns-in_default c = grind (arith, nat_tests, c.in_default.ensures)

pub returns-then-before-least-2 : goal.returns-then-before-least-2
unfolding ends
returns-then-before-least-2 c = grind (arith, nat_tests, same_is, end_from, c.same_keys.ensures, c.in-Some.ensures, c.as_slice-end.ensures)

pub returns-else-before-least-2 : goal.returns-else-before-least-2
unfolding ends
returns-else-before-least-2 c = grind (arith, nat_tests, c.in-Some.ensures)
