use Rattle.std.proofs.Common.{arith}
use Rattle.std.proofs.lemmas.Bool.Decides.{nat_tests}
use Rattle.suite.specs.Enumeration.{ends_marked}
use Rattle.suite.proofs.Places.{same_is, end_from}
use Rattle.suite.proofs.apart.ends_marked.Goals as goal

pub returns-in_default : goal.returns-in_default
unfolding ends_marked
returns-in_default c = grind (arith, nat_tests, c.in_default.ensures)

pub returns-then-marks-before : goal.returns-then-marks-before
unfolding ends_marked
returns-then-marks-before c = grind (arith, nat_tests, same_is, end_from, c.same_keys.ensures, c.in-Some.ensures, c.as_slice-end.ensures)

pub returns-else-marks-before : goal.returns-else-marks-before
unfolding ends_marked
returns-else-marks-before c = grind (arith, nat_tests, c.in-Some.ensures)
