use Rattle.suite.proofs.Passing.{passing_suite_is_equivalent}
use Rattle.suite.proofs.promises.passing_is_equivalent.Goals as goal

pub returns : goal.returns
returns c = passing_suite_is_equivalent
