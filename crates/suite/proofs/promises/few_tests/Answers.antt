use Rattle.suite.proofs.Counts.{few_tests}
use Rattle.suite.proofs.promises.few_tests.Goals as goal

pub returns : goal.returns
returns c = few_tests
