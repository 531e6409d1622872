use Rattle.suite.proofs.Once.{suite_kept}
use Rattle.suite.proofs.promises.each_test_once.Goals as goal

pub returns : goal.returns
returns c = suite_kept
