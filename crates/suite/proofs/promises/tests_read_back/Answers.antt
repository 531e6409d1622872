use Rattle.suite.proofs.TestsRow.{tests_read_back}
use Rattle.suite.proofs.promises.tests_read_back.Goals as goal

pub returns : goal.returns
returns c = tests_read_back
