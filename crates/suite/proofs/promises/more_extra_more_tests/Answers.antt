use Rattle.suite.proofs.Equivalents.{more_extra_more_tests}
use Rattle.suite.proofs.promises.more_extra_more_tests.Goals as goal

pub returns : goal.returns
returns c = more_extra_more_tests
