use Rattle.suite.proofs.Equivalents.{equivalent_passes}
use Rattle.suite.proofs.promises.equivalent_passes.Goals as goal

pub returns : goal.returns
returns c = equivalent_passes
