use Rattle.minimal.proofs.Quotient.{minimal_exists}
use Rattle.minimal.proofs.promises.minimal_exists.Goals as goal

pub returns : goal.returns
returns c = minimal_exists
