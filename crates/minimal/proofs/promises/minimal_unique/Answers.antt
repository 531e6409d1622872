use Rattle.minimal.proofs.Unique.{minimal_unique}
use Rattle.minimal.proofs.promises.minimal_unique.Goals as goal

pub returns : goal.returns
returns c = minimal_unique
