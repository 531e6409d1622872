use Rattle.minimal.proofs.Unique.{minimal_numbered_unique}
use Rattle.minimal.proofs.promises.minimal_numbered_unique.Goals as goal

pub returns : goal.returns
returns c = minimal_numbered_unique
