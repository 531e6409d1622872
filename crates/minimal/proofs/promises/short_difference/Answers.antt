use Rattle.minimal.proofs.Beside.{short_difference}
use Rattle.minimal.proofs.promises.short_difference.Goals as goal

pub returns : goal.returns
returns c = short_difference
