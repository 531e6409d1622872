use Rattle.minimal.proofs.Moore.{short_separation}
use Rattle.minimal.proofs.promises.short_separation.Goals as goal

pub returns : goal.returns
returns c = short_separation
