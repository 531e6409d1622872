use Rattle.verdict.proofs.Meaning.{beginnings_pass}
use Rattle.verdict.proofs.promises.beginnings_pass.Goals as goal

pub returns : goal.returns
returns c = beginnings_pass
