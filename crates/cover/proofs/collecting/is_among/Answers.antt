use Rattle.std.proofs.Common.{rules}
use Rattle.cover.proofs.Collected.{looking_answers}
use Rattle.cover.proofs.collecting.is_among.Goals as goal

pub returns : goal.returns
returns c = search (rules, looking_answers)
