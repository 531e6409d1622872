use Rattle.std.proofs.Common.{◌∙◌}
use Rattle.minimal.proofs.Growing.{found_place}
use Rattle.minimal.proofs.tree.Tree.place.Goals as goal

pub returns : goal.returns
returns c = c.unwrap_or.ensures ∙ found_place c.args.self.now c.args.class _ _ c.find.ensures c.len.ensures.value
