use Rattle.std.proofs.Common.{ltb, sym, ap, ◌∙◌}
use Rattle.machine.specs.Run.{model}
use Rattle.cover.proofs.Entries.{levels_tell, agrees_same}
use Rattle.cover.proofs.levels.Levels.agree_on.Goals as goal

pub returns-then-output : goal.returns-then-output
returns-then-output c =
    let p = c.next.ensures in
    let q = c.next-then-output.ensures in
    let self = c.args.self.now in
    agrees_same self.machine.keys (model self.machine) c.args.level c.args.s c.args.t c.args.key c.next.result c.next-then-output.result c.at.result
    p.value q.value
    (ap (ltb c.args.level) c.at.ensures ∙ levels_tell self.machine.keys (model self.machine) self.bound c.args.level self.entries c.requires self.known _ _ p.inside q.inside)
    (sym c.output.ensures.value ∙ c.if-output.true ∙ c.output-2.ensures.value)
