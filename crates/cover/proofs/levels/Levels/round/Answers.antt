use Rattle.std.proofs.Common.{◌+◌, ◌<◌, length, sym, ◌∙◌, arith}
use Rattle.machine.specs.Run.{model}
use Rattle.cover.proofs.Entries.{filled_yes, filled_no}
use Rattle.cover.proofs.levels.Levels.round.Goals as goal
use Rattle.cover.proofs.levels.Levels.round.Goals.{then-alike_at_bound, else-alike_at_bound}

pub loop-t-preserved : goal.loop-t-preserved
loop-t-preserved c =
    let self = c.args.self.now in
    let m = model self.machine in
    let here = c.loop-t.invariant.0 in
    let there : c.loop-t.t < length m = (let l = c.loop-t-test.true in let e = c.states-t-end.ensures in omega arith) in
    let known = c.loop-t.invariant.1 in (
      here,
      elim c.if-alike_at_bound.branch [
        | then-alike_at_bound w ↦ rw w.entries-is
            (filled_yes self.machine.keys m self.bound self.few c.loop-s.s c.loop-t.t c.loop-t.entries here there known (self.bound + 1) (omega arith) (sym c.alike_at_bound.ensures ∙ w.if-alike_at_bound.true))
        | else-alike_at_bound w ↦ rw w.entries-is
            (filled_no self.machine.keys m self.bound self.few c.loop-s.s c.loop-t.t c.loop-t.entries here there known (sym c.alike_at_bound.ensures ∙ w.if-alike_at_bound.false))
      ],
    )
