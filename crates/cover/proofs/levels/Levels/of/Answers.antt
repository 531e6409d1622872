use Rattle.std.proofs.Common.{arith}
use Rattle.machine.proofs.Views.{view_proper}
use Rattle.cover.proofs.levels.Levels.of.Goals as goal

pub returns : goal.returns
returns c =
    let some = (view_proper c.args.machine).some in
    let e = c.states-end.ensures in
    let l = c.loop-test.false in
    let b = c.loop.invariant.1 in
    let k = c.loop.auto.counter-end (omega arith) in
    (c.loop.invariant.0, omega arith)
