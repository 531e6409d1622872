use Rattle.suite.specs.Factors.{ends_in}
use Rattle.suite.specs.Kept.{kept_from}
use Rattle.suite.proofs.Feeding.{fed_none, fed_then}
use Rattle.suite.proofs.Levels.{front_more}
use Rattle.suite.proofs.factors.Factors.each_test.Goals as goal

pub loop-i-init : goal.loop-i-init
unfolding kept_from
loop-i-init g c = fed_none g.S.Sink.step c.args.sink.now

pub loop-i-preserved : goal.loop-i-preserved
loop-i-preserved g c =
    let f = c.args.self.now in
    let more = front_more f.keys f.extra (ends_in f) f.fronts.now c.loop-i.i c.index-fronts-i.result c.loop-i-test.true c.index-fronts-i.is in
    fed_then g.S.Sink.step _ _ _ c.args.sink.now c.loop-i.sink c.each_behind.new.sink more c.loop-i.invariant c.each_behind.ensures
