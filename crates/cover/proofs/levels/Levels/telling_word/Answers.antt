use Rattle.std.proofs.Common.{sym, ap, ◌∙◌, is_some}
use Rattle.machine.specs.Run.{model}
use Rattle.cover.proofs.Greedy.{turn_starts, turn_key, turn_goes}
use Rattle.cover.proofs.levels.Levels.telling_word.Goals as goal

pub loop-low-init : goal.loop-low-init
loop-low-init c =
    let self = c.args.self.now in
    let r = c.requires in
    turn_starts self.machine.keys (model self.machine) c.args.t c.args.s r.first r.second r.apart (c.at-low.ensures ∙ rw r.complete at (self.known _ _ r.first r.second)) c.new-word.ensures

pub unwrap-key-requires : goal.unwrap-key-requires
unwrap-key-requires c = ap is_some c.first_key.ensures ∙ turn_key c.loop-low-test.true c.loop-low.invariant

pub loop-low-preserved : goal.loop-low-preserved
loop-low-preserved c =
    turn_goes c.loop-low-test.true c.loop-low.invariant (sym c.first_key.ensures ∙ c.unwrap-key.ensures)
    c.next-p.ensures.value c.next-q.ensures.value c.next-p.ensures.inside c.next-q.ensures.inside c.push.ensures
