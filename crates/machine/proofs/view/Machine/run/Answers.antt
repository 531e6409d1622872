use Rattle.std.proofs.Common.{get_or, sym, refl, ap, ◌∙◌}
use Rattle.machine.specs.Machine.{after, move}
use Rattle.machine.specs.Run.{model}
use Rattle.machine.proofs.Runs.{after_more}
use Rattle.machine.proofs.view.Machine.run.Goals as goal

pub loop-key-init : goal.loop-key-init
unfolding after
loop-key-init c = refl

pub loop-key-preserved : goal.loop-key-preserved
loop-key-preserved c =
    let m = model c.args.self in
    c.next-reached.ensures.value
    ∙ ap (λ s. (move m s (get_or c.args.word.now c.loop-key.key-index 0)).to) c.loop-key.invariant
    ∙ sym (after_more m c.args.state c.args.word.now c.loop-key.key-index c.loop-key-test.true)
