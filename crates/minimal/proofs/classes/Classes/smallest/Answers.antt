use Rattle.std.proofs.Common.{ap, inl, inr, arith, below_more}
use Rattle.machine.specs.Run.{model}
use Rattle.minimal.specs.Levels.{class_in}
use Rattle.minimal.proofs.Refined.{finer_is, finer_itself, other_output, other_class}
use Rattle.minimal.proofs.classes.Classes.smallest.Goals as goal

pub others-preserved : goal.others-preserved
others-preserved c =
    let m = model c.args.self.machine in
    let of = c.args.self.of in
    below_more _ _ c.loop-key.invariant.0 (
      c.loop-key.key,
      omega arith,
      elim c.if-not-same_class.either [
        | inl a ↦ other_class m of c.others.other c.args.state c.loop-key.key _ _ (ap (class_in of) c.step-there.ensures.to) (ap (class_in of) c.step-here.ensures.to) a.1
        | inr b ↦ other_output m of c.others.other c.args.state c.loop-key.key _ _ c.step-there.ensures.output c.step-here.ensures.output b
      ],
    )

pub returns-in-others : goal.returns-in-others
returns-in-others c = finer_is _ _ _ _ _ c.others-test.true (λ x l. c.loop-key.invariant.1 x (omega arith)) c.loop-key.invariant.0

pub returns : goal.returns
returns c = finer_itself _ _ _ _ (λ u l. c.others.invariant u (omega arith))
