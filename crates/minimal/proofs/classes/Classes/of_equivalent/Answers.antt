use Rattle.std.proofs.Common.{◌≡◌, ◌+◌, ◌-◌, length, sym, ◌∙◌, arith}
use Rattle.machine.specs.Run.{model, keys_of}
use Rattle.machine.proofs.Views.{view_proper}
use Rattle.minimal.specs.Levels.{AtLevel}
use Rattle.minimal.proofs.Refined.{class_zero, level_equivalence}
use Rattle.minimal.proofs.classes.Classes.of_equivalent.Goals as goal

pub loop-round-init : goal.loop-round-init
loop-round-init c = (
  c.together-classes.ensures.machine,
  λ s h. c.together-classes.ensures.one s ∙ sym (class_zero (keys_of c.args.machine) (model c.args.machine) s),
)

pub loop-round-preserved : goal.loop-round-preserved
loop-round-preserved c =
    let same = c.loop-round.invariant.0 in
    let next : c.loop-round._round - 1 + 1 ≡ c.loop-round._round + 1 - 1 = (let a = c.loop-round.auto in omega arith) in (
      c.refined-classes.ensures.machine ∙ same,
      rw (← next) (rw same at (c.refined-classes.ensures.level (c.loop-round._round - 1)) c.loop-round.invariant.1),
    )

pub returns : goal.returns
returns c =
    let m = c.args.machine in
    let some = (view_proper m).some in
    let last : c.loop-round._round ≡ length (model m) = (let a = c.loop-round.auto in omega arith) in
    let level : AtLevel (keys_of m) (model m) (length (model m) - 1) c.loop-round.classes.of = λ s h. rw last at (c.loop-round.invariant.1 s h) in
    record {
      machine = c.loop-round.invariant.0;
      level = level;
      equivalence = level_equivalence (view_proper m) (length (model m) - 1) c.loop-round.classes.of level (omega arith);
    }
