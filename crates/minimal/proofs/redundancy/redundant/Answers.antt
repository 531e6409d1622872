use Rattle.std.proofs.Common.{◌<◌, length, sym, ◌∙◌, arith, below_more}
use Rattle.machine.specs.Run.{model}
use Rattle.machine.proofs.First.{none_from_test, some_from_test}
use Rattle.machine.proofs.Views.{few_states}
use Rattle.minimal.specs.Levels.{class_in}
use Rattle.minimal.proofs.Needed.{needed_state, needed_minimal, needed_not_redundant, redundant_class, redundant_place}
use Rattle.minimal.proofs.redundancy.redundant.Goals as goal
use Rattle.minimal.proofs.redundancy.redundant.Goals.{then-classes-state-via-then-classes-state, then-classes-state-via-else-classes-state+then-is_none}

pub offset_bounds-classes-state : goal.offset_bounds-classes-state
offset_bounds-classes-state c = omega (arith, few_states c.args.m)

pub bounds-classes-state : goal.bounds-classes-state
bounds-classes-state c = omega (arith, few_states c.args.m)

pub returns-then-classes-state : goal.returns-then-classes-state
returns-then-classes-state c =
    let inside : c.loop-state.state < length (model c.args.m) = omega arith in
    let of = c.of_equivalent-classes.ensures.equivalence in
    let class = class_in c.of_equivalent-classes.result.of in
    record {
      inside = inside;
      redundant = elim c.then-classes-state.branch [
        | then-classes-state-via-then-classes-state w ↦ redundant_class class of c.reach-tree.result c.reach-tree.ensures c.loop-state.state inside w.if-classes-state.true
        | then-classes-state-via-else-classes-state+then-is_none w ↦
            redundant_place class of c.reach-tree.result c.reach-tree.ensures c.loop-state.state inside (sym w.find.ensures ∙ none_from_test _ w.if-is_none.ensures)
      ];
      smallest = λ t l. needed_not_redundant t (c.loop-state.invariant t l);
    }

pub loop-state-preserved : goal.loop-state-preserved
loop-state-preserved c =
    let inside : c.loop-state.state < length (model c.args.m) = omega arith in
    let some = some_from_test _ c.if-is_none.ensures in
    below_more _ _ c.loop-state.invariant
    (needed_state (class_in c.of_equivalent-classes.result.of) c.of_equivalent-classes.ensures.equivalence c.reach-tree.result c.reach-tree.ensures c.loop-state.state
    inside c.if-classes-state.false some.0 (sym c.find.ensures ∙ some.1))

pub returns : goal.returns
returns c = needed_minimal (λ s h. c.loop-state.invariant s (omega arith))
