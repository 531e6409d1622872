use Rattle.std.proofs.Common.{sym, ◌∙◌, arith}
use Rattle.machine.specs.Run.{model}
use Rattle.machine.proofs.Differences.{difference_inside}
use Rattle.verdict.proofs.judging.after_test.Goals as goal

pub offset_bounds-shown-difference : goal.offset_bounds-shown-difference
offset_bounds-shown-difference c =
    let low = difference_inside (model c.args.m) c.args.test.now c.args.shown.now _ (sym c.first_difference.ensures ∙ c.in-Some.is) in
    let same = c.requires in
    omega arith

pub bounds-shown-difference : goal.bounds-shown-difference
bounds-shown-difference c =
    let low = difference_inside (model c.args.m) c.args.test.now c.args.shown.now _ (sym c.first_difference.ensures ∙ c.in-Some.is) in
    let same = c.requires in
    omega arith
