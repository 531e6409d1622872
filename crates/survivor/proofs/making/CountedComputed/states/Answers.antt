use Rattle.std.proofs.Common.{◌+◌, ◌*◌, sym, ap, ◌∙◌, arith}
use Rattle.machine.specs.Run.{model, keys_of}
use Rattle.machine.proofs.Views.{view_proper}
use Rattle.survivor.proofs.Layers.{states_low, longest_low}
use Rattle.survivor.proofs.Survivors.{length_survivor}
use Rattle.survivor.proofs.making.CountedComputed.states.Goals as goal

pub overflow_add-result : goal.overflow_add-result
overflow_add-result c = let v = c.args.self.now in omega (arith, longest_low (keys_of v.machine) (model v.machine) v.longest (view_proper v.machine) c.requires)

pub overflow_mul-result : goal.overflow_mul-result
overflow_mul-result c =
    let v = c.args.self.now in
    let low = states_low (keys_of v.machine) (model v.machine) v.longest (view_proper v.machine) c.requires in
    let e = ap (λ n. (v.longest + 1) * n) c.states.ensures in
    omega arith

pub returns : goal.returns
returns c =
    let v = c.args.self.now in
    ap (λ n. (v.longest + 1) * n) c.states.ensures ∙ sym (length_survivor (keys_of v.machine) (model v.machine) v.longest (view_proper v.machine))
