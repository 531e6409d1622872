use Rattle.std.proofs.Common.{◌*◌, ap, arith}
use Rattle.machine.specs.Machine.{Move}
use Rattle.machine.specs.Run.{model, keys_of}
use Rattle.machine.proofs.Views.{view_proper}
use Rattle.survivor.proofs.Layers.{layer_low}
use Rattle.survivor.proofs.Survivors.{length_survivor, survivor_at}
use Rattle.survivor.proofs.making.CountedComputed.step.Goals as goal

pub nonzero_rem-state : goal.nonzero_rem-state
nonzero_rem-state c = let s = (view_proper c.args.self.now.machine).some in let e = c.states-own.ensures in omega arith

pub returns-clause-to : goal.returns-clause-to
returns-clause-to c =
    let v = c.args.self.now in
    let m = model v.machine in
    let proper = view_proper v.machine in
    let inside = c.requires.state_within in
    let n = length_survivor (keys_of v.machine) m v.longest proper in
    let to = ap (λ (a : Move). a.to) (survivor_at (keys_of v.machine) m v.longest proper c.args.state c.args.key (omega arith) c.requires.key_within) in
    let own = c.states-own.ensures in
    let layer = c.min-layer.ensures in
    let next = c.step-step.ensures.to in
    cc

pub returns-clause-output : goal.returns-clause-output
returns-clause-output c =
    let v = c.args.self.now in
    let m = model v.machine in
    let proper = view_proper v.machine in
    let inside = c.requires.state_within in
    let n = length_survivor (keys_of v.machine) m v.longest proper in
    let output = ap (λ (a : Move). a.output) (survivor_at (keys_of v.machine) m v.longest proper c.args.state c.args.key (omega arith) c.requires.key_within) in
    let own = c.states-own.ensures in
    let shown = c.shown.ensures in
    let here = c.step-step.ensures.output in
    cc

pub overflow_add-result : goal.overflow_add-result
overflow_add-result c =
    let v = c.args.self.now in
    let low = layer_low (keys_of v.machine) (model v.machine) v.longest (view_proper v.machine) c.requires.writable c.min-layer.result (let e = c.min-layer.ensures in omega arith) in
    let e = ap (λ n. c.min-layer.result * n) c.states-own.ensures in
    let next = c.step-step.ensures.inside in
    omega arith
