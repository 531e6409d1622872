use Rattle.std.proofs.Common.{◌≡◌, suc, ◌-◌, arith}
use Rattle.std.proofs.lemmas.Bool.Decides.{nat_tests}
use Rattle.machine.specs.Run.{model}
use Rattle.cover.proofs.Telling.{key_there}
use Rattle.cover.proofs.levels.Levels.alike_at_bound.Goals as goal

pub returns : goal.returns
returns c =
    let m = c.args.self.now.machine in
    let above : c.args.self.now.bound ≡ suc (c.args.self.now.bound - 1) = (let some = c.args.self.now.some in omega arith) in
    let e = key_there m.keys (model m) (c.args.self.now.bound - 1) c.args.s c.args.t in
    let r = c.first_key.ensures in
    let i = c.is_none.ensures in
    rw above (grind (arith, nat_tests))
