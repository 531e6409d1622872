use Rattle.std.proofs.Common.{arith}
use Rattle.machine.proofs.Views.{few_states}
use Rattle.minimal.proofs.classes.Classes.behind.Goals as goal

pub offset_bounds-self-next : goal.offset_bounds-self-next
offset_bounds-self-next c = let a = c.next.ensures.inside in omega (arith, few_states c.args.self.machine)

pub bounds-self-next : goal.bounds-self-next
bounds-self-next c = let a = c.next.ensures.inside in omega (arith, few_states c.args.self.machine)
