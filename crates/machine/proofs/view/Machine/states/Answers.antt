use Rattle.std.proofs.Common.{sym}
use Rattle.machine.proofs.Views.{view_states}
use Rattle.machine.proofs.view.Machine.states.Goals as goal

pub returns : goal.returns
returns c = sym (view_states c.args.self)
