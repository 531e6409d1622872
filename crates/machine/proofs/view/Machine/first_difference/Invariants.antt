use Rattle.std.proofs.Common.{◌≡◌, ℕ, ◌<◌, false, take}
use Rattle.machine.specs.Machine.{outputs, after}
use Rattle.machine.specs.Run.{model, differs_at}
use Rattle.machine.proofs.view.Machine.first_difference.Given as goal

abbrev pub invariant-loop-i : goal.invariant-loop-i
invariant-loop-i l = (l.state ≡ after (model l.self) 0 (take l.i l.word)) × ((j : ℕ) → j < l.i → differs_at (outputs (model l.self) 0 l.word) l.seen j ≡ false)
