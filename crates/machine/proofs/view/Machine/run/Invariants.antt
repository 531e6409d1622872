use Rattle.std.proofs.Common.{◌≡◌, take}
use Rattle.machine.specs.Machine.{after}
use Rattle.machine.specs.Run.{model}
use Rattle.machine.proofs.view.Machine.run.Given as goal

abbrev pub invariant-loop-key : goal.invariant-loop-key
invariant-loop-key l = l.reached ≡ after (model l.self) l.state (take l.key-index l.word)
