use Rattle.std.proofs.Common.{ℕ, ◌<◌}
use Rattle.machine.specs.Run.{model, keys_of}
use Rattle.minimal.proofs.Needed.{Needed}
use Rattle.minimal.proofs.redundancy.redundant.Given as goal

abbrev pub invariant-loop-state : goal.invariant-loop-state
invariant-loop-state l = (s : ℕ) → s < l.state → Needed (keys_of l.m) (model l.m) s
