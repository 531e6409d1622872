use Rattle.std.proofs.Common.{◌<◌, length}
use Rattle.machine.specs.Items.{items}
use Rattle.machine.specs.Run.{model, keys_of}
use Rattle.cover.proofs.Collected.{KeptTo}
use Rattle.cover.proofs.collecting.separating.Given as goal

abbrev pub invariant-loop-s : goal.invariant-loop-s
invariant-loop-s l = KeptTo (keys_of l.m.machine) (model l.m.machine) l.s 0 (items l.words)

abbrev pub invariant-pairs : goal.invariant-pairs
invariant-pairs l = (l.s < length (model l.m.machine)) × KeptTo (keys_of l.m.machine) (model l.m.machine) l.s l.t (items l.words)
