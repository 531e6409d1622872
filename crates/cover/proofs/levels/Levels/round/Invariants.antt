use Rattle.std.proofs.Common.{◌+◌, ◌*◌, ◌<◌, length}
use Rattle.machine.specs.Run.{model, keys_of}
use Rattle.cover.proofs.Entries.{Filled}
use Rattle.cover.proofs.levels.Levels.round.Given as goal

abbrev pub invariant-loop-s : goal.invariant-loop-s
invariant-loop-s l = Filled (keys_of l.self.machine) (model l.self.machine) l.self.bound (16 * l.s) l.entries

abbrev pub invariant-loop-t : goal.invariant-loop-t
invariant-loop-t l = (l.s < length (model l.self.machine)) × Filled (keys_of l.self.machine) (model l.self.machine) l.self.bound (16 * l.s + l.t) l.entries
