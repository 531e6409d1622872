use Rattle.std.proofs.Common.{◌≡◌, ◌-◌}
use Rattle.machine.specs.Run.{model, keys_of}
use Rattle.minimal.specs.Levels.{AtLevel}
use Rattle.minimal.proofs.classes.Classes.of_equivalent.Given as goal

abbrev pub invariant-loop-round : goal.invariant-loop-round
invariant-loop-round l = (l.classes.machine ≡ l.machine) × AtLevel (keys_of l.machine) (model l.machine) (l._round - 1) l.classes.of
