use Rattle.std.proofs.Common.{◌≡◌}
use Rattle.cover.proofs.levels.Levels.of.Given as goal

abbrev pub invariant-loop : goal.invariant-loop
invariant-loop l = (l.levels.machine ≡ l.machine) × (l.levels.bound ≡ l.counter)
