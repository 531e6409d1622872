use Rattle.std.proofs.Common.{◌*◌, ◌≤◌}
use Rattle.trial.proofs.main.Given as goal

abbrev pub invariant-loop : goal.invariant-loop
invariant-loop l = (l.tally.pairs ≤ 24 * l.counter) × (l.tally.machines ≤ l.counter)
