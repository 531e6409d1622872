use Rattle.std.proofs.Common.{◌≡◌, ◌+◌, ◌*◌}
use Rattle.trial.proofs.compare_boards.Given as goal

abbrev pub invariant-loop : goal.invariant-loop
invariant-loop l = (l.tally.pairs ≡ l.fn.tally.pairs + 3 * l.counter) × (l.tally.machines ≡ l.fn.tally.machines)

abbrev pub invariant-loop-extra : goal.invariant-loop-extra
invariant-loop-extra l = (l.tally.pairs ≡ l.fn.tally.pairs + 3 * l.counter + l.extra) × (l.tally.machines ≡ l.fn.tally.machines)
