use Rattle.std.proofs.Common.{◌≡◌, ℕ, ◌+◌, ◌*◌, ◌<◌, false, None}
use Rattle.machine.specs.Refusals.{bad_move}
use Rattle.machine.proofs.reading.first_bad_move.Given as goal

abbrev pub invariant-loop-key : goal.invariant-loop-key
invariant-loop-key l = (l.bad ≡ None) × (l.state < l.shape.states) × ((j : ℕ) → j < l.state * l.shape.keys + l.key → bad_move l.row j ≡ false)

abbrev pub invariant-scan : goal.invariant-scan
invariant-scan l = (l.bad ≡ None) × ((j : ℕ) → j < l.state * l.shape.keys → bad_move l.row j ≡ false)
