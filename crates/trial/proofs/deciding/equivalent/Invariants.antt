use Rattle.std.proofs.Common.{◌+◌, ◌*◌, ◌≤◌, vec_len}
use Rattle.std.specs.BTreeSet.{btree_set_len}
use Rattle.trial.proofs.deciding.equivalent.Given as goal

abbrev pub invariant-loop-here : goal.invariant-loop-here
invariant-loop-here l = 2 * btree_set_len l.unreached + vec_len l.waiting ≤ 2 * btree_set_len l.initial.unreached + vec_len l.initial.waiting

-- a pair that is reached for the first time is taken from those not reached, and waits
abbrev pub decreases-loop-s : goal.decreases-loop-s
decreases-loop-s l = 2 * btree_set_len l.unreached + vec_len l.waiting
