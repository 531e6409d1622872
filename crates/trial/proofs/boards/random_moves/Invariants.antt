use Rattle.std.proofs.Common.{◌≡◌, vec_len}
use Rattle.trial.proofs.boards.random_moves.Given as goal

abbrev pub invariant-loop : goal.invariant-loop
invariant-loop l = vec_len l.moves ≡ l.counter
