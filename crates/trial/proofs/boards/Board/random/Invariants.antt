use Rattle.std.proofs.Common.{◌≡◌, All, vec_len}
use Rattle.trial.proofs.boards.Board.random.Given as goal

abbrev pub invariant-loop : goal.invariant-loop
invariant-loop l = (vec_len l.all ≡ l.counter) × All (λ moves. vec_len moves ≡ l.keys) l.all.items
