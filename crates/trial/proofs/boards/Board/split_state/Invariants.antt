use Rattle.std.proofs.Common.{◌≡◌, All, vec_len}
use Rattle.trial.proofs.boards.Board.split_state.Given as goal

abbrev pub invariant-loop-moves : goal.invariant-loop-moves
invariant-loop-moves l = All (λ moves. vec_len moves ≡ l.fn.self.keys) l.moves-items
