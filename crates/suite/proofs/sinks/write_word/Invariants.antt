use Rattle.std.proofs.Common.{◌≡◌, suc, ◌+◌, ◌∷◌, ◌++◌, length, take, drop}
use Rattle.suite.proofs.sinks.write_word.Given as goal

abbrev pub invariant-loop-i : goal.invariant-loop-i
invariant-loop-i l =
    record {
      written : take (l.at + 1 + l.i) l.row ≡ take l.at l.fn.row ++ (length l.word ∷ take l.i l.word);
      rest : drop (l.at + suc (length l.word)) l.row ≡ drop (l.at + suc (length l.word)) l.fn.row;
    }
