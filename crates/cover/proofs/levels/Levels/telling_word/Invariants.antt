use Rattle.machine.specs.Run.{model, keys_of}
use Rattle.cover.specs.Words.{word_of}
use Rattle.cover.proofs.Greedy.{Turn}
use Rattle.cover.proofs.levels.Levels.telling_word.Given as goal

abbrev pub invariant-loop-low : goal.invariant-loop-low
invariant-loop-low l = Turn (keys_of l.self.machine) (model l.self.machine) l.t l.s l.low l.p l.q (word_of l.word)
