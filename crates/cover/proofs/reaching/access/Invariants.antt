use Rattle.machine.specs.Items.{items}
use Rattle.machine.specs.Run.{model, keys_of}
use Rattle.cover.specs.Words.{words_of}
use Rattle.cover.proofs.Reached.{Placed}
use Rattle.cover.proofs.reaching.access.Given as goal

abbrev pub invariant-loop-j : goal.invariant-loop-j
invariant-loop-j l = Placed (keys_of l.m.machine) (model l.m.machine) l.tree l.j (words_of (items l.words))
