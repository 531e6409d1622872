use Rattle.std.proofs.Common.{take}
use Rattle.cover.specs.Words.{words_of}
use Rattle.suite.specs.Enumeration.{Fed}
use Rattle.suite.specs.Factors.{ends_in}
use Rattle.suite.specs.Kept.{kept}
use Rattle.suite.proofs.factors.Factors.each_test.Given as goal

abbrev pub invariant-loop-i : goal.invariant-loop-i
invariant-loop-i g l = Fed g.S.Sink.step (kept l.self.keys l.self.extra (take l.i (words_of l.fronts)) (ends_in l.self)) l.initial.sink l.sink
