use Rattle.std.proofs.Common.{◌≡◌}
use Rattle.cover.specs.Words.{words_of}
use Rattle.suite.specs.Enumeration.{Fed}
use Rattle.suite.specs.Factors.{ends_in}
use Rattle.suite.specs.Kept.{kept_behind}
use Rattle.suite.proofs.factors.Factors.each_behind.Given as goal

abbrev pub invariant-loop-between : goal.invariant-loop-between
invariant-loop-between g l =
    record {
      fed : Fed g.S.Sink.step (kept_behind l.self.keys l.self.extra (ends_in l.self) (words_of l.earlier) (l.own) l.between) l.initial.sink l.sink;
      stays : l.test.items ≡ l.own;
    }
