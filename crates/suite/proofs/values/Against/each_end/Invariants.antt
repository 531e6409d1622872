use Rattle.std.proofs.Common.{◌≡◌, take}
use Rattle.cover.specs.Words.{words_of}
use Rattle.suite.specs.Enumeration.{Fed, fresh_of}
use Rattle.suite.proofs.values.Against.each_end.Given as goal

abbrev pub invariant-loop-end : goal.invariant-loop-end
invariant-loop-end g l =
    record {
      fed : Fed g.S.Sink.step (fresh_of l.self l.initial.test.items (take l.end-index (words_of l.self.ends.now))) l.initial.sink l.sink;
      stays : l.test.items ≡ l.initial.test.items;
    }
