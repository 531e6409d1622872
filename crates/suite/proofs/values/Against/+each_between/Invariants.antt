use Rattle.std.proofs.Common.{◌≡◌, ◌-◌}
use Rattle.cover.specs.Words.{words_of}
use Rattle.machine.specs.Words.{products, single_keys, of_length}
use Rattle.suite.specs.Enumeration.{Fed, fresh_of}
use Rattle.suite.proofs.values.Against.+each_between.Given as goal

abbrev pub decreases-each_between : goal.decreases-each_between
decreases-each_between g l = l.left

abbrev pub invariant-loop-key : goal.invariant-loop-key
invariant-loop-key g l =
    record {
      fed : Fed g.S.Sink.step (fresh_of l.self l.initial.test.items (products (products (single_keys l.key) (of_length l.self.keys (l.left - 1))) (words_of l.self.ends.now))) l.initial.sink l.sink;
      stays : l.test.items ≡ l.initial.test.items;
    }
