use Rattle.std.proofs.Common.{◌≡◌, [], length, replicate}
use Rattle.machine.specs.Items.{items}
use Rattle.cover.specs.Words.{words_of}
use Rattle.cover.proofs.reaching.unreached.Given as goal

abbrev pub invariant-loop : goal.invariant-loop
invariant-loop l = (length (items l.words) ≡ l.counter) × (words_of (items l.words) ≡ replicate l.counter [])
