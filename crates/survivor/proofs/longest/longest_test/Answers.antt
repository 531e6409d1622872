use Rattle.std.proofs.Common.{◌≡◌, max, length, ap, ◌∙◌, arith}
use Rattle.suite.specs.Reading.{tests_left}
use Rattle.survivor.specs.Longest.{longest_of, tests_in}
use Rattle.survivor.proofs.Lengths.{longest_padded, longest_more, longest_none}
use Rattle.survivor.proofs.longest.longest_test.Goals as goal

pub loop-test-preserved : goal.loop-test-preserved
loop-test-preserved c =
    let before : max c.loop-test.longest (longest_of (tests_left c.loop-test.test-iterator)) ≡ longest_of (tests_left c.into_iter-test-iterator.result) = c.loop-test.invariant in
    let more = ap longest_of c.in-Some.ensures.steps ∙ longest_more c.in-Some.test.now (tests_left c.next.new.self) in
    let longer : c.max-longest.result ≡ max c.loop-test.longest (length c.in-Some.test.now) = c.max-longest.ensures in
    let after : max c.max-longest.result (longest_of (tests_left c.next.new.self)) ≡ longest_of (tests_left c.into_iter-test-iterator.result) = omega arith in
    after

pub returns : goal.returns
returns c =
    let all : max c.loop-test.longest (longest_of (tests_left c.loop-test.test-iterator)) ≡ longest_of (tests_left c.into_iter-test-iterator.result) = c.loop-test.invariant in
    let none = ap longest_of c.in-None.ensures.steps.0 ∙ longest_none in
    let places = c.tests_in-test-items.ensures.places in
    let row : longest_of (tests_in c.args.tests.now) ≡ longest_of (tests_left c.tests_in-test-items.result) = ap longest_of places.1 ∙ longest_padded (tests_left c.tests_in-test-items.result) places.0 in
    let same = ap (λ i. longest_of (tests_left i)) c.into_iter-test-iterator.ensures.into_iter_gives in
    omega arith
