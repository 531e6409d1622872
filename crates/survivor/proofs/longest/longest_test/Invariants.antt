use Rattle.std.proofs.Common.{◌≡◌, max}
use Rattle.suite.specs.Reading.{tests_left}
use Rattle.survivor.specs.Longest.{longest_of}
use Rattle.survivor.proofs.longest.longest_test.Given as goal

-- the longest of the tests so far and of those that are left is the longest of all
abbrev pub invariant-loop-test : goal.invariant-loop-test
invariant-loop-test l = max l.longest (longest_of (tests_left l.test-iterator)) ≡ longest_of (tests_left l.initial.test-iterator)
