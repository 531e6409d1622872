use Rattle.std.proofs.Common.{◌≡◌, ◌+◌, ◌≤◌, length, refl, ap, arith, length-set, rules}
use Rattle.machine.specs.declared.refusals.Refusal.TheVariants.{NoRoomForTests}
use Rattle.suite.specs.Factors.{made_of}
use Rattle.suite.specs.Written.{room_for}
use Rattle.suite.proofs.TestsRow.{tallied, tests_less, written_name, written_row}
use Rattle.suite.proofs.rows.write_suite.Goals as goal

pub returns-then-tally-out : goal.returns-then-tally-out
returns-then-tally-out c =
    let n = (tallied (made_of c.args.factors.now) _ c.each_test.new.sink (omega arith) (omega arith) c.each_test.ensures).1 in
    let h = c.if-tally-out.true in
    let m = c.min.ensures in
    (omega arith, ap NoRoomForTests (omega arith), refl)

pub bounds-out-0 : goal.bounds-out-0
bounds-out-0 c =
    let n = (tallied (made_of c.args.factors.now) _ c.each_test.new.sink (omega arith) (omega arith) c.each_test.ensures).1 in
    let h = c.if-tally-out.false in
    omega arith

pub returns : goal.returns
returns c =
    let ts = made_of c.args.factors.now in
    let n = tallied ts _ c.each_test.new.sink (omega arith) (omega arith) c.each_test.ensures in
    let h = c.if-tally-out.false in
    let tests = n.0 in
    let numbers = n.1 in
    let less = tests_less ts in
    let fits : 1 + room_for ts ≤ length c.args.out.now = omega arith in
    let count : c.each_test.new.sink.tests ≡ length ts = omega arith in
    let row = written_row ts c.args.out.now c.each_test.new.sink.tests _ c.each_test-2.new.sink c.each_test-2.ensures refl refl count fits in
    let same = written_name ts _ c.each_test-2.new.sink c.each_test-2.ensures (omega (arith, length-set c.args.out.now 0 c.each_test.new.sink.tests)) in
    (fits, count, search rules)
