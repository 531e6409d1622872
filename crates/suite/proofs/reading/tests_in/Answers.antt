use Rattle.std.proofs.Common.{length, ap, ◌∙◌, arith}
use Rattle.suite.proofs.Read.{from_few, tests_nothing, tests_first, tests_written, tests_placed, none_placed}
use Rattle.suite.proofs.reading.tests_in.Goals as goal

pub returns-in-Some-clause-yields : goal.returns-in-Some-clause-yields
returns-in-Some-clause-yields c = tests_first c.args.row.now c.in-Some.rest.now c.in-Some.count.now c.in-Some.ensures.cases.0

pub returns-in-Some-clause-places : goal.returns-in-Some-clause-places
returns-in-Some-clause-places c = tests_placed c.args.row.now c.in-Some.rest.now c.in-Some.count.now c.in-Some.ensures.cases.0

pub returns-in-Some-clause-few : goal.returns-in-Some-clause-few
returns-in-Some-clause-few c = let e = c.in-Some.ensures.cases.0 in omega (arith, from_few c.in-Some.count.now c.in-Some.rest.now, ap length e)

pub returns-in-Some-clause-written : goal.returns-in-Some-clause-written
returns-in-Some-clause-written c ts behind written = tests_first c.args.row.now c.in-Some.rest.now c.in-Some.count.now c.in-Some.ensures.cases.0 ∙ tests_written c.args.row.now ts behind written

pub returns-in-None-clause-yields : goal.returns-in-None-clause-yields
returns-in-None-clause-yields c = tests_nothing c.args.row.now c.in-None.ensures.cases

pub returns-in-None-clause-places : goal.returns-in-None-clause-places
returns-in-None-clause-places c = none_placed c.args.row.now c.in-None.ensures.cases

pub returns-in-None-clause-few : goal.returns-in-None-clause-few
returns-in-None-clause-few c = omega (arith, from_few 0 c.args.row.now)
