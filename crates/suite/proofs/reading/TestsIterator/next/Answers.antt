use Rattle.std.proofs.Common.{length, ap, arith}
use Rattle.suite.proofs.Read.{from_nothing, from_none, from_first}
use Rattle.suite.proofs.reading.TestsIterator.next.Goals as goal

pub returns-then-self-eq0-clause-steps : goal.returns-then-self-eq0-clause-steps
returns-then-self-eq0-clause-steps c = let e = from_none c.args.self.now.left c.args.self.now.rest.now c.if-self-eq0.true in (e, e)

pub returns-in_err-length-clause-steps : goal.returns-in_err-length-clause-steps
returns-in_err-length-clause-steps c = let e = from_nothing c.args.self.now.left c.args.self.now.rest.now c.in_err-length.ensures.cases in rw c.from_residual.ensures (e, e)

pub returns-clause-steps : goal.returns-clause-steps
returns-clause-steps c =
    from_first c.args.self.now.left c.in_ok-length.length.now c.args.self.now.rest.now c.in_ok-length.behind.now c.split_at.result.0.now c.split_at.result.1.now c.if-self-eq0.false
    c.in_ok-length.ensures.cases.0 (rw (← c.min.ensures) c.split_at.ensures.front) (rw (← c.min.ensures) c.split_at.ensures.back)

pub returns-clause-goes : goal.returns-clause-goes
returns-clause-goes c =
    let first = from_first c.args.self.now.left c.in_ok-length.length.now c.args.self.now.rest.now c.in_ok-length.behind.now c.split_at.result.0.now c.split_at.result.1.now c.if-self-eq0.false
    c.in_ok-length.ensures.cases.0 (rw (← c.min.ensures) c.split_at.ensures.front) (rw (← c.min.ensures) c.split_at.ensures.back) in
    record { on = λ finite. (tt, tt, omega (arith, ap length first)); keeps = tt; rests = λ finite. tt }
