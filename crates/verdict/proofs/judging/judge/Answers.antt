use Rattle.std.proofs.Common.{[], refl, inl, arith}
use Rattle.std.proofs.lemmas.Result.{err_from_is_err_and}
use Rattle.machine.specs.Row.{machine_in}
use Rattle.suite.specs.Answer.{made}
use Rattle.verdict.proofs.Answered.{answered}
use Rattle.verdict.proofs.Taken.{begun, all_taken}
use Rattle.verdict.proofs.judging.judge.Goals as goal

pub returns-in_err-specification : goal.returns-in_err-specification
returns-in_err-specification c =
    let p = err_from_is_err_and c.from_residual.result c.from_residual.ensures.1 in
    rw (p.1, p.2) (inl c.in_err-specification.ensures)

pub returns : goal.returns
returns c =
    let row = c.args.row.now in
    let e = c.args.extra in
    let shown = c.args.shown.now in
    let told = c.in_ok-specification.ensures.0 in
    let is = c.in_ok-specification.ensures.1 in
    let start = begun (machine_in row) (made row e) shown _ is.machine refl refl refl refl in
    let fed = simp (is.machine, is.keys, is.extra) at c.each_test.ensures.fed in
    let few = simp (is.machine, is.keys, is.extra) at c.each_test.ensures.few in
    answered row e shown told _ (all_taken (machine_in row) (made row e) shown (made row e) 0 [] _ _ refl refl (omega arith) start fed) _ c.conclude.ensures
