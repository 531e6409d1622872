use Rattle.std.proofs.Common.{◌≡◌, refl, inl}
use Rattle.std.proofs.lemmas.Result.{err_from_is_err_and}
use Rattle.suite.specs.Answer.{made}
use Rattle.suite.specs.Factors.{made_of}
use Rattle.suite.proofs.Tested.{answered}
use Rattle.suite.proofs.writing.write_tests.Goals as goal

pub returns-in_err-specification : goal.returns-in_err-specification
returns-in_err-specification c =
    let p = err_from_is_err_and c.from_residual.result c.from_residual.ensures.1 in
    rw (p.1, p.2) (inl c.in_err-specification.ensures, refl)

pub returns : goal.returns
returns c =
    let told = c.in_ok-specification.ensures.0 in
    let s = c.in_ok-specification.ensures.1 in
    let same : made_of c.factors.result ≡ made c.args.row.now c.args.extra = rw (c.factors.ensures.made, s.machine, s.keys, s.extra) refl in
    answered c.args.row.now c.args.extra c.args.out.now told c.write_suite.result c.write_suite.new.out (rw same at c.write_suite.ensures)
