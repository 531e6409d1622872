use Rattle.std.proofs.Common.{refl, ap, ◌∙◌}
use Rattle.std.proofs.lemmas.Result.{err_from_is_err_and}
use Rattle.machine.specs.Run.{model, keys_of}
use Rattle.minimal.proofs.Known.{known_minimal}
use Rattle.suite.specs.Answer.{not_minimal, too_many_extra}
use Rattle.suite.proofs.writing.prepare.Goals as goal

pub returns-in_err-machine : goal.returns-in_err-machine
returns-in_err-machine c =
    let p = err_from_is_err_and c.from_residual-in_err-machine.result c.from_residual-in_err-machine.ensures.1 in
    let read = c.in_ok-read.ensures in
    let told = c.in_err-machine.ensures in
    rw (p.1, p.2) (not_minimal read.accepted told.0 (simp (read.machine, read.keys) at told.1) told.2)

pub returns-then-extra-gt-MOST_EXTRA : goal.returns-then-extra-gt-MOST_EXTRA
returns-then-extra-gt-MOST_EXTRA c =
    let read = c.in_ok-read.ensures in
    let same = c.in_ok-machine.ensures in
    let minimal = simp (same, read.machine, read.keys) at (known_minimal c.in_ok-machine.machine) in
    too_many_extra read.accepted minimal c.if-extra-gt-MOST_EXTRA.true refl

pub returns : goal.returns
returns c =
    let read = c.in_ok-read.ensures in
    let same = c.in_ok-machine.ensures in
    let minimal = simp (same, read.machine, read.keys) at (known_minimal c.in_ok-machine.machine) in (
      record { accepted = read.accepted; minimal = minimal; few_extra = c.if-extra-gt-MOST_EXTRA.false },
      record { machine = ap model same ∙ read.machine; keys = ap keys_of same ∙ read.keys; extra = refl },
    )
