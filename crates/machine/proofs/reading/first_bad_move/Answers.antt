use Rattle.std.proofs.Common.{◌≡◌, sym, ◌∙◌, arith}
use lib.Arith.{digits_lt}
use Rattle.machine.proofs.First.{first_none, first_some}
use Rattle.machine.proofs.Rows.{shaped, number_low, number_whole}
use Rattle.machine.proofs.reading.first_bad_move.Goals as goal

pub overflow_mul-number : goal.overflow_mul-number
overflow_mul-number c = omega (arith, number_low c.args.row.now _ _ (shaped 16 8 _ c.requires.0) c.requires.1.states c.requires.1.keys _ _ c.scan-test.true c.loop-key-test.true)

pub overflow_add-number : goal.overflow_add-number
overflow_add-number c = omega (arith, number_low c.args.row.now _ _ (shaped 16 8 _ c.requires.0) c.requires.1.states c.requires.1.keys _ _ c.scan-test.true c.loop-key-test.true)

pub is_bad-requires : goal.is_bad-requires
is_bad-requires c = (
  number_whole c.args.row.now _ _ (shaped 16 8 _ c.requires.0) c.requires.1.states c.requires.1.keys _ _ c.scan-test.true c.loop-key-test.true,
  number_low c.args.row.now _ _ (shaped 16 8 _ c.requires.0) c.requires.1.states c.requires.1.keys _ _ c.scan-test.true c.loop-key-test.true,
)

pub returns-after-scan : goal.returns-after-scan
returns-after-scan c =
    let e : c.scan.state ≡ c.args.shape.states = let a = c.scan-test.false in let b = c.scan.auto.state-end in omega arith in
    c.scan.invariant.0 ∙ sym (first_none _ _ (λ j h. c.scan.invariant.1 j (rw e h)))

pub returns-then-is_bad : goal.returns-then-is_bad
returns-then-is_bad c =
    sym (first_some _ _ _ (digits_lt c.scan-test.true c.loop-key-test.true)
    (sym c.is_bad.ensures ∙ c.if-is_bad.true) c.loop-key.invariant.2)
