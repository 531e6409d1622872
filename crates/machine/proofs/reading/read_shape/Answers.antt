use Rattle.std.proofs.Common.{◌≡◌, ◌*◌, arith, ltb-false, ltb-true}
use Rattle.machine.specs.Row.{states_in, keys_in}
use Rattle.machine.proofs.Readings.{headless, bad_states, bad_keys, cut_short, fits}
use Rattle.machine.proofs.reading.read_shape.Goals as goal

pub returns-in_default : goal.returns-in_default
returns-in_default c = headless _ _ c.args.row.now (omega (arith, ltb-true, ltb-false))

pub returns-in_default-within : goal.returns-in_default-within
returns-in_default-within c = bad_states _ _ c.args.row.now (omega (arith, ltb-true, ltb-false)) c.in_default-within.ensures

pub returns-in_default-within-2 : goal.returns-in_default-within-2
returns-in_default-within-2 c = bad_keys _ _ c.args.row.now (omega (arith, ltb-true, ltb-false)) c.in-Some.ensures.0 c.in_default-within-2.ensures

pub returns-then-row-states : goal.returns-then-row-states
returns-then-row-states c =
    let row = c.args.row.now in
    let states = c.in-Some.ensures in
    let keys = c.in-Some-within.ensures in
    let e : c.in-Some.states * c.in-Some-within.keys ≡ states_in row * keys_in row = cc (states.1, keys.1) in
    cut_short _ _ row (omega (arith, ltb-true, ltb-false)) states.0 keys.0 (let t = c.if-row-states.true in omega arith)

pub returns : goal.returns
returns c =
    let row = c.args.row.now in
    let states = c.in-Some.ensures in
    let keys = c.in-Some-within.ensures in
    let e : c.in-Some.states * c.in-Some-within.keys ≡ states_in row * keys_in row = cc (states.1, keys.1) in (
      fits _ _ row (omega (arith, ltb-true, ltb-false)) states.0 keys.0 (let t = c.if-row-states.false in omega arith),
      record { states = states.1; keys = keys.1 },
    )
