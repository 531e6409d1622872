use Rattle.std.proofs.Common.{◌≡◌, ◌<◌, length, arith}
use Rattle.machine.proofs.Writing.{begun_head, begun_move, begun_row, begun_all, begun_over, begun_later, move_room}
use Rattle.machine.proofs.making.write.Goals as goal

pub loop-key-preserved : goal.loop-key-preserved
loop-key-preserved g c =
    let made = g.D.Computed.made c.args.machine.now in
    let state : c.loop-state.state < length made = let h = c.loop-state-test.true in let e = c.states-states.ensures in omega arith in
    let key : c.loop-key.key < g.D.Computed.made_keys c.args.machine.now = let h = c.loop-key-test.true in let e = c.keys-keys.ensures in omega arith in (
      begun_move _ _ _ _ _ _ _ _ _ state (c.requires.writable.full _ state) key
          (move_room _ _ _ _ _ _ _ _ c.args.out.now c.states-states.ensures c.keys-keys.ensures c.loop-state-test.true c.loop-key-test.true c.loop-key.invariant.0.number c.requires.fits c.loop-state.auto.out)
          c.loop-key.invariant.0 c.step-step.ensures.to c.step-step.ensures.output,
      c.loop-state-test.true,
    )

pub loop-state-preserved : goal.loop-state-preserved
loop-state-preserved g c =
    let made = g.D.Computed.made c.args.machine.now in
    let state : c.loop-state.state < length made = let h = c.loop-key.invariant.1 in let e = c.states-states.ensures in omega arith in
    let all : c.loop-key.key ≡ g.D.Computed.made_keys c.args.machine.now = let a = c.loop-key-test.false in let b = c.loop-key.auto.key-end in let e = c.keys-keys.ensures in omega arith in
    begun_row _ _ _ _ _ _ state (c.requires.writable.full _ state)
    (rw all at (begun_over _ _ _ _ _ _ _ _ _ _ _ c.loop-state.invariant c.loop-key.invariant.0 (begun_later _ _ _ _ _ _ _ _ _ _ c.loop-state.invariant c.loop-key.invariant.0)))

pub returns : goal.returns
returns g c =
    let made = g.D.Computed.made c.args.machine.now in
    let all : c.loop-state.state ≡ length made = let a = c.loop-state-test.false in let b = c.loop-state.auto.state-end in let e = c.states-states.ensures in omega arith in
    let head = begun_head _ _ c.args.out.now _ _ c.states-states.ensures c.keys-keys.ensures (let r = c.requires.fits in omega arith) in
    begun_all _ _ _ _ _ (rw all at (begun_over _ _ _ _ _ _ _ _ _ _ _ head c.loop-state.invariant (let n = c.loop-state.invariant.number in omega arith)))
