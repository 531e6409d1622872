use Rattle.std.proofs.Common.{sym, ◌∙◌, arith}
use Rattle.std.proofs.lemmas.Bool.{both_ways}
use Rattle.machine.specs.Run.{model}
use Rattle.machine.proofs.Views.{view_proper, few_states}
use Rattle.minimal.proofs.Known.{known_minimal}
use Rattle.minimal.proofs.Moore.{short_separation}
use Rattle.cover.proofs.Collected.{kept_starts, kept_row, kept_room, kept_again, kept_more, kept_all}
use Rattle.cover.proofs.Greedy.{level_from_apart}
use Rattle.cover.proofs.Separating.{apart_level, several_states, one_state}
use Rattle.cover.proofs.collecting.separating.Goals as goal

pub returns-then-states-le1 : goal.returns-then-states-le1
returns-then-states-le1 c =
    let e = c.states.ensures in
    let l = c.if-states-le1.true in
    rw (c.push.ensures, c.requires, c.new.ensures) (sym (one_state c.args.m.machine.keys (model c.args.m.machine) (omega arith)))

pub loop-s-init : goal.loop-s-init
loop-s-init c = kept_starts c.requires

pub telling_word-word-requires-clause-apart : goal.telling_word-word-requires-clause-apart
telling_word-word-requires-clause-apart c =
    let m = c.args.m.machine in
    let apart = apart_level short_separation m.keys (model m) (view_proper m) (known_minimal c.args.m) c.pairs.t c.loop-s.s c.pairs-test.true c.pairs.invariant.0 in
    rw c.of-levels.ensures.0 (level_from_apart m.keys (model m) c.pairs.t c.loop-s.s apart.0 apart.2 apart.1)

pub pairs-preserved-then-is_among : goal.pairs-preserved-then-is_among
pairs-preserved-then-is_among c = (
  c.pairs.invariant.0,
  kept_again c.pairs.invariant.1 (rw c.of-levels.ensures.0 at c.telling_word-word.ensures) (rw (← c.deref.ensures.0) (c.is_among.ensures.0 c.if-is_among.true)),
)

pub push-requires-in-pairs : goal.push-requires-in-pairs
push-requires-in-pairs c =
    let f = few_states c.args.m.machine in
    let s = c.pairs.invariant.0 in
    (omega arith, kept_room c.pairs.invariant.1 (omega arith) c.pairs-test.true)

pub pairs-preserved : goal.pairs-preserved
pairs-preserved c = (
  c.pairs.invariant.0,
  rw c.push-in-pairs.ensures
      (kept_more c.pairs.invariant.1 _ (rw c.of-levels.ensures.0 at c.telling_word-word.ensures) (λ i. both_ways _ c.if-is_among.false (c.is_among.ensures.1 (rw c.deref.ensures.0 i)))),
)

pub loop-s-preserved : goal.loop-s-preserved
loop-s-preserved c = let a = c.pairs-test.false in let k = c.pairs.auto.t-end in kept_row (omega arith) c.pairs.invariant.1

pub returns : goal.returns
returns c =
    let e = c.states.ensures in
    let l = c.if-states-le1.false in
    let a = c.loop-s-test.false in
    let k = c.loop-s.auto.s-end in
    let z = c.states-s-end.ensures in
    kept_all (omega arith) c.loop-s.invariant ∙ sym (several_states c.args.m.machine.keys (model c.args.m.machine) (omega arith))
