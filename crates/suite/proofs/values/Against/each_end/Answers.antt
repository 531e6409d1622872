use Rattle.std.proofs.Common.{◌≡◌, ◌≤◌, ◌++◌, false, length, get_or, take, sym, refl, ap, ap₂, ◌∙◌}
use Rattle.std.proofs.lemmas.List.{take_at}
use Rattle.cover.specs.Words.{word_of}
use Rattle.suite.specs.Enumeration.{fresh_behind}
use Rattle.suite.proofs.Ends.{none_new, came_up, skipped, handed_on}
use Rattle.suite.proofs.Feeding.{fed_none, fed_same}
use Rattle.suite.proofs.values.Against.each_end.Goals as goal
use Rattle.suite.proofs.values.Against.each_end.Goals.{then-not-repeated, else-not-repeated}

pub returns-then-known-begun-clause-fed : goal.returns-then-known-begun-clause-fed
returns-then-known-begun-clause-fed g c =
    let a = c.args.self in
    let f = c.args.test.now.items in
    let mark = ap (λ n. get_or c.args.known.now.marks n false) (sym c.len-begun.ensures.value) ∙ c.if-known-begun.true in
    fed_same g.S.Sink.step _ _ _ _ (sym (none_new a c.args.known.now f c.requires.whole c.requires.known mark)) (fed_none g.S.Sink.step c.args.sink.now)

pub loop-end-init : goal.loop-end-init
unfolding fresh_behind
loop-end-init g c = record { fed = fed_none g.S.Sink.step c.args.sink.now; stays = refl }

pub loop-end-preserved : goal.loop-end-preserved
loop-end-preserved g c =
    let a = c.args.self in
    let f = c.args.test.now.items in
    let x = c.end-item.result in
    let i = c.loop-end.end-index in
    let whole : c.append.new.test.items ≡ f ++ word_of x = c.append.ensures ∙ ap₂ ◌++◌ c.loop-end.invariant.stays c.as_slice.ensures.value in
    let long : c.len-begun.result ≡ length f = c.len-begun.ensures.value in
    let stays : c.truncate.new.self.items ≡ f = c.truncate.ensures.items ∙ ap (take c.len-begun.result) whole ∙ take_at f (word_of x) c.len-begun.result (sym long) in
    let short : length (word_of x) ≤ 16 = rw (← c.as_slice.ensures.value) c.as_slice.ensures.fits in
    let found = came_up a f x c.requires.whole short c.append.new.test.items c.args.known.now c.repeated.result c.requires.known whole c.repeated.ensures in
    elim c.if-not-repeated.branch [
      | then-not-repeated w ↦ rw w.sink-is (record {
        fed = handed_on a f x c.requires.whole short g.S.Sink.step i c.loop-end-test.true c.end-item.is c.args.sink.now c.loop-end.sink c.loop-end.invariant.fed
            _ w.as_slice-then-not-repeated.result.now (sym w.if-not-repeated.true ∙ found) (w.as_slice-then-not-repeated.ensures.value ∙ whole) w.put.ensures;
        stays = stays;
      })
      | else-not-repeated w ↦ rw w.sink-is (record {
        fed = skipped a f x c.requires.whole short g.S.Sink.step i c.loop-end-test.true c.end-item.is c.args.sink.now c.loop-end.sink c.loop-end.invariant.fed (sym w.if-not-repeated.false ∙ found);
        stays = stays;
      })
    ]
