use Rattle.std.proofs.Common.{◌≡◌, suc, ◌+◌, ◌++◌, ap, ◌∙◌, arith}
use Rattle.cover.specs.Words.{word_of, words_of}
use Rattle.suite.specs.Factors.{ends_in}
use Rattle.suite.specs.Kept.{kept_behind}
use Rattle.suite.proofs.Feeding.{fed_none, fed_same}
use Rattle.suite.proofs.Levels.{length_more}
use Rattle.suite.proofs.factors.Factors.each_behind.Goals as goal

pub loop-between-init : goal.loop-between-init
unfolding kept_behind
loop-between-init g c = record {
  fed = fed_none g.S.Sink.step c.args.sink.now;
  stays = c.append.ensures ∙ ap (λ z. z ++ c.as_slice-own.result.now) c.new-test.ensures;
}

pub loop-between-preserved : goal.loop-between-preserved
loop-between-preserved g c =
    let f = c.args.self.now in
    let before = c.loop-between.invariant in
    record {
      fed = length_more g.S.Sink.step f.keys f.extra (ends_in f) (words_of c.args.earlier.now) c.as_slice-own.result.now c.loop-between.test.items c.loop-between.between
          c.args.sink.now c.loop-between.sink c.each_between.new.sink before.stays before.fed c.each_between.ensures.fed;
      stays = c.each_between.ensures.stays ∙ before.stays;
    }

pub returns-2 : goal.returns-2
returns-2 g c =
    let f = c.args.self.now in
    let before = c.loop-between.invariant in
    let kept = kept_behind f.keys f.extra (ends_in f) (words_of c.args.earlier.now) in
    let all : c.loop-between.between + 1 ≡ suc f.extra = omega arith in
    let fed = length_more g.S.Sink.step f.keys f.extra (ends_in f) (words_of c.args.earlier.now) c.as_slice-own.result.now c.loop-between.test.items c.loop-between.between
    c.args.sink.now c.loop-between.sink c.each_between.new.sink before.stays before.fed c.each_between.ensures.fed in
    fed_same g.S.Sink.step _ _ c.args.sink.now c.each_between.new.sink (ap (λ v. kept v (c.loop-between.between + 1)) c.as_slice-own.ensures.value ∙ ap (kept (word_of c.args.own.now)) all) fed
