use Rattle.std.proofs.Common.{◌≡◌, false, sym, ap, ◌∙◌, arith}
use lib.ListN.{length-map}
use Rattle.cover.specs.Words.{word_of, words_of}
use Rattle.suite.specs.Kept.{begins}
use Rattle.suite.proofs.Marked.{marks_none, marks_more, marks_same, marks_all}
use Rattle.suite.proofs.values.Against.marks_behind.Goals as goal
use Rattle.suite.proofs.values.Against.marks_behind.Goals.{then-begins, else-begins}

pub loop-word-init : goal.loop-word-init
loop-word-init c m h = marks_none c.args.self.own c.args.self.between m _ h (c.mark.ensures m h)

pub loop-word-preserved : goal.loop-word-preserved
loop-word-preserved c =
    let a = c.args.self in
    let f = c.args.front.now in
    let ws = a.earlier.now in
    let i = c.loop-word.word-index in
    let x = c.word-item.result in
    let inside = c.loop-word-test.true in
    let begun : c.begins.result ≡ begins (word_of x) f = c.begins.ensures ∙ ap (λ w. begins w f) c.as_slice.ensures.value in
    elim c.if-begins.branch [
      | then-begins w ↦ rw w.marks-is (λ m h. marks_more a.extra f ws i a.own a.between x inside c.word-item.is m _ _ (c.loop-word.invariant m h) (sym begun ∙ w.if-begins.true) (rw w.len.ensures.value at (w.mark-then-begins.ensures m h)))
      | else-begins w ↦ rw w.marks-is (λ m h. marks_same a.extra f ws i a.own a.between x inside c.word-item.is m _ false (c.loop-word.invariant m h) (sym begun ∙ w.if-begins.false))
    ]

pub returns : goal.returns
returns c m h =
    let a = c.args.self in
    let ws = a.earlier.now in
    c.loop-word.invariant m h ∙ marks_all a.extra (words_of ws) a.own a.between c.args.front.now m c.loop-word.word-index (omega (arith, length-map ws word_of))
