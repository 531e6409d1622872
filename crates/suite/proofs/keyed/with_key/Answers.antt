use Rattle.std.proofs.Common.{◌++◌, ◌∷◌, [], length, take, ap, ◌∙◌, arith}
use Rattle.std.proofs.lemmas.List.{length_push, map-append}
use Rattle.machine.specs.Items.{items}
use Rattle.cover.specs.Words.{word_of, words_of}
use Rattle.machine.specs.Words.{products, single_keys}
use Rattle.suite.proofs.WithKey.{plain_more, key_behind}
use Rattle.suite.proofs.keyed.with_key.Goals as goal

pub plain-preserved : goal.plain-preserved
plain-preserved c =
    let pushed = ap words_of c.push.ensures ∙ map-append word_of (items c.plain.fronts) (c.copied.result ∷ []) ∙ ap (λ w. words_of (items c.plain.fronts) ++ w ∷ []) c.copied.ensures in (
      plain_more c.args.access.now c.plain.word-index c.word-item.result c.plain-test.true c.word-item.is (words_of (items c.plain.fronts)) (words_of (items c.push.new.self)) c.plain.invariant.0 pushed,
      let n = c.plain.invariant.1 in let m = ap length c.push.ensures in let l = length_push (items c.plain.fronts) c.copied.result in omega arith,
    )

pub loop-key-preserved : goal.loop-key-preserved
loop-key-preserved c =
    let ws = c.args.access.now in
    let pushed = ap words_of c.push-in-loop-key.ensures ∙ map-append word_of (items c.loop-key.fronts) (c.followed.result ∷ []) in (
      key_behind ws c.keyed.word-index c.word-item-in-keyed.result c.keyed-test.true c.word-item-in-keyed.is (words_of ws ++ products (take c.keyed.word-index (words_of ws)) (single_keys c.args.keys)) c.loop-key.key
          (words_of (items c.loop-key.fronts)) (words_of (items c.push-in-loop-key.new.self)) _ c.loop-key.invariant.0 pushed c.followed.ensures,
      let n = c.loop-key.invariant.1 in let m = ap length c.push-in-loop-key.ensures in let l = length_push (items c.loop-key.fronts) c.followed.result in omega arith,
    )
