use Rattle.std.proofs.Common.{◌≡◌, ◌+◌, ◌-◌, [], ◌∷◌, ◌++◌, length, take, sym, refl, subst, ap, ◌∙◌, arith, length-append}
use Rattle.std.proofs.lemmas.List.{take_at}
use Rattle.cover.specs.Words.{words_of}
use Rattle.machine.specs.Words.{products, single_keys, of_length}
use Rattle.suite.specs.Enumeration.{Knows, fresh_of, fresh_behind}
use Rattle.suite.proofs.Feeding.{fed_none, fed_same, fed_then}
use Rattle.suite.proofs.Knowing.{knows_later}
use Rattle.suite.proofs.Levels.{no_keys, first_keys, key_more}
use Rattle.suite.proofs.values.Against.+each_between.Goals as goal

pub returns-then-left-eq0-clause-fed : goal.returns-then-left-eq0-clause-fed
returns-then-left-eq0-clause-fed g t c =
    let a = c.args.self in
    fed_same g.S.Sink.step _ _ _ _ (ap (fresh_of a c.args.test.now.items) (no_keys c.args.self.keys c.args.left (words_of a.ends.now) c.if-left-eq0.true)) c.each_end.ensures.fed

pub known_behind-more-requires : goal.known_behind-more-requires
known_behind-more-requires g t c none =
    let f = c.args.test.now.items in
    let x = c.loop-key.key in
    let longer : c.push.new.self.items ≡ f ++ x ∷ [] = c.push.ensures.items ∙ ap (λ z. z ++ x ∷ []) c.loop-key.invariant.stays in
    subst (λ z. Knows c.args.self c.args.known.now z) (sym (c.as_slice.ensures.value ∙ longer)) (knows_later c.args.self c.args.known.now f (x ∷ []) c.requires.known none)

pub each_between-requires : goal.each_between-requires
each_between-requires g t c κs within =
    let f = c.args.test.now.items in
    let x = c.loop-key.key in
    let longer : c.push.new.self.items ≡ f ++ x ∷ [] = c.push.ensures.items ∙ ap (λ z. z ++ x ∷ []) c.loop-key.invariant.stays in
    let long = ap length longer ∙ length-append f (x ∷ []) in
    (omega arith, (within, (subst (λ z. Knows c.args.self c.known_behind-more.result z) c.as_slice.ensures.value c.known_behind-more.ensures, (omega (arith, long), omega (arith, long)))))

pub loop-key-init : goal.loop-key-init
unfolding fresh_behind
loop-key-init g t c = record { fed = fed_none g.S.Sink.step c.args.sink.now; stays = refl }

pub loop-key-preserved : goal.loop-key-preserved
loop-key-preserved g t c =
    let a = c.args.self in
    let f = c.args.test.now.items in
    let ws = words_of a.ends.now in
    let us = of_length c.args.self.keys (c.args.left - 1) in
    let x = c.loop-key.key in
    let step = g.S.Sink.step in
    let longer : c.push.new.self.items ≡ f ++ x ∷ [] = c.push.ensures.items ∙ ap (λ z. z ++ x ∷ []) c.loop-key.invariant.stays in
    record {
      fed = fed_then step (fresh_of a f (products (products (single_keys x) us) ws)) (fresh_of a (f ++ x ∷ []) (products us ws)) (fresh_of a f (products (products (single_keys (x + 1)) us) ws))
          c.args.sink.now c.loop-key.sink c.each_between.new.sink (key_more a.extra ws (words_of a.earlier.now) a.own a.between f x us ws c.requires.behind) c.loop-key.invariant.fed
          (fed_same step (fresh_of a c.push.new.self.items (products us ws)) (fresh_of a (f ++ x ∷ []) (products us ws)) c.loop-key.sink c.each_between.new.sink
          (ap (λ z. fresh_of a z (products us ws)) longer) c.each_between.ensures.fed);
      stays = c.pop.ensures.rest ∙ ap (λ z. take (length z - 1) z) (c.each_between.ensures.stays ∙ longer) ∙ take_at f (x ∷ []) (length (f ++ x ∷ []) - 1) (omega (arith, length-append f (x ∷ [])));
    }

pub returns-clause-fed : goal.returns-clause-fed
returns-clause-fed g t c =
    let a = c.args.self in
    let all : c.loop-key.key ≡ c.args.self.keys = let p = c.loop-key-test.false in let q = c.loop-key.auto.key-end in omega arith in
    fed_same g.S.Sink.step _ _ _ _ (ap (fresh_of a c.args.test.now.items) (first_keys c.args.self.keys c.args.left c.loop-key.key (words_of a.ends.now) c.if-left-eq0.false all)) c.loop-key.invariant.fed
