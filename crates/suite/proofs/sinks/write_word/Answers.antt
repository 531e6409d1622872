use Rattle.std.proofs.Common.{◌≡◌, suc, ◌+◌, [], ◌∷◌, ◌++◌, length, get_or, take, drop, sym, ap, ◌∙◌, append_assoc, arith, length-set}
use Rattle.std.proofs.lemmas.Grind.{take-set_at}
use Rattle.std.proofs.lemmas.List.{take-append-drop, take_more, take_all, drop-set-lt}
use Rattle.suite.proofs.sinks.write_word.Goals as goal

pub loop-i-preserved : goal.loop-i-preserved
loop-i-preserved c =
    let row = c.loop-i.row in
    let w = c.args.word.now in
    let at = c.args.at in
    let i = c.loop-i.i in
    let before = c.loop-i.invariant in
    let place = at + 1 + i in
    let key = get_or w i 0 in
    let here = take at c.args.row.now in
    record {
      written = take-set_at row place (at + 1 + (i + 1)) key (omega arith) (omega (arith, length-set c.args.row.now at (length w))) ∙ ap (λ z. z ++ key ∷ []) before.written ∙ append_assoc here (length w ∷ take i w) (key ∷ [])
          ∙ ap (λ z. here ++ (length w ∷ z)) (sym (take_more w i 0 c.loop-i-test.true));
      rest = drop-set-lt (at + suc (length w)) row place key (omega arith) ∙ before.rest;
    }

pub returns : goal.returns
returns c =
    let row = c.loop-i.row in
    let w = c.args.word.now in
    let at = c.args.at in
    let i = c.loop-i.i in
    let before = c.loop-i.invariant in
    let here = take at c.args.row.now in
    let end : at + 1 + i ≡ at + suc (length w) = omega arith in
    sym (take-append-drop (at + 1 + i) row)
    ∙ ap (λ z. z ++ drop (at + 1 + i) row) before.written
    ∙ append_assoc here (length w ∷ take i w) (drop (at + 1 + i) row)
    ∙ ap (λ z. here ++ (length w ∷ (z ++ drop (at + 1 + i) row))) (take_all i w (omega arith))
    ∙ ap (λ z. here ++ (length w ∷ (w ++ z))) (ap (λ n. drop n row) end ∙ before.rest)
