use Rattle.std.proofs.Common.{◌≡◌, suc, ◌+◌, ◌-◌, length, get_or, take, drop, ap, ◌∙◌, add-one}
use Rattle.std.proofs.lemmas.List.{take_rest, take_min}
use Rattle.machine.proofs.running.word_at.Goals as goal

pub returns : goal.returns
returns c =
    let row = c.args.row.now in
    let at = c.args.at in
    let rest : take (length row - (at + 1)) (drop (at + 1) row) ≡ drop (suc at) row = take_rest row (at + 1) ∙ ap (λ n. drop n row) (add-one at) in
    rw (c.min.ensures, rest) (take_min (get_or row at 0) (drop (suc at) row))
