use Rattle.std.proofs.Common.{◌<◌, length, ◌∙◌, arith}
use Rattle.std.proofs.lemmas.List.Elements.{AllZip-get_or, length_all_zip}
use Rattle.trial.proofs.boards.BoardClone.clone.Goals as goal

-- each state of the copy has as many moves as the state that it is a copy of
pub invariant_of-result-clause-whole : goal.invariant_of-result-clause-whole
invariant_of-result-clause-whole c k d h =
    let copied = c.in_ok-clone.ensures.cases.0 in
    let inside : k < length c.args.self.now.states.items = (let e = length_all_zip _ _ _ copied in omega arith) in
    (AllZip-get_or _ _ _ k d d copied inside).1 ∙ c.args.self.now.whole k d inside
