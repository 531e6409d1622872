use Rattle.std.proofs.Common.{sym, ap, ◌∙◌}
use Rattle.machine.specs.Machine.{Move, move}
use Rattle.machine.specs.Run.{model, keys_of}
use Rattle.minimal.specs.Levels.{class_in}
use Rattle.minimal.specs.Quotient.{place}
use Rattle.minimal.specs.Search.{found_count, class_found}
use Rattle.minimal.specs.declared.tree.Found.{Found}
use Rattle.minimal.proofs.Answered.{state_found}
use Rattle.minimal.proofs.Quotient.{move_quotient}
use Rattle.minimal.proofs.minimizing.QuotientComputed.step.Goals as goal

pub at-class-requires : goal.at-class-requires
at-class-requires c =
    let q = c.args.self.now in
    state_found (keys_of q.classes.machine) (model q.classes.machine) (class_in q.classes.of) (class_found q.tree) (found_count q.tree) _ c.requires.state_within

pub returns-clause-to : goal.returns-clause-to
returns-clause-to c =
    let q = c.args.self.now in
    let k = keys_of q.classes.machine in
    let m = model q.classes.machine in
    let class = class_in q.classes.of in
    let entry = class_found q.tree in
    let n = found_count q.tree in
    let h = state_found k m class entry n _ c.requires.state_within in
    let moves = move_quotient k m class entry n c.args.state c.args.key h c.requires.key_within in
    let behind = c.behind.ensures ∙ ap (λ e. class (move m e c.args.key).to) (ap (λ (d : Found). d.class) c.at-class.ensures) in
    c.place.ensures ∙ ap (place entry n) behind ∙ sym (ap (λ (a : Move). a.to) moves)

pub returns-clause-output : goal.returns-clause-output
returns-clause-output c =
    let q = c.args.self.now in
    let k = keys_of q.classes.machine in
    let m = model q.classes.machine in
    let class = class_in q.classes.of in
    let entry = class_found q.tree in
    let n = found_count q.tree in
    let h = state_found k m class entry n _ c.requires.state_within in
    let moves = move_quotient k m class entry n c.args.state c.args.key h c.requires.key_within in
    c.output.ensures.value ∙ ap (λ e. (move m e c.args.key).output) (ap (λ (d : Found). d.class) c.at-class.ensures) ∙ sym (ap (λ (a : Move). a.output) moves)
