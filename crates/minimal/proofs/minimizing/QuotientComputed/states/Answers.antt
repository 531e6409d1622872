use Rattle.std.proofs.Common.{sym, ◌∙◌}
use Rattle.machine.specs.Run.{model, keys_of}
use Rattle.minimal.specs.Levels.{class_in}
use Rattle.minimal.specs.Search.{found_count, class_found}
use Rattle.minimal.proofs.Quotient.{length_quotient}
use Rattle.minimal.proofs.minimizing.QuotientComputed.states.Goals as goal

pub returns : goal.returns
returns c =
    let q = c.args.self.now in
    c.len.ensures.value ∙ sym (length_quotient (keys_of q.classes.machine) (model q.classes.machine) (class_in q.classes.of) (class_found q.tree) (found_count q.tree))
