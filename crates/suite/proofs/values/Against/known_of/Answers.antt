use Rattle.std.proofs.Common.{sym, ◌∙◌}
use Rattle.suite.specs.Enumeration.{longer}
use Rattle.suite.proofs.Any.{any_words}
use Rattle.suite.proofs.values.Against.known_of.Goals as goal

pub returns : goal.returns
returns c = record { places = c.marks_behind.ensures; longer = c.some_longer.ensures ∙ sym (any_words (longer c.args.front.now) c.args.self.earlier.now) }
