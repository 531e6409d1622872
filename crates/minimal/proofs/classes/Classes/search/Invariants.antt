use Rattle.std.proofs.Common.{◌-◌, ◌<◌}
use Rattle.machine.specs.Run.{model, keys_of}
use Rattle.minimal.specs.Levels.{class_in}
use Rattle.minimal.specs.Quotient.{class_after}
use Rattle.minimal.specs.Search.{found_count}
use Rattle.minimal.proofs.Growing.{Growing}
use Rattle.minimal.proofs.classes.Classes.search.Given as goal

abbrev pub invariant-loop-key : goal.invariant-loop-key
invariant-loop-key l = Growing (keys_of l.self.machine) (class_after (class_in l.self.of) (model l.self.machine)) l.parent l.key l.tree × (l.parent < found_count l.tree)

abbrev pub invariant-loop-parent : goal.invariant-loop-parent
invariant-loop-parent l = Growing (keys_of l.self.machine) (class_after (class_in l.self.of) (model l.self.machine)) l.parent 0 l.tree

abbrev pub decreases-loop-parent : goal.decreases-loop-parent
decreases-loop-parent l = 16 - l.parent
