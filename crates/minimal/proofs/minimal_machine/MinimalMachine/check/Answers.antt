use Rattle.minimal.proofs.Needed.{minimal_none_redundant}
use Rattle.minimal.proofs.minimal_machine.MinimalMachine.check.Goals as goal

pub invariant_of-result : goal.invariant_of-result
invariant_of-result c = record { none_redundant = minimal_none_redundant c.in_default.ensures }
