-- What is known of a machine that was checked to be minimal. Assumes nothing.
use Rattle.machine.specs.Machine.{Minimal}
use Rattle.machine.specs.Run.{keys_of, model}
use Rattle.machine.proofs.Views.{view_proper}
use Rattle.minimal.specs.declared.minimal_machine.MinimalMachine.{MinimalMachine as MinimalView}
use Rattle.minimal.proofs.Needed.{none_redundant_minimal}

-- it is minimal
pub known_minimal : (v : MinimalView) → Minimal (keys_of v.machine) (model v.machine)
known_minimal v = none_redundant_minimal (view_proper v.machine) v.none_redundant
