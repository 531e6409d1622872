-- What checking that a machine is minimal answers. Assumes nothing: these are definitions.
use Rattle.std.specs.Prelude.{◌≡◌, ℕ, Ok, Err, Result}
use Rattle.machine.specs.declared.refusals.Refusal.{Refusal}
use Rattle.machine.specs.declared.view.Machine.{Machine as View}
use Rattle.machine.specs.Refusals.{reason, reason_of}
use Rattle.machine.specs.Run.{model, keys_of}
use Rattle.minimal.specs.Minimal.{FirstRedundant}
use Rattle.minimal.specs.declared.minimal_machine.MinimalMachine.{MinimalMachine as MinimalView}

-- the machine itself, which then is minimal; or its first redundant state
abbrev pub Checked : View → Result MinimalView Refusal → Type 0
Checked m (Ok checked) = checked.machine ≡ m
Checked m (Err f) = (s : ℕ) × FirstRedundant (keys_of m) (model m) s × (reason_of f ≡ reason 3 s)
