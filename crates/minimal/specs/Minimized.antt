-- What minimizing a machine in a row answers, and what it leaves in the row lent for it. Assumes nothing: these are definitions.
use Rattle.std.specs.Prelude.{◌≡◌, ℕ, ◌<◌, ◌≤◌, ◌⊎◌, List, ◌++◌, length, drop, Some, None, Ok, Err, Result}
use Rattle.machine.specs.Machine.{Machine}
use Rattle.machine.specs.Refusals.{reason, reason_of, row_refusal}
use Rattle.machine.specs.Row.{keys_in, machine_in, room, row_of}
use Rattle.machine.specs.declared.refusals.Refusal.{Refusal}
use Rattle.minimal.specs.Minimal.{MinimalMachine}

-- the minimal machine l of the machine in a row was written, over the front of what was there
pub record Written (row before after : List ℕ) (n : ℕ) (l : Machine) : Type 0 where
  pub accepted : row_refusal row ≡ None
  pub minimal : MinimalMachine (keys_in row) (machine_in row) l
  pub states : n ≡ length l
  pub fits : room (length l) (keys_in row) ≤ length before
  pub row_is : after ≡ row_of (keys_in row) l ++ drop (room (length l) (keys_in row)) before

-- there is no room for the minimal machine l of the machine in a row
pub record Crowded (row before : List ℕ) (f : Refusal) (l : Machine) : Type 0 where
  pub accepted : row_refusal row ≡ None
  pub minimal : MinimalMachine (keys_in row) (machine_in row) l
  pub lacks : length before < room (length l) (keys_in row)
  pub reason_is : reason_of f ≡ reason 8 (room (length l) (keys_in row))

-- the answer: the number of states of the minimal machine, written; or why it was refused, and nothing was written
abbrev pub Minimized : List ℕ → List ℕ → Result ℕ Refusal → List ℕ → Type 0
Minimized row before (Ok n) after = (l : Machine) × Written row before after n l
Minimized row before (Err f) after = ((row_refusal row ≡ Some (reason_of f)) ⊎ ((l : Machine) × Crowded row before f l)) × (after ≡ before)

-- what was written is a row that is accepted, and is read as the minimal machine
abbrev pub MinimalReadsBack : List ℕ → Result ℕ Refusal → List ℕ → Type 0
MinimalReadsBack row (Ok n) after = (row_refusal after ≡ None) × MinimalMachine (keys_in row) (machine_in row) (machine_in after) × (keys_in after ≡ keys_in row)
MinimalReadsBack row (Err f) after = Unit {0}
