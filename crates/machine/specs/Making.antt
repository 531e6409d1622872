-- Writing a machine into a lent row. Assumes nothing: these are definitions.
use Rattle.std.specs.Prelude.{◌≡◌, ℕ, ◌<◌, ◌≤◌, List, [], ◌++◌, length, drop, Ok, Err, Result, slice_index_or}
use Rattle.machine.specs.declared.refusals.Refusal.{Refusal}
use Rattle.machine.specs.Machine.{Machine}
use Rattle.machine.specs.Refusals.{reason, reason_of}
use Rattle.machine.specs.Row.{keys_in, room, machine_in, row_of}

-- a machine that can be written: every state has a move for each of k keys, and there are at most 4,096 states and 8 keys
pub record Writable (k : ℕ) (m : Machine) : Type 0 where
  pub full : (s : ℕ) → s < length m → length (slice_index_or m s []) ≡ k
  pub few_states : length m ≤ 4096
  pub few_keys : k ≤ 8

-- the machine stands at the front of the row, or there is no room and the row is as it was
abbrev pub MachineWritten : ℕ → Machine → List ℕ → Result ℕ Refusal → List ℕ → Type 0
MachineWritten k m before (Ok n) after = (room (length m) k ≤ length before) × (n ≡ length m) × (after ≡ row_of k m ++ drop (room (length m) k) before)
MachineWritten k m before (Err f) after = (length before < room (length m) k) × (reason_of f ≡ reason 8 (room (length m) k)) × (after ≡ before)

-- what was written is read as the machine
abbrev pub ReadsBack : ℕ → Machine → Result ℕ Refusal → List ℕ → Type 0
ReadsBack k m (Ok n) after = (machine_in after ≡ m) × (keys_in after ≡ k)
ReadsBack k m (Err f) after = Unit {0}
