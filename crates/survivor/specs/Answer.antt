-- What the call that writes a survivor answers and leaves behind. Assumes nothing: these are definitions.
use Rattle.std.specs.Prelude.{◌≡◌, ℕ, ◌+◌, ◌*◌, ◌^◌, min, List, ◌++◌, length, drop, Some, None, Ok, Err, Option, Result, nat_lt}
use Rattle.machine.specs.declared.refusals.Refusal.{Refusal}
use Rattle.machine.specs.First.{or_else}
use Rattle.machine.specs.Machine.{Machine}
use Rattle.machine.specs.Refusals.{Reason, reason_of, refuse_if, row_refusal}
use Rattle.machine.specs.Row.{states_in, keys_in, room, machine_in, row_of}
use Rattle.survivor.specs.Promises.{Survives}
use Rattle.survivor.specs.Survivor.{survivor_of}

-- the survivor of the machine in a row
abbrev pub made : List ℕ → ℕ → Machine
made row longest = survivor_of (keys_in row) (machine_in row) longest

-- how many states it has, by the row's head
abbrev pub states_made : List ℕ → ℕ → ℕ
states_made row longest = (longest + 1) * states_in row

-- how many numbers its row takes
abbrev pub room_made : List ℕ → ℕ → ℕ
room_made row longest = room (states_made row longest) (keys_in row)

-- why it is refused: the row holds no machine, the survivor would have more than 4,096 states, the lent row is too short
unfoldable pub survivor_refusal : List ℕ → ℕ → ℕ → Option Reason
survivor_refusal row longest space =
    or_else (row_refusal row)
    (or_else (refuse_if (nat_lt 4096 (states_made row longest)) 7 (min (states_made row longest) (2 ^ 32)))
    (refuse_if (nat_lt space (room_made row longest)) 8 (room_made row longest)))

-- the answer, with what the lent row held before and holds after
abbrev pub SurvivorWritten : List ℕ → ℕ → List ℕ → Result ℕ Refusal → List ℕ → Type 0
SurvivorWritten row longest before (Ok n) after =
    (survivor_refusal row longest (length before) ≡ None)
    × (n ≡ length (made row longest))
    × (after ≡ row_of (keys_in row) (made row longest) ++ drop (room_made row longest) before)
    × Survives (keys_in row) (machine_in row) longest (made row longest)
SurvivorWritten row longest before (Err f) after =
    (survivor_refusal row longest (length before) ≡ Some (reason_of f)) × (after ≡ before)

-- what was written is read as the survivor
abbrev pub SurvivorReadsBack : List ℕ → ℕ → Result ℕ Refusal → List ℕ → Type 0
SurvivorReadsBack row longest (Ok n) after = (machine_in after ≡ made row longest) × (keys_in after ≡ keys_in row)
SurvivorReadsBack row longest (Err f) after = Unit {0}
