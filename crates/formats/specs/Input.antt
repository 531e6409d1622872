-- What the programs read: a machine's numbers, four bytes each, low byte first, and one byte, the number of extra states.
-- Assumes nothing: these are definitions.
use Rattle.std.specs.Prelude.{◌≡◌, ℕ, ◌+◌, ◌*◌, ◌/◌, ◌<◌, List, map, length, drop, Some, None, Ok, Err, Option, Result, nat_le, slice_index}
use Rattle.std.specs.List.{range_with_len}
use Rattle.machine.specs.declared.refusals.Refusal.{Refusal}
use Rattle.machine.specs.First.{or_else}
use Rattle.machine.specs.Refusals.{Reason, refuse_if, reason_of, shape_refusal, row_refusal}
use Rattle.machine.specs.Reading.{Heads}
use Rattle.machine.specs.Row.{states_in, keys_in, room}
use Rattle.formats.specs.declared.input.Input.{Input}

-- the number that stands in four bytes, by its place among the numbers
abbrev pub number_at : List ℕ → ℕ → ℕ
number_at bytes i = slice_index bytes (4 * i) + 256 * slice_index bytes (4 * i + 1) + 65536 * slice_index bytes (4 * i + 2) + 16777216 * slice_index bytes (4 * i + 3)

-- the whole numbers in some bytes
unfoldable pub numbers_in : List ℕ → List ℕ
numbers_in bytes = map (number_at bytes) (range_with_len 0 (length bytes / 4))

-- where the byte with the number of extra states stands
abbrev pub extra_place : List ℕ → ℕ
extra_place row = 4 * room (states_in row) (keys_in row)

-- why an input is refused: the programs take machines of at most 8 states and 4 keys; an input that ends before the extra byte is too short
unfoldable pub input_refusal : List ℕ → List ℕ → Option Reason
input_refusal bytes row =
    or_else (shape_refusal 8 4 row)
    (or_else (refuse_if (nat_le (length bytes) (extra_place row)) 1 (length row))
    (row_refusal row))

-- how an input is read, row being its numbers
abbrev pub InputRead : List ℕ → List ℕ → Result Input Refusal → Type 0
InputRead bytes row (Ok input) =
    (input_refusal bytes row ≡ None) × Heads row input.shape × (input.extra ≡ slice_index bytes (extra_place row)) × (extra_place row < length bytes) × (input.rest.now ≡ drop (extra_place row + 1) bytes)
InputRead bytes row (Err f) = input_refusal bytes row ≡ Some (reason_of f)
