-- The reasons for which a request is refused: each has a number and a place. Of several that apply the first is told.
-- Assumes nothing: these are definitions.
use Rattle.std.specs.Prelude.{ℕ, ◌*◌, ◌^◌, Bool, cond, ◌||◌, List, length, Some, None, Option, nat_le, nat_lt}
use Rattle.machine.specs.declared.refusals.Refusal.{Refusal}
use Rattle.machine.specs.declared.refusals.Refusal.TheVariants.{Malformed, BadMove, NotMinimal, TooManyExtra, NoRoomForTests, WrongLength, TooManyStates, NoRoomForMachine}
use Rattle.machine.specs.First.{first, or_else}
use Rattle.machine.specs.Row.{states_in, keys_in, target_at, output_at, room}

-- a reason: its number and its place
pub record Reason : Type 0 where
  pub number : ℕ
  pub place : ℕ

-- reason n at place p
abbrev pub reason : ℕ → ℕ → Reason
reason n p = record { number = n; place = p }

-- the number and the place of each case
abbrev pub reason_of : Refusal → Reason
reason_of (Malformed p) = reason 1 p
reason_of (BadMove p) = reason 2 p
reason_of (NotMinimal p) = reason 3 p
reason_of (TooManyExtra p) = reason 4 p
reason_of (NoRoomForTests p) = reason 5 p
reason_of (WrongLength p) = reason 6 p
reason_of (TooManyStates p) = reason 7 p
reason_of (NoRoomForMachine p) = reason 8 p

-- a reason that applies if a test passes
abbrev pub refuse_if : Bool → ℕ → ℕ → Option Reason
refuse_if b n p = cond b (Some (reason n p)) None

-- outside 1 to most
abbrev pub outside : ℕ → ℕ → Bool
outside most n = nat_lt n 1 || nat_lt most n

-- why a row holds no machine of at most so many states and keys: too short for its head, too many or no states, too many or no keys, too short for its moves
unfoldable pub shape_refusal : ℕ → ℕ → List ℕ → Option Reason
shape_refusal most_states most_keys row =
    or_else (refuse_if (nat_lt (length row) 2) 1 (length row))
    (or_else (refuse_if (outside most_states (states_in row)) 1 (states_in row))
    (or_else (refuse_if (outside most_keys (keys_in row)) 1 (keys_in row))
    (refuse_if (nat_lt (length row) (room (states_in row) (keys_in row))) 1 (length row))))

-- a move that leads to no state, or shows 2^32 or more
abbrev pub bad_move : List ℕ → ℕ → Bool
bad_move row j = nat_le (states_in row) (target_at row j) || nat_le (2 ^ 32) (output_at row j)

-- a move that was found bad, as a reason
abbrev pub at_move : Option ℕ → Option Reason
at_move None = None
at_move (Some j) = Some (reason 2 j)

-- why a row's moves are refused: the first bad one
unfoldable pub moves_refusal : List ℕ → Option Reason
moves_refusal row = at_move (first (bad_move row) (states_in row * keys_in row))

-- why a row holds no machine of at most 16 states and 8 keys
unfoldable pub row_refusal : List ℕ → Option Reason
row_refusal row = or_else (shape_refusal 16 8 row) (moves_refusal row)
