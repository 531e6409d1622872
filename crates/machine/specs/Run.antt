-- Comparing what a machine shows for a word with what was seen. Assumes nothing: these are definitions.
use Rattle.std.specs.Prelude.{ℕ, Bool, not, ◌||◌, List, length, Some, None, Option, ◌==◌, nat_le, slice_index}
use Rattle.machine.specs.declared.running.Difference.{Difference}
use Rattle.machine.specs.declared.view.Machine.{Machine as View}
use Rattle.machine.specs.First.{first}
use Rattle.machine.specs.Machine.{Machine, Word, outputs}
use Rattle.machine.specs.Row.{machine_in}

-- the machine that a view shows
abbrev pub model : View → Machine
model v = machine_in v.row.now

-- how many keys the machine that a view shows has
abbrev pub keys_of : View → ℕ
keys_of v = v.keys

-- at key i nothing was seen, or something else than expected
abbrev pub differs_at : List ℕ → List ℕ → ℕ → Bool
differs_at expected seen i = nat_le (length seen) i || not (slice_index seen i == slice_index expected i)

-- a key that was found to differ, with what was expected there
abbrev pub at_key : List ℕ → Option ℕ → Option Difference
at_key expected None = None
at_key expected (Some i) = Some (record { key = i; expected = slice_index expected i })

-- the first key of a word at which something else was seen than the machine shows, with what it shows there
unfoldable pub difference : Machine → Word → List ℕ → Option Difference
difference m w seen = at_key (outputs m 0 w) (first (differs_at (outputs m 0 w) seen) (length w))
