-- The items of a list of fixed room. Assumes nothing: these are definitions.
use Rattle.std.specs.Prelude.{ℕ, List, take}
use Rattle.machine.specs.declared.fixed_list.FixedList.{FixedList}

-- the items, in order
abbrev pub items : {T : Type 0} {room : ℕ} → FixedList T room → List T
items l = take l.len l.places
