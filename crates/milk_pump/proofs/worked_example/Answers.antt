use Rattle.milk_pump.proofs.Pump.{access, minimal, proper, separating}
use Rattle.milk_pump.proofs.Table.{entries}
use Rattle.milk_pump.proofs.worked_example.Goals as goal

pub returns : goal.returns
returns c = record { proper = proper; minimal = minimal; access = access; separating = separating; entries = entries }
