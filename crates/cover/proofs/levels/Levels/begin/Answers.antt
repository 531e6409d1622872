use Rattle.std.proofs.Common.{arith}
use Rattle.machine.specs.Run.{model}
use Rattle.machine.proofs.Views.{few_states}
use Rattle.cover.proofs.Entries.{levels_begin}
use Rattle.cover.proofs.levels.Levels.begin.Goals as goal

pub invariant_of-result : goal.invariant_of-result
invariant_of-result c = record { few = few_states c.args.machine; some = omega arith; known = levels_begin c.args.machine.keys (model c.args.machine) (few_states c.args.machine) }
