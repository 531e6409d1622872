use Rattle.std.proofs.Common.{ap, ◌∙◌}
use Rattle.machine.specs.Row.{keys_in, machine_in}
use Rattle.machine.proofs.Written.{written_keys, read_back}
use Rattle.machine.proofs.making.write_computed.Goals as goal

pub returns-clause-reads_back : goal.returns-clause-reads_back
returns-clause-reads_back g c =
    let k = g.D.Computed.made_keys c.args.machine.now in
    let made = g.D.Computed.made c.args.machine.now in
    let row = c.write.ensures in
    let full = c.requires.full in
    (ap machine_in row ∙ read_back k made full _, ap keys_in row ∙ written_keys k made full _)
