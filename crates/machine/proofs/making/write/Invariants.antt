use Rattle.std.proofs.Common.{◌<◌}
use Rattle.machine.proofs.Writing.{Begun}
use Rattle.machine.proofs.making.write.Given as goal

abbrev pub invariant-loop-key : goal.invariant-loop-key
invariant-loop-key g l =
    Begun (g.D.Computed.made_keys l.machine) (g.D.Computed.made l.machine) l.state l.key l.initial.out l.out l.at × (l.state < l.states)

abbrev pub invariant-loop-state : goal.invariant-loop-state
invariant-loop-state g l = Begun (g.D.Computed.made_keys l.machine) (g.D.Computed.made l.machine) l.state 0 l.initial.out l.out l.at
