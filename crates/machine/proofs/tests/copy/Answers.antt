use Rattle.std.proofs.Common.{◌≤◌, arith}
use Rattle.machine.proofs.Views.{view_proper, few_states, few_keys}
use Rattle.machine.proofs.tests.copy.Goals as goal

pub invariant_of-save : goal.invariant_of-save
invariant_of-save c =
    let v = c.in_ok-machine.machine in
    record { writable = record { full = (view_proper v).full; few_states = let h = few_states v in omega arith; few_keys = few_keys v } }
