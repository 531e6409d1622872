use Rattle.std.proofs.Common.{◌≡◌, ℕ, ◌+◌, ◌*◌, ◌^◌, min, List, length, Some, Option, sym, refl, ap, ◌∙◌, arith}
use Rattle.std.proofs.lemmas.Result.{err_from_is_err_and}
use Rattle.machine.specs.Machine.{Machine}
use Rattle.machine.specs.Refusals.{Reason, reason}
use Rattle.machine.proofs.Rows.{length_machine_in}
use Rattle.machine.proofs.Views.{view_proper}
use Rattle.survivor.specs.Answer.{states_made}
use Rattle.survivor.proofs.Layers.{writable, row_refused, too_many, answered, read_again}
use Rattle.survivor.proofs.making.survivor.Goals as goal

-- a machine's number of states, as the row has it
own_states : (row : List ℕ) (m : Machine) (n longest : ℕ) → n ≡ length m → m ≡ Rattle.machine.specs.Row.machine_in row → (longest + 1) * n ≡ states_made row longest
own_states row m n longest e is = ap (λ z. (longest + 1) * z) (e ∙ ap length is ∙ length_machine_in row)

pub returns-in_err-machine : goal.returns-in_err-machine
returns-in_err-machine c =
    let p = err_from_is_err_and c.from_residual.result c.from_residual.ensures.1 in
    rw (p.1, p.2) (record {
      written = (row_refused c.args.row.now c.args.longest c.args.out.now _ c.in_err-machine.ensures, refl);
      reads_back = tt;
    })

pub small_bound-requires : goal.small_bound-requires
small_bound-requires c = let s = (view_proper c.in_ok-machine.machine).some in let e = c.states.ensures in omega arith

pub returns-in_err-longest : goal.returns-in_err-longest
returns-in_err-longest c =
    let p = err_from_is_err_and c.from_residual-in_err-longest.result c.from_residual-in_err-longest.ensures.1 in
    let told = c.in_err-longest.ensures in
    let read = c.in_ok-machine.ensures in
    let row = c.args.row.now in
    let longest = c.args.longest in
    let same = own_states row _ _ longest c.states.ensures read.machine in
    rw (p.1, p.2) (record {
      written = (
        too_many row longest c.args.out.now read.accepted (let h = told.0 in omega arith)
            ∙ ap {B = Option Reason} Some (sym (told.1 ∙ ap (λ z. reason 7 (min z (2 ^ 32))) same)),
        refl,
      );
      reads_back = tt;
    })

pub invariant_of-write_computed : goal.invariant_of-write_computed
invariant_of-write_computed c =
    let row = c.args.row.now in
    let told = c.in_ok-longest.ensures in
    let read = c.in_ok-machine.ensures in
    let same = own_states row _ _ c.args.longest c.states.ensures read.machine in
    let ready = writable row c.args.longest c.args.out.now read.accepted (let h = told.1 in omega arith) in
    record { writable = simp (read.machine, read.keys, told.0) ready }

pub returns : goal.returns
returns c =
    let row = c.args.row.now in
    let told = c.in_ok-longest.ensures in
    let read = c.in_ok-machine.ensures in
    let same = own_states row _ _ c.args.longest c.states.ensures read.machine in
    record {
      written = answered row c.args.longest c.args.out.now read.accepted (let h = told.1 in omega arith) c.write_computed.result c.write_computed.new.out
          (simp (read.machine, read.keys, told.0) at c.write_computed.ensures.written);
      reads_back = read_again row c.args.longest c.args.out.now read.accepted (let h = told.1 in omega arith) c.write_computed.result c.write_computed.new.out
          (simp (read.machine, read.keys, told.0) at c.write_computed.ensures.reads_back);
    }
