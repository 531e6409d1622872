use Rattle.std.proofs.Common.{◌≡◌, ℕ, ◌^◌, ◌<◌, ap, ◌∙◌, arith}
use Rattle.machine.specs.Machine.{move}
use Rattle.machine.specs.Run.{model, keys_of}
use Rattle.machine.specs.declared.view.Machine.{Machine as View}
use Rattle.machine.proofs.Rows.{outputs_low}
use Rattle.machine.proofs.Views.{view_proper, few_keys}
use Rattle.minimal.specs.Levels.{class_in}
use Rattle.minimal.specs.Quotient.{Equivalence}
use Rattle.minimal.specs.Search.{class_found, found_count}
use Rattle.minimal.proofs.Answered.{found_machine, quotient_writable, quotient_low, answered_and_read}
use Rattle.minimal.proofs.Quotient.{equivalence_congruence, length_quotient}
use Rattle.minimal.proofs.minimizing.minimize.Goals as goal

-- classes of equivalent states, of the machine that they are said to be of
equivalence_of : (m n : View) (of : ℕ → ℕ) → n ≡ m → Equivalence (keys_of m) (model m) of → Equivalence (keys_of n) (model n) of
equivalence_of m n of same e = rw same e

pub search-tree-requires : goal.search-tree-requires
search-tree-requires c =
    let of = c.of_equivalent-classes.ensures in
    equivalence_congruence (view_proper c.of_equivalent-classes.result.machine) (equivalence_of _ _ _ of.machine of.equivalence)

pub invariant_of-write_computed : goal.invariant_of-write_computed
invariant_of-write_computed c =
    let classes = c.of_equivalent-classes.result in
    let tree = c.search-tree.result in
    record {
      writable = quotient_writable (keys_of classes.machine) (model classes.machine) (class_in classes.of) (class_found tree) (found_count tree) c.search-tree.ensures.few (few_keys classes.machine);
    }

pub returns : goal.returns
returns c =
    let classes = c.of_equivalent-classes.result in
    let v = classes.machine in
    let of = c.of_equivalent-classes.ensures in
    let tree = c.search-tree.result in
    let read = c.in_ok-m.ensures in
    let shown = ap model of.machine ∙ read.machine in
    let low : (s x : ℕ) → (move (model v) s x).output < 2 ^ 32 = λ s x. rw shown (outputs_low c.args.row.now read.accepted s x) in
    let both = answered_and_read c.args.row.now c.args.out.now (keys_of v) (model v) _ (ap keys_of of.machine ∙ read.keys) shown read.accepted
    (found_machine (view_proper v) (class_in classes.of) (equivalence_of _ _ _ of.machine of.equivalence) tree c.search-tree.ensures.found)
    (let few = c.search-tree.ensures.few in let many = length_quotient (keys_of v) (model v) (class_in classes.of) (class_found tree) (found_count tree) in omega arith)
    (quotient_low (keys_of v) (model v) (class_in classes.of) (class_found tree) (found_count tree) low)
    c.write_computed.result c.write_computed.new.out c.write_computed.ensures.written c.write_computed.ensures.reads_back in
    record { minimized = both.0; reads_back = both.1 }
