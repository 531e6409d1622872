use Rattle.std.proofs.Common.{◌≡◌, ℕ, ◌*◌, List, Option, None, sym, ap, ◌∙◌}
use Rattle.std.proofs.lemmas.Result.{err_from_is_err_and}
use Rattle.machine.specs.declared.reading.Shape.{Shape}
use Rattle.machine.specs.First.{first}
use Rattle.machine.specs.Reading.{Heads, HoldsMachine}
use Rattle.machine.specs.Refusals.{shape_refusal, bad_move}
use Rattle.machine.specs.Row.{states_in, keys_in}
use Rattle.machine.proofs.Readings.{shape_refused, bad_move_refused, no_bad_move}
use Rattle.machine.proofs.view.Machine.read.Goals as goal

module _ (row : List ℕ) (shape : Shape) (head : Heads row shape) (bad : Option ℕ) (is : bad ≡ first (bad_move row) (shape.states * shape.keys)) where
  -- the moves of the shape are those of the row
  bad_in_row : first (bad_move row) (states_in row * keys_in row) ≡ bad
  bad_in_row =
      let moves : shape.states * shape.keys ≡ states_in row * keys_in row = cc (head.states, head.keys) in
      ap (first (bad_move row)) (sym moves) ∙ sym is

  -- a row with a good shape and no bad move
  holds : shape_refusal 16 8 row ≡ None → bad ≡ None → HoldsMachine row shape
  holds good none = record { accepted = no_bad_move row good (bad_in_row ∙ none); head = head }

pub returns-in_err-shape : goal.returns-in_err-shape
returns-in_err-shape c =
    let p = err_from_is_err_and c.from_residual.result c.from_residual.ensures.1 in
    rw (p.1, p.2) (shape_refused c.args.row.now _ c.in_err-shape.ensures)

pub returns-in-Some : goal.returns-in-Some
returns-in-Some c =
    let told = c.in_ok-shape.ensures in
    bad_move_refused c.args.row.now told.0 _ (bad_in_row c.args.row.now _ told.1 _ c.first_bad_move.ensures ∙ c.in-Some.is)

pub over-requires : goal.over-requires
over-requires c =
    let told = c.in_ok-shape.ensures in
    holds c.args.row.now _ told.1 _ c.first_bad_move.ensures told.0 c.in_default.is

pub returns : goal.returns
returns c =
    let told = c.in_ok-shape.ensures in
    record {
      accepted = (holds c.args.row.now _ told.1 _ c.first_bad_move.ensures told.0 c.in_default.is).accepted;
      machine = c.over.ensures.0;
      keys = c.over.ensures.1;
    }
