-- What reading a row answers. Assumes nothing: these are definitions.
use Rattle.std.specs.Prelude.{◌≡◌, ℕ, List, Some, None, Ok, Err, Result}
use Rattle.machine.specs.declared.refusals.Refusal.{Refusal}
use Rattle.machine.specs.declared.reading.Shape.{Shape}
use Rattle.machine.specs.Refusals.{reason_of, shape_refusal, row_refusal}
use Rattle.machine.specs.declared.view.Machine.{Machine as View}
use Rattle.machine.specs.Row.{states_in, keys_in, machine_in}
use Rattle.machine.specs.Run.{model, keys_of}

-- the numbers of states and keys stand at the row's head
pub record Heads (row : List ℕ) (shape : Shape) : Type 0 where
  pub states : shape.states ≡ states_in row
  pub keys : shape.keys ≡ keys_in row

-- how a row's head is read
abbrev pub ShapeRead : ℕ → ℕ → List ℕ → Result Shape Refusal → Type 0
ShapeRead most_states most_keys row (Ok shape) = (shape_refusal most_states most_keys row ≡ None) × Heads row shape
ShapeRead most_states most_keys row (Err f) = shape_refusal most_states most_keys row ≡ Some (reason_of f)

-- the row holds a machine, of that shape
pub record HoldsMachine (row : List ℕ) (shape : Shape) : Type 0 where
  pub accepted : row_refusal row ≡ None
  pub head : Heads row shape

-- a row that holds a machine, and a view that shows this machine
pub record Read (row : List ℕ) (v : View) : Type 0 where
  pub accepted : row_refusal row ≡ None
  pub machine : model v ≡ machine_in row
  pub keys : keys_of v ≡ keys_in row

-- how a row is read
abbrev pub MachineRead : List ℕ → Result View Refusal → Type 0
MachineRead row (Ok v) = Read row v
MachineRead row (Err f) = row_refusal row ≡ Some (reason_of f)
