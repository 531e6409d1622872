use Rattle.std.proofs.Common.{◌≤◌, ◌⊎◌, sym, ap, inl, inr, arith}
use Rattle.machine.specs.Machine.{Move}
use Rattle.machine.proofs.Views.{view_proper, move_number_low, move_whole, move_stands, move_leads, output_stands, move_shows, move_missing}
use Rattle.machine.proofs.view.Machine.step.Goals as goal

pub returns-then-state-self : goal.returns-then-state-self
returns-then-state-self c =
    let v = c.args.self in
    let missing : (v.states ≤ c.args.state) ⊎ (v.keys ≤ c.args.key) = elim c.then-state-self.either [ inl g ↦ inl g | inr h ↦ inr h.1 ] in
    let none = move_missing v _ _ missing in
    record {
      to = sym (ap (λ (a : Move). a.to) none);
      output = sym (ap (λ (a : Move). a.output) none);
      inside = (view_proper v).some;
      bound = omega arith;
    }

pub overflow_mul-at : goal.overflow_mul-at
overflow_mul-at c = omega (arith, move_number_low c.args.self _ _ c.if-state-self.false c.if-key-self.false)

pub overflow_add-at : goal.overflow_add-at
overflow_add-at c = omega (arith, move_number_low c.args.self _ _ c.if-state-self.false c.if-key-self.false)

pub overflow_mul-at-2 : goal.overflow_mul-at-2
overflow_mul-at-2 c = omega (arith, move_number_low c.args.self _ _ c.if-state-self.false c.if-key-self.false)

pub overflow_add-at-2 : goal.overflow_add-at-2
overflow_add-at-2 c = omega (arith, move_number_low c.args.self _ _ c.if-state-self.false c.if-key-self.false)

pub offset_bounds-self-at : goal.offset_bounds-self-at
offset_bounds-self-at c = omega (arith, move_number_low c.args.self _ _ c.if-state-self.false c.if-key-self.false)

pub bounds-self-at : goal.bounds-self-at
bounds-self-at c = omega (arith, move_whole c.args.self _ _ c.if-state-self.false c.if-key-self.false)

pub overflow_add-result : goal.overflow_add-result
overflow_add-result c = omega (arith, move_number_low c.args.self _ _ c.if-state-self.false c.if-key-self.false)

pub offset_bounds-self-at-2 : goal.offset_bounds-self-at-2
offset_bounds-self-at-2 c = omega (arith, move_number_low c.args.self _ _ c.if-state-self.false c.if-key-self.false)

pub bounds-self-at-2 : goal.bounds-self-at-2
bounds-self-at-2 c = omega (arith, move_whole c.args.self _ _ c.if-state-self.false c.if-key-self.false)

pub returns : goal.returns
returns c =
    let v = c.args.self in
    let here = move_stands v _ _ c.if-state-self.false c.if-key-self.false in
    record {
      to = sym (ap (λ (a : Move). a.to) here);
      output = sym (output_stands v _ _ c.if-state-self.false c.if-key-self.false);
      inside = move_leads v _ _ c.if-state-self.false c.if-key-self.false;
      bound = move_shows v _ _ c.if-state-self.false c.if-key-self.false;
    }
