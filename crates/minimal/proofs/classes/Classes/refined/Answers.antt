use Rattle.std.proofs.Common.{◌≡◌, ℕ, ◌<◌, length, refl, ◌∙◌, add-one, arith}
use Rattle.machine.specs.Run.{model, keys_of}
use Rattle.machine.proofs.Views.{few_states, view_proper}
use Rattle.minimal.specs.Levels.{class_in, finer}
use Rattle.minimal.proofs.Refined.{finer_next}
use Rattle.minimal.proofs.classes.Classes.refined.Goals as goal

pub returns : goal.returns
returns c =
    let m = c.args.self.machine in
    let made : (s : ℕ) → s < length (model m) → class_in c.from_fn.result s ≡ finer (keys_of m) (model m) c.args.self.of s = λ s h. grind (arith, few_states m) in
    record {
      machine = refl;
      finer = made;
      level = λ j level s h. rw add-one (made s h ∙ finer_next (view_proper m) j c.args.self.of level s h);
    }
