use Rattle.std.proofs.Common.{◌≡◌, ℕ, ◌<◌, true, false}
use Rattle.machine.specs.Run.{model, keys_of}
use Rattle.minimal.specs.Levels.{agrees}
use Rattle.minimal.proofs.classes.Classes.smallest.Given as goal

-- each state passed differs from this one in some key
abbrev pub invariant-others : goal.invariant-others
invariant-others l = (u : ℕ) → u < l.other → (x : ℕ) × (x < keys_of l.self.machine) × (agrees (model l.self.machine) l.self.of u l.state x ≡ false)

abbrev pub invariant-loop-key : goal.invariant-loop-key
invariant-loop-key l =
    ((u : ℕ) → u < l.other → (x : ℕ) × (x < keys_of l.self.machine) × (agrees (model l.self.machine) l.self.of u l.state x ≡ false))
    × ((x : ℕ) → x < l.key → agrees (model l.self.machine) l.self.of l.other l.state x ≡ true)
