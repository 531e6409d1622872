-- A machine that shows what another shows for as many keys as any test has, and something else from then on.
-- Assumes nothing: these are definitions.
use Rattle.std.specs.Prelude.{ℕ, ◌+◌, ◌*◌, ◌/◌, ◌%◌, min, cond, ◌&&◌, map, length, ◌==◌}
use Rattle.std.specs.List.{range_with_len}
use Rattle.machine.specs.Machine.{Machine, Move, move}

-- another output: one more, or 0 for the largest
abbrev pub wrong : ℕ → ℕ
wrong y = cond (y == 4294967295) 0 (y + 1)

-- state number pressed * n + s stands for state s of n with so many keys pressed, up to longest; with longest pressed, key 0 shows a wrong output
abbrev pub survivor_move : Machine → ℕ → ℕ → ℕ → Move
survivor_move m longest q x =
    record {
      to = min (q / length m + 1) longest * length m + (move m (q % length m) x).to;
      output = cond (q / length m == longest && x == 0) (wrong (move m (q % length m) x).output) (move m (q % length m) x).output;
    }

-- how many states it has
abbrev pub survivor_states : Machine → ℕ → ℕ
survivor_states m longest = (longest + 1) * length m

-- the survivor, as a table: each state, and in it the move of each key
unfoldable pub survivor_of : ℕ → Machine → ℕ → Machine
survivor_of k m longest = map (λ q. map (λ x. survivor_move m longest q x) (range_with_len 0 k)) (range_with_len 0 (survivor_states m longest))
