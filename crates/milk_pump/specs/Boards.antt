-- A milk pump, and boards that are to be one. Key 0 is a coin, key 1 pours; a state is how many coins the pump has, two or more being the third.
-- Assumes nothing: these are definitions.
use Rattle.std.specs.Prelude.{ℕ, ◌-◌, List, [], ◌∷◌, map, codes}
use Prim.Native.String.{String}
use Rattle.machine.specs.Machine.{Machine, Move, Word}

-- a word as it is written, a digit for each key
abbrev pub word : String → Word
word text = map (λ digit. digit - 48) (codes text)

-- a state: where a coin leads, which shows 0; what pouring shows, and where it leads
abbrev pub state : ℕ → ℕ → ℕ → List Move
state coin_to poured pour_to = record { to = coin_to; output = 0 } ∷ record { to = pour_to; output = poured } ∷ []

-- the specification: pouring shows the coins and takes them
abbrev pub pump : Machine
pump = state 1 0 0 ∷ state 2 1 0 ∷ state 2 2 0 ∷ []

-- a third coin leads to a fourth state, which is like the third
abbrev pub board_a : Machine
board_a = state 1 0 0 ∷ state 2 1 0 ∷ state 3 2 0 ∷ state 3 2 0 ∷ []

-- a third coin leads to a fourth state, which shows 1 for pouring
abbrev pub board_b : Machine
board_b = state 1 0 0 ∷ state 2 1 0 ∷ state 3 2 0 ∷ state 3 1 0 ∷ []

-- pouring leads from the third state to the second
abbrev pub board_c : Machine
board_c = state 1 0 0 ∷ state 2 1 0 ∷ state 2 2 1 ∷ []

-- pouring leads from the second state to a fourth, which is like the first but that a coin leads to the first
abbrev pub board_d : Machine
board_d = state 1 0 0 ∷ state 2 1 3 ∷ state 2 2 0 ∷ state 0 0 0 ∷ []
