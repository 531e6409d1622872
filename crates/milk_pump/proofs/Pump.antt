-- The pump is a machine, and a minimal one: one word tells its states apart. Assumes nothing.
use Rattle.std.proofs.Common.{◌≡◌, ℕ, zero, suc, ◌<◌, [], ◌∷◌, map, get_or, sym, refl, ap, ◌∙◌, arith, lit<}
use Rattle.machine.specs.First.{first}
use Rattle.machine.specs.Machine.{Word, Keys, Proper, Minimal, move, outputs, after}
use Rattle.machine.specs.Refusals.{row_refusal, shape_refusal, moves_refusal}
use Rattle.machine.specs.Row.{row_of, machine_in}
use Rattle.machine.specs.Words.{up_to, of_length, same, listed, once_from}
use Rattle.machine.proofs.Rows.{proper_in}
use Rattle.cover.specs.Cover.{access_words, separating_words, telling_words, first_reaching, first_telling}
use Rattle.milk_pump.specs.Boards.{word, pump}

-- its row is not refused
pub proper : Proper 2 pump
unfolding row_of machine_in row_refusal shape_refusal moves_refusal first
proper = proper_in (row_of 2 pump) refl

-- pouring shows the state
shows_state : (s : ℕ) → s < 3 → outputs pump s (word "1") ≡ s ∷ []
unfolding outputs move
shows_state zero h = refl
shows_state (suc zero) h = refl
shows_state (suc (suc zero)) h = refl
shows_state (suc (suc (suc s))) h = absurd (omega arith)

-- every state is reached: by no coin, by one, by two
reaches : (s : ℕ) → s < 3 → (w : Word) × Keys 2 w × (after pump 0 w ≡ s)
unfolding after move
reaches zero h = (word "", tt, refl)
reaches (suc zero) h = (word "0", (lit< tt, tt), refl)
reaches (suc (suc zero)) h = (word "00", (lit< tt, (lit< tt, tt)), refl)
reaches (suc (suc (suc s))) h = absurd (omega arith)

-- so it is minimal
pub minimal : Minimal 2 pump
minimal = record {
  distinct = λ s t hs ht e. ap (λ ys. get_or ys 0 0) (sym (shows_state s hs) ∙ e (word "1") (lit< tt, tt) ∙ shows_state t ht);
  reached = reaches;
}

-- its access words: no coin, one, and two
pub access : access_words 2 pump ≡ map word ("" ∷ "0" ∷ "00" ∷ [])
unfolding access_words first_reaching up_to of_length after move
access = refl

-- its only separating word: pour
pub separating : separating_words 2 pump ≡ map word ("1" ∷ [])
unfolding separating_words telling_words first_telling up_to of_length outputs move same listed once_from
separating = refl
