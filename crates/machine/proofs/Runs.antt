-- Runs of a machine over words: one word behind another, and staying inside the machine. Assumes nothing.
use Rattle.std.proofs.Common.{◌≡◌, ℕ, zero, suc, ◌+◌, ◌<◌, ◌≤◌, List, [], ◌∷◌, ◌++◌, length, get_or, take, drop, sym, refl, ap, ◌∙◌, inl, inr, arith}
use Rattle.std.proofs.lemmas.List.{take_at, drop_at, take_more, get_or_past}
use Rattle.std.proofs.lemmas.Bool.{cases_lt}
use Rattle.machine.specs.Machine.{Machine, Word, Proper, move, no_move, outputs, after}

-- the state after two words, one behind the other
pub after_append : (m : Machine) (s : ℕ) (u v : Word) → after m s (u ++ v) ≡ after m (after m s u) v
unfolding after
after_append m s [] v = refl
after_append m s (x ∷ u) v = after_append m (move m s x).to u v

-- what is shown for two words, one behind the other
outputs_append : (m : Machine) (s : ℕ) (u v : Word) → outputs m s (u ++ v) ≡ outputs m s u ++ outputs m (after m s u) v
unfolding outputs after
outputs_append m s [] v = refl
outputs_append m s (x ∷ u) v = ap {B = List ℕ} (λ r. (move m s x).output ∷ r) (outputs_append m (move m s x).to u v)

-- a machine shows as many outputs as the word has keys
pub length_outputs : (m : Machine) (s : ℕ) (w : Word) → length (outputs m s w) ≡ length w
unfolding outputs
length_outputs m s [] = refl
length_outputs m s (x ∷ w) = ap suc (length_outputs m (move m s x).to w)

module _ (m i : Machine) (s t : ℕ) (u v : Word) (e : outputs m s (u ++ v) ≡ outputs i t (u ++ v)) where
  -- both machines show the same on the first word and on the second behind it, together
  split : outputs m s u ++ outputs m (after m s u) v ≡ outputs i t u ++ outputs i (after i t u) v
  split = sym (outputs_append m s u v) ∙ e ∙ outputs_append i t u v

  -- machines that show the same on a word show the same on its beginnings
  pub outputs_front : outputs m s u ≡ outputs i t u
  outputs_front =
      sym (take_at (outputs m s u) (outputs m (after m s u) v) (length u) (length_outputs m s u))
      ∙ ap (take (length u)) split
      ∙ take_at (outputs i t u) (outputs i (after i t u) v) (length u) (length_outputs i t u)

  -- and behind them on the rest
  pub outputs_behind : outputs m (after m s u) v ≡ outputs i (after i t u) v
  outputs_behind =
      sym (drop_at (outputs m s u) (outputs m (after m s u) v) (length u) (length_outputs m s u))
      ∙ ap (drop (length u)) split
      ∙ drop_at (outputs i t u) (outputs i (after i t u) v) (length u) (length_outputs i t u)

-- there is no such key
pub no_key : (m : Machine) (s x : ℕ) → length (get_or m s []) ≤ x → move m s x ≡ no_move
unfolding move
no_key m s x h = get_or_past (get_or m s []) x no_move h

module _ {k : ℕ} {m : Machine} (proper : Proper k m) where
  -- a key that is not there leads to state 0, so no key leaves the machine
  pub move_below : (s x : ℕ) → s < length m → (move m s x).to < length m
  move_below s x h =
      elim (cases_lt x k) [
        | inl l ↦ proper.closed s x h l
        | inr g ↦ rw (no_key m s x (let w = proper.full s h in omega arith)) proper.some
      ]

  -- no word leaves the machine
  pub after_below : (s : ℕ) (w : Word) → s < length m → after m s w < length m
  unfolding after
  after_below s [] h = h
  after_below s (x ∷ w) h = after_below (move m s x).to w (move_below s x h)

-- one key more of a word
pub after_more : (m : Machine) (s : ℕ) (w : Word) (i : ℕ) → i < length w → after m s (take (i + 1) w) ≡ (move m (after m s (take i w)) (get_or w i 0)).to
unfolding after
after_more m s w i h = ap (after m s) (take_more w i 0 h) ∙ after_append m s (take i w) (get_or w i 0 ∷ [])

-- output i of a word is what its key i shows in the state after the keys before it
pub outputs_at : (m : Machine) (s : ℕ) (w : Word) (i : ℕ) → i < length w → get_or (outputs m s w) i 0 ≡ (move m (after m s (take i w)) (get_or w i 0)).output
unfolding outputs after
outputs_at m s [] i h = absurd (omega arith)
outputs_at m s (x ∷ w) zero h = refl
outputs_at m s (x ∷ w) (suc i) h = outputs_at m (move m s x).to w i (omega arith)
