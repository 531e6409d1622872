-- Making the first word that tells two states apart key by key: what holds before each key. Assumes nothing.
use Rattle.std.proofs.Common.{◌≡◌, ℕ, zero, suc, ◌+◌, ◌-◌, ◌<◌, not, IsSome, Some, [], ◌∷◌, ◌++◌, length, sym, refl, ap, ◌∙◌, subst, inl, inr, append_assoc, length-append, arith}
use Rattle.std.proofs.lemmas.Bool.{cases_Bool, cases_lt, both_ways}
use Rattle.machine.specs.Machine.{Machine, Word, move}
use Rattle.minimal.specs.Levels.{alike}
use Rattle.minimal.proofs.Alike.{alike_zero}
use Rattle.cover.specs.Levels.{level, first_key}
use Rattle.cover.proofs.Entries.{level_alike, alike_level}
use Rattle.cover.proofs.Telling.{Apart, Left, rest_of, telling_word, telling_step, key_is, key_there}

-- word w was made, so many keys are left, and p and q are the states behind it
pub record Turn (k : ℕ) (m : Machine) (t s : ℕ) (left p q : ℕ) (w : Word) : Type 0 where
  pub first : p < length m
  pub second : q < length m
  pub short : length w + left < length m
  pub apart : Left k m left p q
  pub made : w ++ rest_of k m left p q ≡ telling_word k m t s

module _ (k : ℕ) (m : Machine) (t s : ℕ) where
  -- the level of two states says where they are told apart
  apart_from_level : (j : ℕ) → level k m (length m) t s ≡ suc j → suc j < length m → Apart k m j t s
  apart_from_level j e h = record {
    alike_at = level_alike k m (length m) j t s (omega arith);
    apart_at = elim (cases_Bool (alike k m (suc j) t s)) [ inl y ↦ absurd (let l = alike_level k m (length m) (suc j) t s h y in omega arith) | inr n ↦ n ];
  }

  -- states that are apart at a level below the number of states have a level below that number
  pub level_from_apart : (j : ℕ) → Apart k m j t s → suc j < length m → level k m (length m) t s < length m
  level_from_apart j a h =
      elim (cases_lt (level k m (length m) t s) (length m)) [
        | inl l ↦ l
        | inr g ↦ absurd (both_ways _ a.apart_at (level_alike k m (length m) (suc j) t s (omega arith)))
      ]

  -- at the beginning nothing was made, and as many keys are left as the level says
  pub turn_starts :
      {left : ℕ} {w : Word} → t < length m → s < length m → level k m (length m) t s < length m → left ≡ level k m (length m) t s → w ≡ [] →
      Turn k m t s left t s w
  turn_starts {left} {w} ht hs low is empty = go (level k m (length m) t s) refl
    where
      go : (l : ℕ) → level k m (length m) t s ≡ l → Turn k m t s left t s w
      go zero e = absurd (let l = alike_level k m (length m) 0 t s (omega arith) (alike_zero k m t s) in omega arith)
      go (suc j) e = rw (is ∙ e, empty) (record { first = ht; second = hs; short = omega arith; apart = apart_from_level j e (omega arith); made = refl })

module _ {k : ℕ} {m : Machine} {t s left p q : ℕ} {w : Word} (some : 0 < left) (turn : Turn k m t s left p q w) where
  -- one of the keys that are left is the next
  next : left ≡ suc (left - 1)
  next = omega arith

  -- with so many keys left the states are apart at that level
  here : Apart k m (left - 1) p q
  here = subst (λ n. Left k m n p q) next turn.apart

  -- so a key tells them apart
  pub turn_key : IsSome (first_key k m (left - 1) p q)
  turn_key = key_there k m (left - 1) p q ∙ ap not here.apart_at

  -- one key more: the smallest that does not agree
  pub turn_goes :
      {x p' q' : ℕ} {w' : Word} → first_key k m (left - 1) p q ≡ Some x →
      p' ≡ (move m p x).to → q' ≡ (move m q x).to → p' < length m → q' < length m → w' ≡ w ++ x ∷ [] →
      Turn k m t s (left - 1) p' q' w'
  turn_goes {x} {p'} {q'} {w'} is_key to_p to_q inside_p inside_q with_key =
      let short = turn.short in
      let step = telling_step k m (left - 1) p q x (omega arith) here (key_is k m (left - 1) p q x is_key) in
      let made = subst (λ n. w ++ rest_of k m n p q ≡ telling_word k m t s) next turn.made in
      record {
        first = inside_p;
        second = inside_q;
        short = rw with_key (omega (arith, length-append w (x ∷ [])));
        apart = rw (to_p, to_q) step.1;
        made = rw (with_key, to_p, to_q) (append_assoc w (x ∷ []) (rest_of k m (left - 1) (move m p x).to (move m q x).to) ∙ ap (λ z. w ++ z) (sym step.0) ∙ made);
      }
