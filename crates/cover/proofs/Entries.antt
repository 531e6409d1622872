-- The level at which states are told apart: which levels it says that they are alike at, one round more, and what is read out of a table of them. Assumes nothing.
use Rattle.std.proofs.Common.{◌≡◌, ℕ, zero, suc, ◌+◌, ◌*◌, ◌<◌, ◌≤◌, true, false, ltb, List, length, get_or, set, replicate, sym, ◌∙◌, inl, inr, arith}
use Rattle.std.proofs.lemmas.List.{length-set, get_or-replicate, get_or-set_same, get_or-set_other}
use Rattle.std.proofs.lemmas.Bool.{cases_Bool, cases_lt, both_ways, cond-true, cond-false, eq-eqb}
use Rattle.std.proofs.lemmas.Bool.Decides.{same_from_decides, Decides-ltb}
use Rattle.machine.specs.Machine.{Machine, move}
use Rattle.minimal.specs.Levels.{alike, agrees_on}
use Rattle.minimal.proofs.Alike.{alike_lower}
use Rattle.cover.specs.Levels.{level, LevelsTell, LevelsBelow}

module _ (k : ℕ) (m : Machine) where
  -- alike at the levels below it
  pub level_alike : (b i s t : ℕ) → i < level k m b s t → alike k m i s t ≡ true
  unfolding level
  level_alike zero i s t h = absurd (omega arith)
  level_alike (suc b) i s t h =
      elim (cases_Bool (alike k m b s t)) [
        | inl y ↦ let l : i < suc b = rw (cond-true (alike k m b s t) (suc b) (level k m b s t) y) at h in alike_lower k m i b s t (omega arith) y
        | inr n ↦ level_alike b i s t (rw (cond-false (alike k m b s t) (suc b) (level k m b s t) n) at h)
      ]

  -- and at no other
  pub alike_level : (b i s t : ℕ) → i < b → alike k m i s t ≡ true → i < level k m b s t
  unfolding level
  alike_level zero i s t h e = absurd (omega arith)
  alike_level (suc b) i s t h e =
      elim (cases_Bool (alike k m b s t)) [
        | inl y ↦ rw y (omega arith)
        | inr n ↦ rw n (elim (cases_lt i b) [ inl l ↦ alike_level b i s t l e | inr g ↦ let same : i ≡ b = omega arith in absurd (both_ways _ n (rw same at e)) ])
      ]

  -- a level below b is the table's, if it is above it
  pub levels_tell : (b j : ℕ) (es : List ℕ) → j < b → LevelsBelow k m b es → LevelsTell k m j es
  levels_tell b j es h below s t hs ht =
      rw (below s t hs ht) (same_from_decides (ltb j (level k m b s t)) (alike k m j s t) (Decides-ltb j (level k m b s t)) (alike_level b j s t h, level_alike b j s t))

  -- where the outputs are the same, the entry of the states behind decides
  pub agrees_same :
      (j s t x p q r : ℕ) → p ≡ (move m s x).to → q ≡ (move m t x).to → ltb j r ≡ alike k m j p q → (move m s x).output ≡ (move m t x).output →
      ltb j r ≡ agrees_on k m j s t x
  agrees_same j s t x p q r to_p to_q e same = rw (e, to_p, to_q, eq-eqb _ _ same)

-- the first entries of a table have gone one round further than the others
abbrev pub Filled : ℕ → Machine → ℕ → ℕ → List ℕ → Type 0
Filled k m b done es =
    (length es ≡ 256)
    × ((s t : ℕ) → s < length m → t < length m →
    (16 * s + t < done → get_or es (16 * s + t) 0 ≡ level k m (suc b) s t) × (done ≤ 16 * s + t → get_or es (16 * s + t) 0 ≡ level k m b s t))

module _ (k : ℕ) (m : Machine) (b : ℕ) (few : length m ≤ 16) where
  module _ (s t : ℕ) (es : List ℕ) (hs : s < length m) (ht : t < length m) (filled : Filled k m b (16 * s + t) es) where
    -- the next two states are not alike at level b, and their entry stays
    pub filled_no : alike k m b s t ≡ false → Filled k m b (16 * s + (t + 1)) es
    unfolding level
    filled_no e = (
      filled.0,
      λ p q hp hq. (
        λ l. elim (cases_lt (16 * p + q) (16 * s + t)) [
          | inl below ↦ (filled.1 p q hp hq).0 below
          | inr g ↦
              let same_s : p ≡ s = omega arith in
              let same_t : q ≡ t = omega arith in
              (filled.1 p q hp hq).1 (omega arith) ∙ sym (cond-false (alike k m b p q) (suc b) (level k m b p q) (rw (same_s, same_t) e))
        ],
        λ l. (filled.1 p q hp hq).1 (omega arith),
      ),
    )

    -- the next two states are alike at level b, and their entry becomes b + 1
    pub filled_yes : (v : ℕ) → v ≡ suc b → alike k m b s t ≡ true → Filled k m b (16 * s + (t + 1)) (set es (16 * s + t) v)
    unfolding level
    filled_yes v is e =
        let long = filled.0 in (
          length-set es (16 * s + t) v ∙ filled.0,
          λ p q hp hq. (
            λ l. elim (cases_lt (16 * p + q) (16 * s + t)) [
              | inl below ↦ get_or-set_other es (16 * s + t) (16 * p + q) v 0 (λ z. omega arith) ∙ (filled.1 p q hp hq).0 below
              | inr g ↦
                  let same_s : p ≡ s = omega arith in
                  let same_t : q ≡ t = omega arith in
                  rw (same_s, same_t) (get_or-set_same es (16 * s + t) v 0 (omega arith) ∙ is ∙ sym (cond-true (alike k m b s t) (suc b) (level k m b s t) e))
            ],
            λ l. get_or-set_other es (16 * s + t) (16 * p + q) v 0 (λ z. omega arith) ∙ (filled.1 p q hp hq).1 (omega arith),
          ),
        )

-- at level 0 all states are alike
pub levels_begin : (k : ℕ) (m : Machine) → length m ≤ 16 → LevelsBelow k m 1 (replicate 256 1)
unfolding level alike
levels_begin k m few s t hs ht = get_or-replicate 256 (16 * s + t) 1 0 (omega arith)
