-- The first word that tells two states apart: found among the words of at most so many keys, and made key by key of the levels. Assumes nothing.
use Rattle.std.proofs.Common.{◌≡◌, ℕ, zero, suc, ◌<◌, ◌≤◌, Bool, true, false, cond, not, eqb, List, [], ◌∷◌, length, Option, Some, None, is_some, sym, refl, ap, ◌∙◌, inl, inr, arith}
use mathlib.Core.List.{head-eq_of_cons-eq, tail-eq_of_cons-eq}
use Rattle.std.proofs.lemmas.Bool.{cases_Bool, cases_eq, and_parts, both_ways, not-true, not-false, not_from_false, eqb-true, eq-eqb}
use Rattle.machine.specs.Machine.{Machine, Word, Keys, move, outputs}
use Rattle.machine.specs.Words.{Before, FirstWord, up_to, same}
use Rattle.machine.proofs.Enumeration.{first_in, first_in_is}
use Rattle.machine.proofs.Once.{same_false, differ_same}
use Rattle.minimal.specs.Levels.{alike, agrees_on}
use Rattle.minimal.proofs.Alike.{every_from, every_not, alike_step, alike_zero, alike_shows}
use Rattle.cover.specs.Cover.{Tells, first_telling}
use Rattle.cover.specs.Levels.{first_key}
use Rattle.cover.proofs.Keys.{found_first, find_cases}

-- whether a word tells states t and s apart
abbrev pub telling_test : Machine → ℕ → ℕ → Word → Bool
telling_test m t s w = not (same (outputs m t w) (outputs m s w))

-- the first of some words that tells two states apart is the first that passes the test
pub telling_is_in : (m : Machine) (t s : ℕ) (ws : List Word) → first_telling m t s ws ≡ first_in (telling_test m t s) ws
unfolding first_telling first_in
telling_is_in m t s [] = refl
telling_is_in m t s (w ∷ ws) = go (same (outputs m t w) (outputs m s w)) (telling_is_in m t s ws)
  where
    go : (b : Bool) → first_telling m t s ws ≡ first_in (telling_test m t s) ws → cond b (first_telling m t s ws) w ≡ cond (not b) w (first_in (telling_test m t s) ws)
    go true e = e
    go false e = refl

module _ (k : ℕ) (m : Machine) (t s : ℕ) where
  -- the word that tells t and s apart, found among those of at most as many keys as there are states
  abbrev pub telling_word : Word
  telling_word = first_telling m t s (up_to k (length m))

  -- a word that passes the test tells the states apart
  test_right : (w : Word) → telling_test m t s w ≡ true → Tells m t s w
  test_right w y e = same_false _ _ (not-true _ y) e

  -- and the other way round
  test_complete : (w : Word) → Keys k w → Tells m t s w → telling_test m t s w ≡ true
  test_complete w keys tells = not_from_false _ (differ_same _ _ tells)

  -- the first word of all, if it is not too long, is the one that is found
  telling_is : (w : Word) → FirstWord k (Tells m t s) w → length w ≤ length m → telling_word ≡ w
  telling_is w first short =
      telling_is_in m t s (up_to k (length m))
      ∙ first_in_is k (length m) (telling_test m t s) (Tells m t s) test_right test_complete w first short

-- states that show the same on all words of at most j keys, and not on all of one more
pub record Apart (k : ℕ) (m : Machine) (j t s : ℕ) : Type 0 where
  pub alike_at : alike k m j t s ≡ true
  pub apart_at : alike k m (suc j) t s ≡ false

-- a key shows the same in both states, and leads to states alike at level j
abbrev Agree : ℕ → Machine → ℕ → ℕ → ℕ → ℕ → Type 0
Agree k m j t s x = ((move m t x).output ≡ (move m s x).output) × (alike k m j (move m t x).to (move m s x).to ≡ true)

-- x is the smallest key that does not
pub record FirstKey (k : ℕ) (m : Machine) (j t s x : ℕ) : Type 0 where
  pub inside : x < k
  pub here : Agree k m j t s x → ⊥
  pub none : (y : ℕ) → y < x → Agree k m j t s y

module _ (k : ℕ) (m : Machine) (j t s : ℕ) where
  -- a key that passes the test agrees
  pub agrees : (x : ℕ) → agrees_on k m j t s x ≡ true → Agree k m j t s x
  agrees x e = let both = and_parts (eqb (move m t x).output (move m s x).output) (alike k m j (move m t x).to (move m s x).to) e in (eqb-true _ _ both.0, both.1)

  -- and one that does not pass it does not
  pub disagrees : (x : ℕ) → agrees_on k m j t s x ≡ false → Agree k m j t s x → ⊥
  disagrees x e a = both_ways _ e (rw (eq-eqb _ _ a.0, a.1))

  -- the first key that was found not to agree is the smallest
  pub key_is : (x : ℕ) → first_key k m j t s ≡ Some x → FirstKey k m j t s x
  key_is x e =
      let f = found_first (λ x. not (agrees_on k m j t s x)) k x e in
      record { inside = f.inside; here = disagrees x (not-true _ f.passes); none = λ y l. agrees y (not-false _ (f.none y l)) }

  -- there is such a key exactly if the states are not alike one level higher
  pub key_there : is_some (first_key k m j t s) ≡ not (alike k m (suc j) t s)
  unfolding alike
  key_there =
      elim (find_cases (λ x. not (agrees_on k m j t s x)) k) [
        | inl n ↦ rw (n.0, every_from (agrees_on k m j t s) k (λ x l. not-false _ (n.1 x l))) refl
        | inr f ↦ let r = f.2 in rw (f.1, every_not (agrees_on k m j t s) k f.0 r.inside (not-true _ r.passes)) refl
      ]

  -- so a key tells states apart that are
  pub some_key : Apart k m j t s → (x : ℕ) × (first_key k m j t s ≡ Some x)
  some_key apart = go (first_key k m j t s) refl (key_there ∙ ap not apart.apart_at)
    where
      go : (r : Option ℕ) → first_key k m j t s ≡ r → is_some (first_key k m j t s) ≡ true → (x : ℕ) × (first_key k m j t s ≡ Some x)
      go None e h = absurd (both_ways _ (ap is_some e) h)
      go (Some x) e h = (x, e)

module _ (k : ℕ) (m : Machine) (j t s x : ℕ) (apart : Apart k m j t s) (key : FirstKey k m j t s x) where
  -- behind a smaller key at most j keys tell nothing
  smaller_key : (y : ℕ) (v : Word) → y < x → Keys k v → length v ≤ j → outputs m t (y ∷ v) ≡ outputs m s (y ∷ v)
  unfolding outputs
  smaller_key y v l keys short =
      let a = key.none y l in
      let here = a.0 in
      let rest = alike_shows k m j (move m t y).to (move m s y).to a.1 v keys short in
      cc

  -- the outputs differ: then it is the word of this key alone
  first_last : ((move m t x).output ≡ (move m s x).output → ⊥) → (j ≡ 0) × FirstWord k (Tells m t s) (x ∷ [])
  unfolding outputs
  first_last differ = (at_zero j apart.alike_at, record { keys = (key.inside, tt); holds = λ e. differ (head-eq_of_cons-eq e); earliest = none })
    where
      at_zero : (i : ℕ) → alike k m i t s ≡ true → i ≡ 0
      at_zero zero e = refl
      at_zero (suc i) e = absurd (differ (alike_step k m i t s e x key.inside).0)

      none : (v : Word) → Keys k v → Before v (x ∷ []) → Tells m t s v → ⊥
      none [] keys b tells = tells refl
      none (y ∷ v) keys (inl l) tells = omega arith
      none (y ∷ []) keys (inr (e, inl l)) tells = tells (smaller_key y [] l tt (omega arith))
      none (y ∷ []) keys (inr (e, inr q)) tells = q.1
      none (y ∷ z ∷ v) keys (inr e) tells = let q = e.0 in omega arith

  -- the outputs are the same: then the states behind the key are apart one level lower
  apart_behind : (move m t x).output ≡ (move m s x).output → (i : ℕ) × (j ≡ suc i) × Apart k m i (move m t x).to (move m s x).to
  apart_behind agree = go j refl
    where
      go : (n : ℕ) → j ≡ n → (i : ℕ) × (j ≡ suc i) × Apart k m i (move m t x).to (move m s x).to
      go zero e = absurd (key.here (agree, rw e (alike_zero k m (move m t x).to (move m s x).to)))
      go (suc i) e = (
        i,
        e,
        record {
          alike_at = (alike_step k m i t s (rw e at apart.alike_at) x key.inside).1;
          apart_at = elim (cases_Bool (alike k m (suc i) (move m t x).to (move m s x).to)) [ inl y ↦ absurd (key.here (agree, rw e y)) | inr n ↦ n ];
        },
      )

  -- and the first word is this key and the first word of the states behind it
  first_behind :
      (w : Word) → length w ≡ j → (move m t x).output ≡ (move m s x).output → FirstWord k (Tells m (move m t x).to (move m s x).to) w →
      FirstWord k (Tells m t s) (x ∷ w)
  unfolding outputs
  first_behind w long agree first = record { keys = (key.inside, first.keys); holds = λ e. first.holds (tail-eq_of_cons-eq e); earliest = none }
    where
      at_key : (y : ℕ) (v : Word) → y ≡ x → outputs m (move m t x).to v ≡ outputs m (move m s x).to v → outputs m t (y ∷ v) ≡ outputs m s (y ∷ v)
      at_key y v e rest = rw e (cc)

      none : (v : Word) → Keys k v → Before v (x ∷ w) → Tells m t s v → ⊥
      none v keys (inl l) tells = tells (alike_shows k m j t s apart.alike_at v keys (omega arith))
      none [] keys (inr e) tells = e.1
      none (y ∷ v) keys (inr (e, inl l)) tells = tells (smaller_key y v l keys.1 (omega arith))
      none (y ∷ v) keys (inr (e, inr q)) tells = first.earliest v keys.1 (inr (omega arith, q.1)) (λ r. tells (at_key y v q.0 r))

-- a first word that tells t and s apart, of j + 1 keys
abbrev ToldAt : ℕ → Machine → ℕ → ℕ → ℕ → Type 0
ToldAt k m j t s = (w : Word) × FirstWord k (Tells m t s) w × (length w ≡ suc j)

-- there is one, if there is one for all states that are apart one level lower
told_step : (k : ℕ) (m : Machine) (j t s : ℕ) → Apart k m j t s → ((i p q : ℕ) → j ≡ suc i → Apart k m i p q → ToldAt k m i p q) → ToldAt k m j t s
told_step k m j t s apart lower =
    let f = some_key k m j t s apart in
    let x = f.0 in
    let key = key_is k m j t s x f.1 in
    elim (cases_eq (move m t x).output (move m s x).output) [
      | inl e ↦
          let b = apart_behind k m j t s x apart key e in
          let r = lower b.0 (move m t x).to (move m s x).to b.1 b.2 in
          (x ∷ r.0, first_behind k m j t s x apart key r.0 (r.2 ∙ sym b.1) e r.1, ap suc (r.2 ∙ sym b.1))
      | inr d ↦ let r = first_last k m j t s x apart key d in (x ∷ [], r.1, ap suc (sym r.0))
    ]

-- states apart at level j + 1 are told apart by a first word, of j + 1 keys
told_at_level : (k : ℕ) (m : Machine) (j t s : ℕ) → Apart k m j t s → (w : Word) × FirstWord k (Tells m t s) w × (length w ≡ suc j)
told_at_level k m zero t s apart = told_step k m 0 t s apart (λ i p q e a. absurd (omega arith))
told_at_level k m (suc j) t s apart = told_step k m (suc j) t s apart (λ i p q e a. let same : i ≡ j = omega arith in rw same (told_at_level k m j p q (rw same at a)))

-- in the words of the definition, for states apart at a level that is not too high
module _ (k : ℕ) (m : Machine) (j t s : ℕ) (apart : Apart k m j t s) (low : j < length m) where
  -- there is one for t and s
  told : ToldAt k m j t s
  told = told_at_level k m j t s apart

  -- it is the word that is found
  found : telling_word k m t s ≡ told.0
  found = telling_is k m t s told.0 told.1 (let l = told.2 in omega arith)

  -- the word that is found is the first of all
  pub telling_level : FirstWord k (Tells m t s) (telling_word k m t s)
  telling_level = rw found told.1

  -- it has j + 1 keys
  pub telling_length : length (telling_word k m t s) ≡ suc j
  telling_length = ap length found ∙ told.2

  -- its last key, and any other
  telling_last : (x : ℕ) → FirstKey k m j t s x → ((move m t x).output ≡ (move m s x).output → ⊥) → telling_word k m t s ≡ x ∷ []
  telling_last x key differ = telling_is k m t s (x ∷ []) (first_last k m j t s x apart key differ).1 (let l = low in omega arith)

  -- where the outputs are the same, the word of the states behind the key follows
  telling_more : (x : ℕ) → FirstKey k m j t s x → (move m t x).output ≡ (move m s x).output → telling_word k m t s ≡ x ∷ telling_word k m (move m t x).to (move m s x).to
  telling_more x key agree =
      let b = apart_behind k m j t s x apart key agree in
      let i = b.0 in
      let e = b.1 in
      let l : i < length m = omega arith in
      let w : Word = telling_word k m (move m t x).to (move m s x).to in
      let r = told_at_level k m i (move m t x).to (move m s x).to b.2 in
      let same : w ≡ r.0 = telling_is k m (move m t x).to (move m s x).to r.0 r.1 (let q = r.2 in omega arith) in
      telling_is k m t s (x ∷ w)
      (first_behind k m j t s x apart key w (ap length same ∙ r.2 ∙ sym e) agree (rw same r.1))
      (let q : length w ≡ suc i = ap length same ∙ r.2 in omega arith)

-- the word that is left to find with so many keys left, and what is known of the states there
abbrev pub rest_of : ℕ → Machine → ℕ → ℕ → ℕ → Word
rest_of k m zero t s = []
rest_of k m (suc j) t s = telling_word k m t s

-- with j + 1 keys left the states are apart at level j + 1; with none left nothing is known
abbrev pub Left : ℕ → Machine → ℕ → ℕ → ℕ → Type 0
Left k m zero t s = Unit {0}
Left k m (suc j) t s = Apart k m j t s

-- one key more
pub telling_step :
    (k : ℕ) (m : Machine) (j t s x : ℕ) → j < length m → Apart k m j t s → FirstKey k m j t s x →
    (telling_word k m t s ≡ x ∷ rest_of k m j (move m t x).to (move m s x).to) × Left k m j (move m t x).to (move m s x).to
telling_step k m j t s x low apart key =
    elim (cases_eq (move m t x).output (move m s x).output) [
      | inl e ↦ let b = apart_behind k m j t s x apart key e in rw b.1 (telling_more k m j t s apart low x key e, b.2)
      | inr d ↦ rw (first_last k m j t s x apart key d).0 (telling_last k m j t s apart low x key d, tt)
    ]
