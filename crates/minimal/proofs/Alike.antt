-- States that are alike at a level are those that show the same on words of at most so many keys. Assumes nothing.
use Rattle.std.proofs.Common.{◌≡◌, ℕ, zero, suc, ◌<◌, ◌≤◌, Bool, true, false, eqb, [], ◌∷◌, length, Decides, sym, refl, ◌∙◌, inl, inr, arith}
use mathlib.Core.Bool.{and_comm}
use mathlib.Core.List.{head-eq_of_cons-eq, tail-eq_of_cons-eq}
use Rattle.std.proofs.lemmas.Bool.{cases_Bool, both_ways, and_parts, and_from, eqb-true, eq-eqb}
use Rattle.std.proofs.lemmas.Bool.Decides.{Decides-below_and}
use Rattle.machine.specs.Machine.{Machine, Word, Keys, EquivalentStates, move, outputs}
use Rattle.minimal.specs.Levels.{every_below, alike, agrees_on}

-- every number below n passes
every_decides : (p : ℕ → Bool) (n : ℕ) → Decides (every_below p n) ((x : ℕ) → x < n → p x ≡ true)
unfolding every_below
every_decides p = Decides-below_and p (λ x. p x ≡ true) (every_below p) (λ x. (λ e. e, λ e. e)) refl (λ n. and_comm (every_below p n) (p n))

-- if all pass, each number below n passes
pub every_holds : (p : ℕ → Bool) (n : ℕ) → every_below p n ≡ true → (x : ℕ) → x < n → p x ≡ true
every_holds p n = (every_decides p n).0

-- and the other way round
pub every_from : (p : ℕ → Bool) (n : ℕ) → ((x : ℕ) → x < n → p x ≡ true) → every_below p n ≡ true
every_from p n = (every_decides p n).1

-- if one number below n does not pass, not all pass
pub every_not : (p : ℕ → Bool) (n x : ℕ) → x < n → p x ≡ false → every_below p n ≡ false
every_not p n x l e = elim (cases_Bool (every_below p n)) [ inl y ↦ absurd (both_ways _ e (every_holds p n y x l)) | inr f ↦ f ]

module _ (k : ℕ) (m : Machine) where
  -- one key more: the same output, and alike behind it
  pub alike_step : (j s t : ℕ) → alike k m (suc j) s t ≡ true → (x : ℕ) → x < k → ((move m s x).output ≡ (move m t x).output) × (alike k m j (move m s x).to (move m t x).to ≡ true)
  unfolding alike
  alike_step j s t h x l =
      let both = and_parts (eqb (move m s x).output (move m t x).output) (alike k m j (move m s x).to (move m t x).to) (every_holds (agrees_on k m j s t) k h x l) in
      (eqb-true _ _ both.0, both.1)

  -- and the other way round
  pub alike_from : (j s t : ℕ) → ((x : ℕ) → x < k → ((move m s x).output ≡ (move m t x).output) × (alike k m j (move m s x).to (move m t x).to ≡ true)) → alike k m (suc j) s t ≡ true
  unfolding alike
  alike_from j s t h = every_from (agrees_on k m j s t) k (λ x l. let b = h x l in and_from _ _ (eq-eqb _ _ b.0) b.1)

  -- at level 0 all states are alike
  pub alike_zero : (s t : ℕ) → alike k m 0 s t ≡ true
  unfolding alike
  alike_zero s t = refl

  -- alike at a level: the same on words of at most so many keys
  pub alike_shows : (j s t : ℕ) → alike k m j s t ≡ true → (w : Word) → Keys k w → length w ≤ j → outputs m s w ≡ outputs m t w
  unfolding outputs
  alike_shows j s t h [] ok l = refl
  alike_shows zero s t h (x ∷ w) ok l = absurd (omega arith)
  alike_shows (suc j) s t h (x ∷ w) ok l =
      let b = alike_step j s t h x ok.0 in
      let rest = alike_shows j (move m s x).to (move m t x).to b.1 w ok.1 (omega arith) in
      let here = b.0 in
      cc

  -- and the other way round
  pub shows_alike : (j s t : ℕ) → ((w : Word) → Keys k w → length w ≤ j → outputs m s w ≡ outputs m t w) → alike k m j s t ≡ true
  unfolding outputs
  shows_alike zero s t h = alike_zero s t
  shows_alike (suc j) s t h =
      alike_from j s t (λ x l.
      (head-eq_of_cons-eq (h (x ∷ []) (l, tt) (omega arith)), shows_alike j (move m s x).to (move m t x).to (λ w ok b. tail-eq_of_cons-eq (h (x ∷ w) (l, ok) (omega arith)))))

  -- every state is alike to itself
  pub alike_itself : (j s : ℕ) → alike k m j s s ≡ true
  alike_itself j s = shows_alike j s s (λ w ok l. refl)

  -- if s is alike to t, then t is alike to s
  pub alike_back : (j s t : ℕ) → alike k m j s t ≡ true → alike k m j t s ≡ true
  alike_back j s t h = shows_alike j t s (λ w ok l. sym (alike_shows j s t h w ok l))

  -- if s is alike to t, and t to u, then s is alike to u
  pub alike_through : (j s t u : ℕ) → alike k m j s t ≡ true → alike k m j t u ≡ true → alike k m j s u ≡ true
  alike_through j s t u a b = shows_alike j s u (λ w ok l. alike_shows j s t a w ok l ∙ alike_shows j t u b w ok l)

  -- a higher level tells more states apart
  pub alike_lower : (i j s t : ℕ) → i ≤ j → alike k m j s t ≡ true → alike k m i s t ≡ true
  alike_lower i j s t h a = shows_alike i s t (λ w ok l. alike_shows j s t a w ok (omega arith))

  -- equivalent states are alike at every level
  pub equivalent_alike : (j s t : ℕ) → EquivalentStates k m s t → alike k m j s t ≡ true
  equivalent_alike j s t h = shows_alike j s t (λ w ok l. h w ok)

  -- and the other way round
  pub alike_equivalent : (s t : ℕ) → ((j : ℕ) → alike k m j s t ≡ true) → EquivalentStates k m s t
  alike_equivalent s t h w ok = alike_shows (length w) s t (h (length w)) w ok (omega arith)
