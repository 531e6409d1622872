-- Whatever passes the tests and has at most e states more is equivalent. Assumes nothing.
use Rattle.std.proofs.Common.{◌≡◌, ℕ, suc, ◌+◌, ◌<◌, ◌≤◌, List, [], ◌∷◌, ◌++◌, length, get_or, take, drop, sym, refl, ap, ◌∙◌, inl, inr, append_assoc, arith, length-append, length-drop, length-take}
use mathlib.Core.List.Memᴰ
use Rattle.std.proofs.ByRecursion.{All-append, All-take, All-drop}
use Rattle.std.proofs.lemmas.List.{append-nil, take-append-drop}
use Rattle.std.proofs.lemmas.Bool.{cases_lt}
use Rattle.machine.specs.Machine.{Machine, Word, Keys, Proper, Equivalent, move, outputs, after}
use Rattle.machine.proofs.Pigeonhole.{pigeonhole_two}
use Rattle.machine.proofs.Runs.{after_append, outputs_front, outputs_behind, after_below}
use Rattle.cover.specs.Cover.{Reaches, Separates}
use Rattle.suite.specs.Promises.{PassingSuiteIsEquivalent}
use Rattle.suite.specs.Suite.{suite, Passes}
use Rattle.suite.proofs.Members.{In, in_get_or, all_in, in_suite}

module _ (k e : ℕ) (m i : Machine) (qs ws : List Word) (pm : Proper k m) (pi : Proper k i) (few : length i ≤ length m + e)
    (reach : Reaches k m qs) (sep : Separates m ws) (passes : Passes m i (suite k e qs ws)) where
  -- behind a word that reaches and at most e + 1 keys both machines show the same on every word that tells apart
  behind : (q u w : Word) → In q qs → Keys k u → length u ≤ suc e → In w ws → outputs m (after m 0 (q ++ u)) w ≡ outputs i (after i 0 (q ++ u)) w
  behind q u w a h l b = outputs_behind m i 0 0 (q ++ u) w (rw append_assoc (all_in (λ t. outputs m 0 t ≡ outputs i 0 t) (suite k e qs ws) passes (in_suite k e u a h l b)))

  -- two such words that lead the implementation to one state lead the specification to one state
  told : (q u p v : Word) → In q qs → Keys k u → length u ≤ suc e → In p qs → Keys k v → length v ≤ suc e →
      after i 0 (q ++ u) ≡ after i 0 (p ++ v) → after m 0 (q ++ u) ≡ after m 0 (p ++ v)
  told q u p v a h l b g n same =
      sep.tells (after m 0 (q ++ u)) (after m 0 (p ++ v)) (after_below pm 0 (q ++ u) pm.some) (after_below pm 0 (p ++ v) pm.some)
      (λ j inside. let w = in_get_or ws j inside in behind q u _ a h l w ∙ ap (λ s. outputs i s (get_or ws j [])) same ∙ sym (behind p v _ b g n w))

  -- a word that reaches a state, if the state is there
  choice : (s : ℕ) → (q : Word) × (s < length m → In q qs × (after m 0 q ≡ s))
  choice s = elim (cases_lt s (length m)) [
    | inl h ↦ let r = reach.every s h in (get_or qs r.0 [], λ _. (in_get_or qs r.0 r.1, r.2))
    | inr g ↦ ([], λ h. absurd (omega arith))
  ]

  -- words that reach different states lead the implementation to different states
  ways_apart : (a b : ℕ) → a < b → b < length m → after i 0 (choice a).0 ≡ after i 0 (choice b).0 → ⊥
  ways_apart a b l h same =
      let ca = (choice a).1 (omega arith) in
      let cb = (choice b).1 h in
      let plain : (q : Word) → q ++ [] ≡ q = append-nil in
      let one : after i 0 ((choice a).0 ++ []) ≡ after i 0 ((choice b).0 ++ []) = rw (plain (choice a).0, plain (choice b).0) same in
      let two = told (choice a).0 [] (choice b).0 [] ca.0 tt (omega arith) cb.0 tt (omega arith) one in
      let three : after m 0 (choice a).0 ≡ after m 0 (choice b).0 = ap (after m 0) (sym (plain (choice a).0)) ∙ two ∙ ap (after m 0) (plain (choice b).0) in
      let four : a ≡ b = sym ca.1 ∙ three ∙ cb.1 in
      omega arith

  -- a word that reaches and at most e keys behind it, to a state of the implementation
  abbrev Near : ℕ → Type 0
  Near s = (p : Word) × (w : Word) × In p qs × Keys k w × (length w ≤ e) × (s ≡ after i 0 (p ++ w))

  -- behind a word that reaches, e + 1 keys lead to a state that such a word and at most e keys lead to
  shorter : (q u : Word) → In q qs → Keys k u → length u ≡ suc e → Near (after i 0 (q ++ u))
  shorter q u a h l = elim (pigeonhole_two (length m) e (λ s. after i 0 (choice s).0) (λ j. after i 0 (q ++ take (suc j) u)) (λ s _. low (choice s).0) (λ j _. low (q ++ take (suc j) u)) ways_apart) [
    | inl c ↦ let b = (choice c.0).1 c.2 in let j = c.1 in let most = c.3 in (
      (choice c.0).0,
      drop (suc c.1) u,
      b.0,
      All-drop (λ x. x < k) (suc c.1) u h,
      omega (arith, length-drop (suc c.1) u),
      split (suc c.1) ∙ ap (λ s. after i s (drop (suc c.1) u)) (sym c.4) ∙ sym (after_append i 0 (choice c.0).0 (drop (suc c.1) u)),
    )
    | inr c ↦ let less = c.2 in let most = c.3 in (
      q,
      take (suc c.0) u ++ drop (suc c.1) u,
      a,
      All-append (λ x. x < k) (take (suc c.0) u) (drop (suc c.1) u) (All-take (λ x. x < k) (suc c.0) u h) (All-drop (λ x. x < k) (suc c.1) u h),
      omega (arith, length-append (take (suc c.0) u) (drop (suc c.1) u), length-take (suc c.0) u, length-drop (suc c.1) u),
      split (suc c.1) ∙ ap (λ s. after i s (drop (suc c.1) u)) (sym c.4) ∙ sym (after_append i 0 (q ++ take (suc c.0) u) (drop (suc c.1) u))
          ∙ ap (after i 0) (append_assoc q (take (suc c.0) u) (drop (suc c.1) u)),
    )
  ]
    where
      low : (w : Word) → after i 0 w < length m + e
      low w = omega (arith, after_below pi 0 w pi.some)

      split : (j : ℕ) → after i 0 (q ++ u) ≡ after i (after i 0 (q ++ take j u)) (drop j u)
      split j = ap (λ z. after i 0 (q ++ z)) (sym (take-append-drop j u)) ∙ ap (after i 0) (sym (append_assoc q (take j u) (drop j u))) ∙ after_append i 0 (q ++ take j u) (drop j u)

  -- the same for at most e + 1 keys
  near : (q u : Word) → In q qs → Keys k u → length u ≤ suc e → Near (after i 0 (q ++ u))
  near q u a h l = elim (cases_lt (length u) (suc e)) [
    | inl g ↦ (q, u, a, h, omega arith, refl)
    | inr g ↦ shorter q u a h (omega arith)
  ]

  -- behind a word that reaches and at most e keys both machines show the same on every word
  alike_behind : (v q u : Word) → Keys k v → In q qs → Keys k u → length u ≤ e → outputs m (after m 0 (q ++ u)) v ≡ outputs i (after i 0 (q ++ u)) v
  unfolding outputs after
  alike_behind [] q u g a h l = refl
  alike_behind (x ∷ v) q u g a h l = both shows (rest (near q (u ++ x ∷ []) a longer long) (λ p w b c d. alike_behind v p w g.1 b c d))
    where
      longer : Keys k (u ++ x ∷ [])
      longer = All-append (λ y. y < k) u (x ∷ []) h (g.0, tt)

      long : length (u ++ x ∷ []) ≤ suc e
      long = omega (arith, length-append u (x ∷ []))

      step : (n : Machine) → after n 0 (q ++ (u ++ x ∷ [])) ≡ (move n (after n 0 (q ++ u)) x).to
      step n = ap (after n 0) (sym (append_assoc q u (x ∷ []))) ∙ after_append n 0 (q ++ u) (x ∷ [])

      w : Word
      w = get_or ws 0 []

      -- by the key that follows, since it is followed by a word that tells apart
      key : outputs m (after m 0 (q ++ u)) (x ∷ w) ≡ outputs i (after i 0 (q ++ u)) (x ∷ w)
      key = outputs_behind m i 0 0 (q ++ u) (x ∷ w) (rw (whole) (all_in (λ t. outputs m 0 t ≡ outputs i 0 t) (suite k e qs ws) passes (in_suite k e (u ++ x ∷ []) a longer long (in_get_or ws 0 sep.some))))
        where
          whole : (q ++ u) ++ (x ∷ w) ≡ q ++ ((u ++ x ∷ []) ++ w)
          whole = simp append_assoc

      shows : (move m (after m 0 (q ++ u)) x).output ≡ (move i (after i 0 (q ++ u)) x).output
      shows = let f = outputs_front m i (after m 0 (q ++ u)) (after i 0 (q ++ u)) (x ∷ []) w key in cc

      rest : Near (after i 0 (q ++ (u ++ x ∷ []))) → ((p w : Word) → In p qs → Keys k w → length w ≤ e → outputs m (after m 0 (p ++ w)) v ≡ outputs i (after i 0 (p ++ w)) v) →
          outputs m (move m (after m 0 (q ++ u)) x).to v ≡ outputs i (move i (after i 0 (q ++ u)) x).to v
      rest n below =
          let same = told q (u ++ x ∷ []) n.0 n.1 a longer long n.2 n.3 (let s = n.4 in omega arith) n.5 in
          ap (λ s. outputs m s v) (sym (step m) ∙ same) ∙ below n.0 n.1 n.2 n.3 n.4 ∙ ap (λ s. outputs i s v) (sym n.5 ∙ step i)

      both : {a b : ℕ} {c d : List ℕ} → a ≡ b → c ≡ d → a ∷ c ≡ b ∷ d
      both p r = cc

  -- both machines show the same on every word of keys
  equivalent : Equivalent k m i
  unfolding after
  equivalent v h = let b = reach.begins in alike_behind v [] [] h (Memᴰ.cast (sym b.2) (in_get_or qs b.0 b.1)) tt (omega arith)

-- so for all machines, words that reach, and words that tell apart
pub passing_suite_is_equivalent : PassingSuiteIsEquivalent
passing_suite_is_equivalent k e m i qs ws pm pi few reach sep passes = equivalent k e m i qs ws pm pi few reach sep passes
