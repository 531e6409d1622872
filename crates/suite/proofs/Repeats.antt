-- A word has come up before exactly if it ends at a marked place, or can be taken apart with a longer word in front. Assumes nothing.
use Rattle.std.specs.List.{list_any}
use Rattle.std.proofs.Common.{◌≡◌, ℕ, suc, ◌+◌, ◌-◌, ◌<◌, ◌≤◌, Bool, true, false, ◌&&◌, ◌||◌, ltb, leb, ◌⊎◌, List, ◌++◌, length, get_or, take, drop, sym, refl, ap, ◌∙◌, inl, inr, arith, length-append, length-take}
use Rattle.std.proofs.lemmas.List.{take-append-le, take-take, take_at, drop_at}
use Rattle.std.proofs.lemmas.Bool.{cases_lt, and_parts, and_from, or_cases, or_left, or_right, leb-true, le-leb, ltb-true, lt-ltb}
use Rattle.machine.specs.Machine.{Word}
use Rattle.machine.specs.Words.{same}
use Rattle.suite.specs.Enumeration.{within, marks, marked, ends_marked, longer}
use Rattle.suite.specs.Kept.{begins, ends, some_end, parts, some_parts, repeats}
use Rattle.suite.proofs.Any.{any_true, any_from}
use Rattle.suite.proofs.Different.{same_tests}
use Rattle.suite.proofs.Members.{In, same_true, eq_same}
use Rattle.suite.proofs.TakenApart.{Ends, ends_true, ends_from}

-- if c begins with p, its first keys are p
pub begins_true : (p c : Word) → begins p c ≡ true → p ≡ take (length p) c
unfolding begins
begins_true p c h = same_true p (take (length p) c) h

-- and the other way round
begins_from : (p c : Word) → p ≡ take (length p) c → begins p c ≡ true
unfolding begins
begins_from p c e = eq_same p (take (length p) c) e

-- one of n places from a on is not before a, and before a + n
within_true : (a n m : ℕ) → within a n m ≡ true → (a ≤ m) × (m < a + n)
within_true a n m h = let r = and_parts (leb a m) (ltb m (a + n)) h in (leb-true a m r.0, ltb-true m (a + n) r.1)

-- and the other way round
within_from : (a n m : ℕ) → a ≤ m → m < a + n → within a n m ≡ true
within_from a n m l g = and_from (leb a m) (ltb m (a + n)) (le-leb a m l) (lt-ltb m (a + n) g)

-- the two words of which a word with p in front is made
parts_true : (n : ℕ) (ws : List Word) (p c : Word) → parts n ws p c ≡ true → (p ≡ take (length p) c) × ((w : Word) × In w ws × Ends (length p) n w c)
unfolding parts
parts_true n ws p c h =
    let r = and_parts (begins p c) (some_end (length p) n ws c) h in
    let s = any_true (λ z. ends (length p) n z c) ws r.1 in
    (begins_true p c r.0, (s.0, s.1, ends_true (length p) n s.0 c s.2))

-- and the other way round
parts_from : (n : ℕ) (ws : List Word) (p c w : Word) → p ≡ take (length p) c → In w ws → Ends (length p) n w c → parts n ws p c ≡ true
unfolding parts
parts_from n ws p c w b i r = and_from (begins p c) (some_end (length p) n ws c) (begins_from p c b) (any_from (λ z. ends (length p) n z c) ws w i (ends_from (length p) n w c r))

-- if p marks place m, f begins with p and the place is fewer than n keys behind it
marks_true : (n : ℕ) (f : Word) (m : ℕ) (p : Word) → marks n f m p ≡ true → (p ≡ take (length p) f) × (length p ≤ m) × (m < length p + n)
unfolding marks
marks_true n f m p h =
    let r = and_parts (begins p f) (within (length p) n m) h in
    let s = within_true (length p) n m r.1 in
    (begins_true p f r.0, s.0, s.1)

-- and the other way round
marks_from : (n : ℕ) (f : Word) (m : ℕ) (p : Word) → p ≡ take (length p) f → length p ≤ m → m < length p + n → marks n f m p ≡ true
unfolding marks
marks_from n f m p e l g = and_from (begins p f) (within (length p) n m) (begins_from p f e) (within_from (length p) n m l g)

-- a longer word that begins with f goes on from it
pub longer_from : (f p : Word) → length f < length p → f ≡ take (length f) p → longer f p ≡ true
unfolding longer
longer_from f p l e = and_from (ltb (length f) (length p)) (begins f p) (lt-ltb (length f) (length p) l) (begins_from f p e)

-- and the other way round
pub longer_true : (f p : Word) → longer f p ≡ true → (length f < length p) × (f ≡ take (length f) p)
unfolding longer
longer_true f p h = let r = and_parts (ltb (length f) (length p)) (begins f p) h in (ltb-true (length f) (length p) r.0, begins_true f p r.1)

-- if c ends with z at a marked place: z is no longer than c, its place has a mark, and c ends with it
ends_marked_true : (at : List Bool) (c z : Word) → ends_marked at c z ≡ true → (length z ≤ length c) × (get_or at (length c - length z) false ≡ true) × (z ≡ drop (length c - length z) c)
unfolding ends_marked
ends_marked_true at c z h =
    let r = and_parts (leb (length z) (length c)) (get_or at (length c - length z) false && same z (drop (length c - length z) c)) h in
    let s = and_parts (get_or at (length c - length z) false) (same z (drop (length c - length z) c)) r.1 in
    (leb-true (length z) (length c) r.0, s.0, same_true z (drop (length c - length z) c) s.1)

-- and the other way round
ends_marked_from : (at : List Bool) (c z : Word) → length z ≤ length c → get_or at (length c - length z) false ≡ true → z ≡ drop (length c - length z) c → ends_marked at c z ≡ true
unfolding ends_marked
ends_marked_from at c z l y e = and_from (leb (length z) (length c)) _ (le-leb (length z) (length c) l) (and_from (get_or at (length c - length z) false) (same z (drop (length c - length z) c)) y (eq_same z (drop (length c - length z) c) e))

-- behind a beginning that has all its keys, whatever ends at a marked place has come up before
pub begun_repeats :
    (e j own : ℕ) (ws earlier : List Word) (f w : Word) → length f ≡ own + j → marked e earlier own j f (length f) ≡ true → In w ws →
    repeats e ws earlier (take own f) j (f ++ w) ≡ true
unfolding marked repeats
begun_repeats e j own ws earlier f w full mark inside = elim (or_cases (within own j (length f)) (list_any (marks (suc e) f (length f)) earlier) mark) [
  | inl h ↦ absurd (let r = (within_true own j (length f) h).1 in omega (arith, r))
  | inr h ↦
      let r = any_true (marks (suc e) f (length f)) earlier h in
      let p = r.0 in
      let m = marks_true (suc e) f (length f) p r.2 in
      let least = m.1 in
      let most = m.2 in
      let long = length-append f w in
      let at : length (f ++ w) - length w ≡ length f = omega (arith, long) in
      or_left _ _ (any_from (λ q. parts (suc e) ws q (f ++ w)) earlier p r.1
      (parts_from (suc e) ws p (f ++ w) w (m.0 ∙ sym (take-append-le (length p) f w least)) inside
      (record { room = omega (arith, long, least); close = omega (arith, long, most); end = sym (drop_at f w _ (sym at)) })))
]

module _ (e j own : ℕ) (ws earlier : List Word) (f w : Word) (at : List Bool) (l : Bool)
    (inside : own ≤ length f) (short : length (f ++ w) < 36)
    (places : (m : ℕ) → m < 36 → get_or at m false ≡ marked e earlier own j f m)
    (long : l ≡ list_any (longer f) earlier) where
  -- the test: the beginning f and the end w
  abbrev c : Word
  c = f ++ w

  -- the word in front
  abbrev v : Word
  v = take own f

  -- it has `own` keys
  long_v : length v ≡ own
  long_v = omega (arith, length-take own f)

  -- what f begins with, c begins with
  front : (p : Word) → p ≡ take (length p) f → p ≡ take (length p) c
  front p h = h ∙ sym (take-append-le (length p) f w (omega (arith, ap length h, length-take (length p) f)))

  -- c begins with the word in front
  own_front : v ≡ take (length v) c
  own_front = front v (ap (λ n. take n f) (sym long_v))

  -- if one of the words stands at the end of c and starts at a marked place, c has come up before
  at_marked : (z : Word) → In z ws → length z ≤ length c → z ≡ drop (length c - length z) c → marked e earlier own j f (length c - length z) ≡ true → repeats e ws earlier v j c ≡ true
  unfolding marked repeats
  at_marked z i h g y =
      elim (or_cases (within own j (length c - length z)) (list_any (marks (suc e) f (length c - length z)) earlier) y) [
        | inl a ↦ or_right (some_parts (suc e) ws earlier c) (parts j ws v c) (mine (within_true own j (length c - length z) a))
        | inr b ↦ or_left (some_parts (suc e) ws earlier c) (parts j ws v c) (other (any_true (marks (suc e) f (length c - length z)) earlier b))
      ]
    where
      mine : (own ≤ length c - length z) × (length c - length z < own + j) → parts j ws v c ≡ true
      mine r = let a = r.0 in let b = r.1 in parts_from j ws v c z own_front i (record { room = omega (arith, long_v); close = omega (arith, long_v); end = g })

      other : (p : Word) × In p earlier × (marks (suc e) f (length c - length z) p ≡ true) → some_parts (suc e) ws earlier c ≡ true
      other r = any_from (λ p. parts (suc e) ws p c) earlier r.0 r.1 (made r.0 r.2)
        where
          made : (p : Word) → marks (suc e) f (length c - length z) p ≡ true → parts (suc e) ws p c ≡ true
          made p h' =
              let t = marks_true (suc e) f (length c - length z) p h' in
              let a = t.1 in
              let b = t.2 in
              parts_from (suc e) ws p c z (front p t.0) i (record { room = omega arith; close = omega arith; end = g })

  -- if c ends with one of the words at a place with a mark, c has come up before
  marked_repeats : list_any (ends_marked at c) ws ≡ true → repeats e ws earlier v j c ≡ true
  marked_repeats h = ends_there (any_true (ends_marked at c) ws h)
    where
      ends_there : (z : Word) × In z ws × (ends_marked at c z ≡ true) → repeats e ws earlier v j c ≡ true
      ends_there r =
          let t = ends_marked_true at c r.0 r.2 in
          at_marked r.0 r.1 t.0 t.2 (sym (places (length c - length r.0) (omega arith)) ∙ t.1)

  -- a place with a mark at which a word ends
  ends_here : (z : Word) → In z ws → length z ≤ length c → z ≡ drop (length c - length z) c → marked e earlier own j f (length c - length z) ≡ true → list_any (ends_marked at c) ws ≡ true
  ends_here z i h g y = any_from (ends_marked at c) ws z i (ends_marked_from at c z h (places (length c - length z) (omega arith) ∙ y) g)

  -- if c has come up before, a mark shows it, or an earlier word does and one goes on from f
  repeats_marked : repeats e ws earlier v j c ≡ true → (list_any (ends_marked at c) ws || (l && some_parts (suc e) ws earlier c)) ≡ true
  unfolding repeats marked
  repeats_marked h =
      elim (or_cases (some_parts (suc e) ws earlier c) (parts j ws v c) h) [
        | inl a ↦ other a (any_true (λ p. parts (suc e) ws p c) earlier a)
        | inr b ↦ or_left (list_any (ends_marked at c) ws) (l && some_parts (suc e) ws earlier c) (mine (parts_true j ws v c b))
      ]
    where
      mine : (v ≡ take (length v) c) × ((z : Word) × In z ws × Ends (length v) j z c) → list_any (ends_marked at c) ws ≡ true
      mine r =
          let t = r.1.2 in
          let a = t.room in
          let b = t.close in
          ends_here r.1.0 r.1.1 (omega arith) t.end (or_left (within own j (length c - length r.1.0)) (list_any (marks (suc e) f (length c - length r.1.0)) earlier) (within_from own j (length c - length r.1.0) (omega (arith, long_v)) (omega (arith, long_v))))

      by_length : (p : Word) → In p earlier → (p ≡ take (length p) c) × ((z : Word) × In z ws × Ends (length p) (suc e) z c) → (list_any (ends_marked at c) ws ≡ true) ⊎ (list_any (longer f) earlier ≡ true)
      by_length p i r =
          elim (cases_lt (length f) (length p)) [
            | inl g ↦ inr (any_from (longer f) earlier p i (longer_from f p g (sym (take_at f w (length f) refl) ∙ sym (take-take (length f) (length p) c (omega arith)) ∙ ap (take (length f)) (sym r.0))))
            | inr g ↦ let t = r.1.2 in let a = t.room in let b = t.close in
                inl (ends_here r.1.0 r.1.1 (omega arith) t.end (or_right (within own j (length c - length r.1.0)) (list_any (marks (suc e) f (length c - length r.1.0)) earlier) (any_from (marks (suc e) f (length c - length r.1.0)) earlier p i (marks_from (suc e) f (length c - length r.1.0) p (r.0 ∙ take-append-le (length p) f w g) (omega arith) (omega arith)))))
          ]

      other : some_parts (suc e) ws earlier c ≡ true → (p : Word) × In p earlier × (parts (suc e) ws p c ≡ true) → (list_any (ends_marked at c) ws || (l && some_parts (suc e) ws earlier c)) ≡ true
      other a r =
          elim (by_length r.0 r.1 (parts_true (suc e) ws r.0 c r.2)) [
            | inl y ↦ or_left (list_any (ends_marked at c) ws) (l && some_parts (suc e) ws earlier c) y
            | inr y ↦ or_right (list_any (ends_marked at c) ws) (l && some_parts (suc e) ws earlier c) (and_from l (some_parts (suc e) ws earlier c) (long ∙ y) a)
          ]

  -- so the marks, and the earlier words if one goes on from f, tell whether c has come up before
  pub repeats_found : (list_any (ends_marked at c) ws || (l && some_parts (suc e) ws earlier c)) ≡ repeats e ws earlier v j c
  unfolding repeats
  repeats_found = same_tests (list_any (ends_marked at c) ws || (l && some_parts (suc e) ws earlier c)) (repeats e ws earlier v j c)
      (λ h. elim (or_cases (list_any (ends_marked at c) ws) (l && some_parts (suc e) ws earlier c) h) [
        | inl a ↦ marked_repeats a
        | inr b ↦ or_left (some_parts (suc e) ws earlier c) (parts j ws v c) (and_parts l (some_parts (suc e) ws earlier c) b).1
      ])
      repeats_marked
