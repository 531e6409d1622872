-- The order of words is a strict order in which any two words are comparable, and it grows with a key at the end. Assumes nothing.
use Rattle.std.proofs.Common.{◌≡◌, ℕ, suc, ◌<◌, ◌≤◌, ◌⊎◌, [], ◌∷◌, ◌++◌, length, sym, refl, ap, ◌∙◌, inl, inr, arith, length-append}
use Rattle.std.proofs.lemmas.Bool.{cases_order}
use Rattle.machine.specs.Machine.{Word}
use Rattle.machine.specs.Words.{Smaller, Before, FirstWord}

-- no word is smaller than itself
smaller_irreflexive : (u : Word) → Smaller u u → ⊥
smaller_irreflexive [] h = h
smaller_irreflexive (x ∷ u) (inl l) = omega arith
smaller_irreflexive (x ∷ u) (inr e) = smaller_irreflexive u e.1

-- if u is smaller than v, and v than w, then u is smaller than w
smaller_transitive : (u v w : Word) → Smaller u v → Smaller v w → Smaller u w
smaller_transitive [] v w a b = absurd a
smaller_transitive (x ∷ u) [] w a b = absurd a
smaller_transitive (x ∷ u) (y ∷ v) [] a b = absurd b
smaller_transitive (x ∷ u) (y ∷ v) (z ∷ w) (inl a) (inl b) = inl (omega arith)
smaller_transitive (x ∷ u) (y ∷ v) (z ∷ w) (inl a) (inr b) = inl (let e = b.0 in omega arith)
smaller_transitive (x ∷ u) (y ∷ v) (z ∷ w) (inr a) (inl b) = inl (let e = a.0 in omega arith)
smaller_transitive (x ∷ u) (y ∷ v) (z ∷ w) (inr a) (inr b) = inr (a.0 ∙ b.0, smaller_transitive u v w a.1 b.1)

-- two words of one length are equal, or one of them is smaller
smaller_cases : (u v : Word) → length u ≡ length v → (u ≡ v) ⊎ (Smaller u v ⊎ Smaller v u)
smaller_cases [] [] e = inl refl
smaller_cases [] (y ∷ v) e = absurd (omega arith)
smaller_cases (x ∷ u) [] e = absurd (omega arith)
smaller_cases (x ∷ u) (y ∷ v) e =
    elim (cases_order x y) [
      | inl q ↦ elim (smaller_cases u v (omega arith)) [
        | inl r ↦ inl (cc)
        | inr r ↦ elim r [ inl a ↦ inr (inl (inr (q, a))) | inr a ↦ inr (inr (inr (sym q, a))) ]
      ]
      | inr r ↦ elim r [ inl a ↦ inr (inl (inl a)) | inr a ↦ inr (inr (inl a)) ]
    ]

-- with whatever behind
smaller_append : (u v p q : Word) → length u ≡ length v → Smaller u v → Smaller (u ++ p) (v ++ q)
smaller_append [] v p q e a = absurd a
smaller_append (x ∷ u) [] p q e a = absurd a
smaller_append (x ∷ u) (y ∷ v) p q e (inl a) = inl a
smaller_append (x ∷ u) (y ∷ v) p q e (inr a) = inr (a.0, smaller_append u v p q (omega arith) a.1)

-- with the same in front
smaller_behind : (u v w : Word) → Smaller v w → Smaller (u ++ v) (u ++ w)
smaller_behind [] v w h = h
smaller_behind (x ∷ u) v w h = inr (refl, smaller_behind u v w h)

-- no word comes before itself
pub before_irreflexive : (u : Word) → Before u u → ⊥
before_irreflexive u (inl l) = omega arith
before_irreflexive u (inr e) = smaller_irreflexive u e.1

-- if u comes before v, and v before w, then u comes before w
pub before_transitive : (u v w : Word) → Before u v → Before v w → Before u w
before_transitive u v w (inl a) (inl b) = inl (omega arith)
before_transitive u v w (inl a) (inr b) = inl (let e = b.0 in omega arith)
before_transitive u v w (inr a) (inl b) = inl (let e = a.0 in omega arith)
before_transitive u v w (inr a) (inr b) = inr (a.0 ∙ b.0, smaller_transitive u v w a.1 b.1)

-- two words are equal, or one of them comes before the other
pub before_cases : (u v : Word) → (u ≡ v) ⊎ (Before u v ⊎ Before v u)
before_cases u v =
    elim (cases_order (length u) (length v)) [
      | inl e ↦ elim (smaller_cases u v e) [ inl q ↦ inl q | inr r ↦ elim r [ inl a ↦ inr (inl (inr (e, a))) | inr a ↦ inr (inr (inr (sym e, a))) ] ]
      | inr r ↦ elim r [ inl a ↦ inr (inl (inl a)) | inr a ↦ inr (inr (inl a)) ]
    ]

-- a word that comes before another is not longer
pub before_longer : (u v : Word) → Before u v → length u ≤ length v
before_longer u v (inl l) = omega arith
before_longer u v (inr e) = let q = e.0 in omega arith

-- one key more behind each
pub before_key : (u v : Word) (x y : ℕ) → Before u v → Before (u ++ x ∷ []) (v ++ y ∷ [])
before_key u v x y (inl l) = inl (omega (arith, length-append u (x ∷ []), length-append v (y ∷ [])))
before_key u v x y (inr e) =
    let q = e.0 in
    inr (omega (arith, length-append u (x ∷ []), length-append v (y ∷ [])), smaller_append u v (x ∷ []) (y ∷ []) q e.1)

-- one key more behind the same word
pub before_last : (u : Word) (x y : ℕ) → x < y → Before (u ++ x ∷ []) (u ++ y ∷ [])
before_last u x y h = inr (omega (arith, length-append u (x ∷ []), length-append u (y ∷ [])), smaller_behind u (x ∷ []) (y ∷ []) (inl h))

-- one key more in front of each
pub before_front : (x : ℕ) (u v : Word) → Before u v → Before (x ∷ u) (x ∷ v)
before_front x u v (inl l) = inl (omega arith)
before_front x u v (inr e) = inr (ap suc e.0, inr (refl, e.1))

-- there is only one first word
pub first_word_unique : (k : ℕ) (P : Word → Type 0) (u v : Word) → FirstWord k P u → FirstWord k P v → u ≡ v
first_word_unique k P u v a b =
    elim (before_cases u v) [
      | inl e ↦ e
      | inr r ↦ elim r [ inl l ↦ absurd (b.earliest u a.keys l a.holds) | inr l ↦ absurd (a.earliest v b.keys l b.holds) ]
    ]
