-- A minimal machine has the fewest states; two minimal machines that are equivalent are one but for the numbers of their states,
-- and with their states numbered by first words they are one. Assumes nothing.
use Rattle.std.proofs.Common.{◌≡◌, ℕ, zero, suc, ◌+◌, ◌-◌, ◌<◌, ◌≤◌, [], ◌∷◌, ◌++◌, length, get_or, sym, ap, ◌∙◌, inl, inr, arith}
use mathlib.Core.List.{head-eq_of_cons-eq}
use Rattle.std.proofs.ByRecursion.{All-append}
use Rattle.std.proofs.lemmas.List.{ext_get_or}
use Rattle.std.proofs.lemmas.Bool.{cases_lt, cases_order}
use Rattle.machine.specs.Machine.{Machine, Move, Word, Keys, Proper, Minimal, SameOutputs, Equivalent, move, no_move, outputs, after}
use Rattle.machine.specs.Words.{Before}
use Rattle.machine.proofs.Cut.{first_access}
use Rattle.machine.proofs.Order.{before_transitive}
use Rattle.machine.proofs.Pigeonhole.{pigeonhole}
use Rattle.machine.proofs.Runs.{outputs_behind, after_below, move_below}
use Rattle.minimal.specs.Minimal.{Numbered}
use Rattle.minimal.specs.Promises.{Renaming, MinimalUnique, MinimalNumberedUnique}

-- behind a word of keys
pub same_behind : {k : ℕ} (m i : Machine) (s t : ℕ) (u : Word) → Keys k u → SameOutputs k m s i t → SameOutputs k m (after m s u) i (after i t u)
same_behind {k} m i s t u ok h v keys = outputs_behind m i s t u v (h (u ++ v) (All-append (λ x. x < k) u v ok keys))

-- one key
pub same_key : {k : ℕ} (m i : Machine) (s t x : ℕ) → x < k → SameOutputs k m s i t → ((move m s x).output ≡ (move i t x).output) × SameOutputs k m (move m s x).to i (move i t x).to
unfolding outputs after
same_key m i s t x hx h = (head-eq_of_cons-eq (h (x ∷ []) (hx, tt)), same_behind m i s t (x ∷ []) (hx, tt) h)

-- a minimal machine's states can be told apart in a machine that is equivalent to it, so there are no fewer of them there
pub least : (k : ℕ) (l i : Machine) → Minimal k l → Proper k i → Equivalent k l i → length l ≤ length i
least k l i minimal proper same = elim (cases_lt (length i) (length l)) [ inl h ↦ absurd (apart h) | inr g ↦ g ]
  where
    -- where the word that reaches a state of l leads i
    image : (a : ℕ) → (r : ℕ) × (a < length l → SameOutputs k l a i r) × (r < length i)
    image a =
        elim (cases_lt a (length l)) [
          | inl h ↦ let w = minimal.reached a h in
              (after i 0 w.0, (λ g. rw w.2 at (same_behind l i 0 0 w.0 w.1 same)), after_below proper 0 w.0 proper.some)
          | inr g ↦ (0, (λ h. absurd (omega arith)), proper.some)
        ]

    one : (a b : ℕ) → a < length l → b < length l → (image a).0 ≡ (image b).0 → a ≡ b
    one a b ha hb e = minimal.distinct a b ha hb (λ w ok. (image a).1 ha w ok ∙ ap (λ r. outputs i r w) e ∙ sym ((image b).1 hb w ok))

    apart : length i < length l → ⊥
    apart h =
        let c = pigeonhole (length i) (λ a. (image a).0) (λ a g. (image a).2) in
        let b = c.3 in
        let less = c.2 in
        let e = one c.0 c.1 (omega arith) (omega arith) c.4 in
        omega arith

module _ (k : ℕ) (m i : Machine) (proper_m : Proper k m) (proper_i : Proper k i) (minimal_m : Minimal k m) (minimal_i : Minimal k i) (same : Equivalent k m i) where
  -- the state of i that shows what a state of m shows
  partner : (s : ℕ) → (t : ℕ) × (s < length m → (t < length i) × SameOutputs k m s i t)
  partner s =
      elim (cases_lt s (length m)) [
        | inl h ↦ let w = minimal_m.reached s h in
            (after i 0 w.0, λ g. (after_below proper_i 0 w.0 proper_i.some, rw w.2 at (same_behind m i 0 0 w.0 w.1 same)))
        | inr g ↦ (0, λ h. absurd (omega arith))
      ]

  -- there is only one
  partner_is : (s t : ℕ) → s < length m → t < length i → SameOutputs k m s i t → (partner s).0 ≡ t
  partner_is s t hs ht h =
      let p = (partner s).1 hs in
      minimal_i.distinct (partner s).0 t p.0 ht (λ w ok. sym (p.1 w ok) ∙ h w ok)

  -- the partners are a renaming of the states
  renaming : Renaming k m i (λ s. (partner s).0)
  renaming = record {
    begins = partner_is 0 0 proper_m.some proper_i.some same;
    inside = λ s h. ((partner s).1 h).0;
    one_to_one = λ s t hs ht e. minimal_m.distinct s t hs ht (λ w ok. ((partner s).1 hs).1 w ok ∙ ap (λ r. outputs i r w) e ∙ sym (((partner t).1 ht).1 w ok));
    onto = λ t h. let w = minimal_i.reached t h in
        let inside = after_below proper_m 0 w.0 proper_m.some in
        (after m 0 w.0, inside, partner_is _ t inside h (rw w.2 at (same_behind m i 0 0 w.0 w.1 same)));
    moves = λ s x h l. let p = (partner s).1 h in
        sym (partner_is (move m s x).to (move i (partner s).0 x).to (move_below proper_m s x h) (move_below proper_i _ x p.0) (same_key m i s (partner s).0 x l p.1).1);
    shows = λ s x h l. sym (same_key m i s (partner s).0 x l ((partner s).1 h).1).0;
  }

  -- a word leads i to the partner of the state to which it leads m
  partner_after : (w : Word) → Keys k w → (partner (after m 0 w)).0 ≡ after i 0 w
  partner_after w ok = partner_is _ _ (after_below proper_m 0 w proper_m.some) (after_below proper_i 0 w proper_i.some) (same_behind m i 0 0 w ok same)

  -- both have equally many states
  length_same : length m ≡ length i
  length_same =
      let a = least k m i minimal_m proper_i same in
      let b = least k i m minimal_i proper_m (λ w ok. sym (same w ok)) in
      omega arith

  -- numbered by first words, the partners stand in the same order
  module _ (numbered_m : Numbered k m) (numbered_i : Numbered k i) where
    -- a greater state has a greater partner
    partner_rises : (s t : ℕ) → s < t → t < length m → (partner s).0 < (partner t).0
    partner_rises s t l h =
        elim (cases_order (partner s).0 (partner t).0) [
          | inl e ↦ absurd (let q = renaming.one_to_one s t (omega arith) h e in omega arith)
          | inr d ↦ elim d [ inl b ↦ b | inr b ↦ absurd (turned b) ]
        ]
      where
        hs : s < length m
        hs = omega arith

        -- otherwise the first word that reaches s has one before it that reaches t, and that one has one before it that reaches s
        before_first :
            (partner t).0 < (partner s).0 → (a : Word) → Keys k a → after m 0 a ≡ s →
            ((v : Word) → Keys k v → Before v a → after m 0 v ≡ s → ⊥) → ⊥
        before_first b a ok there earliest =
            let u = numbered_i (partner t).0 (partner s).0 b ((partner s).1 hs).0 a ok (sym (partner_after a ok) ∙ ap (λ r. (partner r).0) there) in
            let at_t = renaming.one_to_one (after m 0 u.0) t (after_below proper_m 0 u.0 proper_m.some) h (partner_after u.0 u.1 ∙ u.3) in
            let v = numbered_m s t l h u.0 u.1 at_t in
            earliest v.0 v.1 (before_transitive v.0 u.0 a v.2 u.2) v.3

        turned : (partner t).0 < (partner s).0 → ⊥
        turned b =
            let w = minimal_m.reached s hs in
            let a = first_access proper_m 0 proper_m.some s w.0 w.1 w.2 in
            before_first b _ a.keys a.holds a.earliest

    -- the partner of a state d further is at least d further
    partner_steps : (s d : ℕ) → s + d < length m → (partner s).0 + d ≤ (partner (s + d)).0
    partner_steps s zero h = let e : s + 0 ≡ s = omega arith in rw e (omega arith)
    partner_steps s (suc d) h =
        let rest = partner_steps s d (omega arith) in
        let more = partner_rises (s + d) (s + suc d) (omega arith) h in
        omega arith

    -- every state is its own partner
    partner_itself : (s : ℕ) → s < length m → (partner s).0 ≡ s
    partner_itself s h =
        let enough = least k i m minimal_i proper_m (λ w ok. sym (same w ok)) in
        let d = length m - 1 - s in
        let low : (partner 0).0 + s ≤ (partner s).0 = (let e : 0 + s ≡ s = omega arith in rw e at (partner_steps 0 s (omega arith))) in
        let high = partner_steps s d (omega arith) in
        let top = ((partner (s + d)).1 (omega arith)).0 in
        omega arith

    -- the two machines are one
    machines_one : m ≡ i
    machines_one =
        ext_get_or [] m i length_same (λ s h. rows s h)
      where
        same_move : (a b : Move) → a.to ≡ b.to → a.output ≡ b.output → a ≡ b
        same_move a b p q = λ j. record { to = p j; output = q j }

        moves : (s x : ℕ) → s < length m → x < k → move m s x ≡ move i s x
        moves s x h l =
            let own = partner_itself s h in
            let r = renaming in
            let t = move_below proper_m s x h in
            same_move _ _
            (sym (partner_itself (move m s x).to t) ∙ sym (r.moves s x h l) ∙ ap (λ q. (move i q x).to) own)
            (sym (r.shows s x h l) ∙ ap (λ q. (move i q x).output) own)

        rows : (s : ℕ) → s < length m → get_or m s [] ≡ get_or i s []
        rows s h =
            let a = proper_m.full s h in
            let e = least k m i minimal_m proper_i same in
            let b = proper_i.full s (omega arith) in
            ext_get_or no_move (get_or m s []) (get_or i s []) (a ∙ sym b) (λ x l. unfold move in moves s x h (omega arith))

-- two minimal machines that are equivalent are one but for the numbers of their states
pub minimal_unique : MinimalUnique
minimal_unique k m i proper_m proper_i minimal_m minimal_i same =
    (length_same k m i proper_m proper_i minimal_m minimal_i same, (_, renaming k m i proper_m proper_i minimal_m minimal_i same))

-- numbered by first words, they are one
pub minimal_numbered_unique : MinimalNumberedUnique
minimal_numbered_unique k m l i a b =
    machines_one k l i a.proper b.proper a.minimal b.minimal (λ w ok. sym (a.equivalent w ok) ∙ b.equivalent w ok) a.numbered b.numbered
