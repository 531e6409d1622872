-- When a word can be taken apart into a word in front, fewer than n keys, and one of some words. Assumes nothing.
use Rattle.std.proofs.Common.{◌≡◌, ℕ, zero, suc, ◌+◌, ◌-◌, ◌<◌, ◌≤◌, true, ◌&&◌, ltb, leb, List, [], ◌∷◌, ◌++◌, length, take, drop, sym, refl, ap, ◌∙◌, subst, append_assoc, arith, length-append, length-drop, length-take}
use mathlib.Core.List.Memᴰ
use Rattle.std.proofs.ByRecursion.{All-take, All-drop}
use Rattle.std.proofs.lemmas.List.{take_at, drop_at, drop-drop, take-append-drop, map-append}
use Rattle.std.proofs.lemmas.Grind.{flat_map-append}
use Rattle.std.proofs.lemmas.Bool.{and_parts, and_from, leb-true, le-leb, ltb-true, lt-ltb}
use Rattle.machine.specs.Machine.{Word, Keys}
use Rattle.machine.specs.Words.{each_behind, products, of_length, up_to, same, listed}
use Rattle.suite.specs.Kept.{begins, ends, some_end, parts}
use Rattle.suite.proofs.Any.{any_true, any_from}
use Rattle.suite.proofs.Different.{same_tests}
use Rattle.suite.proofs.Members.{In, in_listed, listed_in, same_true, eq_same, in_products, of_products, in_up_to, of_up_to, Parts}

-- all words of fewer than n keys
unfoldable pub below : ℕ → ℕ → List Word
below k zero = []
below k (suc n) = below k n ++ of_length k n

-- the words of at most e keys are those of fewer than e + 1
pub up_to_below : (k e : ℕ) → up_to k e ≡ below k (suc e)
unfolding up_to of_length below
up_to_below k zero = refl
up_to_below k (suc e) = ap (λ z. z ++ of_length k (suc e)) (up_to_below k e)

-- every word of fewer than n keys is among them
in_below : (k n : ℕ) (u : Word) → Keys k u → length u < n → In u (below k n)
in_below k zero u h l = absurd (omega arith)
in_below k (suc n) u h l = subst (λ z. In u z) (up_to_below k n) (in_up_to k n u h (omega arith))

-- and the other way round
of_below : (k n : ℕ) {u : Word} → In u (below k n) → Keys k u × (length u < n)
unfolding below
of_below k zero m = absurd (Memᴰ.not-nil m)
of_below k (suc n) {u} m = let r = of_up_to k n (subst (λ z. In u z) (sym (up_to_below k n)) m) in (r.0, let l = r.1 in omega arith)

-- two lists in front: what is made with the first, then what is made with the second
pub products_append : (us vs ws : List Word) → products (us ++ vs) ws ≡ products us ws ++ products vs ws
products_append us vs ws = flat_map-append (λ u. each_behind u ws) us vs

-- putting two words in front is putting the second in front, then the first
pub each_behind_append : (u v : Word) (ws : List Word) → each_behind (u ++ v) ws ≡ each_behind u (each_behind v ws)
each_behind_append u v [] = refl
each_behind_append u v (w ∷ ws) = rw (append_assoc u v w, each_behind_append u v ws)

-- it is the same to put v in front before or after some words are put behind
pub products_behind : (v : Word) (us ws : List Word) → products (each_behind v us) ws ≡ each_behind v (products us ws)
products_behind v [] ws = refl
products_behind v (u ∷ us) ws =
    rw (each_behind_append v u ws, products_behind v us ws) (sym (map-append (λ w. v ++ w) (each_behind u ws) (products us ws)))

-- c ends with w, and what stands before it has at least m keys and fewer than m + n
pub record Ends (m n : ℕ) (w c : Word) : Type 0 where
  pub room : m + length w ≤ length c
  pub close : length c < m + length w + n
  pub end : w ≡ drop (length c - length w) c

-- if the test of it passes, c ends so
pub ends_true : (m n : ℕ) (w c : Word) → ends m n w c ≡ true → Ends m n w c
unfolding ends
ends_true m n w c h =
    let a = and_parts (leb (m + length w) (length c)) (ltb (length c) (m + length w + n) && same w (drop (length c - length w) c)) h in
    let b = and_parts (ltb (length c) (m + length w + n)) (same w (drop (length c - length w) c)) a.1 in
    record { room = leb-true _ _ a.0; close = ltb-true _ _ b.0; end = same_true _ _ b.1 }

-- and the other way round
pub ends_from : (m n : ℕ) (w c : Word) → Ends m n w c → ends m n w c ≡ true
unfolding ends
ends_from m n w c r = and_from _ _ (le-leb _ _ r.room) (and_from _ _ (lt-ltb _ _ r.close) (eq_same _ _ r.end))

-- whether c is v, fewer than n keys and one of some words can be read off c
module _ (k n : ℕ) (ws : List Word) (v c : Word) (keys : Keys k c) where
  -- if c is made so, this can be read off c
  made : Parts (each_behind v (below k n)) ws c → parts n ws v c ≡ true
  unfolding parts begins
  made r = and_from (same v (take (length v) c)) (some_end (length v) n ws c) (eq_same v (take (length v) c) front) (any_from (λ z. ends (length v) n z c) ws w r.behind_in (ends_from (length v) n w c (record { room = omega (arith, long); close = let l = (of_below k n s.1).1 in omega (arith, long); end = back })))
    where
      s : (u : Word) × In u (below k n) × (v ++ u ≡ r.front)
      s = Memᴰ.of_map (λ z. v ++ z) (below k n) r.front_in

      w : Word
      w = r.behind

      whole : c ≡ v ++ (s.0 ++ w)
      whole = r.whole ∙ ap (λ z. z ++ w) (sym s.2) ∙ append_assoc v s.0 w

      long : length c ≡ length v + (length s.0 + length w)
      long = ap length whole ∙ length-append v (s.0 ++ w) ∙ ap (λ z. length v + z) (length-append s.0 w)

      front : v ≡ take (length v) c
      front = sym (take_at v (s.0 ++ w) (length v) refl) ∙ ap (take (length v)) (sym whole)

      back : w ≡ drop (length c - length w) c
      back = sym (drop_at (v ++ s.0) w (length c - length w) (omega (arith, long, length-append v s.0))) ∙ ap (drop (length c - length w)) (append_assoc v s.0 w ∙ sym whole)

  -- and the other way round: c is then one of the words that are made so
  apart : parts n ws v c ≡ true → In c (products (each_behind v (below k n)) ws)
  unfolding parts begins
  apart h = Memᴰ.cast (whole) (in_products (Memᴰ.map (λ z. v ++ z) (in_below k n u (All-take (λ x. x < k) (length r - length w) r (All-drop (λ x. x < k) (length v) c keys)) (omega (arith, long, room, close, length-take (length r - length w) r)))) b.1)
    where
      a : (same v (take (length v) c) ≡ true) × (some_end (length v) n ws c ≡ true)
      a = and_parts (same v (take (length v) c)) (some_end (length v) n ws c) h

      b : (w : Word) × In w ws × Ends (length v) n w c
      b = let r = any_true (λ z. ends (length v) n z c) ws a.1 in (r.0, r.1, ends_true (length v) n r.0 c r.2)

      w : Word
      w = b.0

      room : length v + length w ≤ length c
      room = b.2.room

      close : length c < length v + length w + n
      close = b.2.close

      r : Word
      r = drop (length v) c

      long : length r ≡ length c - length v
      long = length-drop (length v) c

      u : Word
      u = take (length r - length w) r

      behind : drop (length r - length w) r ≡ w
      behind = drop-drop (length r - length w) (length v) c ∙ ap (λ z. drop z c) (omega (arith, long, room)) ∙ sym b.2.end

      whole : c ≡ (v ++ u) ++ w
      whole =
          sym (take-append-drop (length v) c) ∙ ap (λ z. z ++ r) (sym (same_true v (take (length v) c) a.0)) ∙ ap (λ z. v ++ z) (sym (take-append-drop (length r - length w) r) ∙ ap (λ z. u ++ z) behind) ∙ sym (append_assoc v u w)

  -- so c is listed among them exactly if it can be read off c
  pub found : listed c (products (each_behind v (below k n)) ws) ≡ parts n ws v c
  found = same_tests (listed c (products (each_behind v (below k n)) ws)) (parts n ws v c) (λ h. made (of_products (each_behind v (below k n)) ws (listed_in (products (each_behind v (below k n)) ws) h))) (λ h. in_listed (products (each_behind v (below k n)) ws) (apart h))
