-- Leaving out what can be taken apart in an earlier way keeps each test once. Assumes nothing.
use Rattle.std.proofs.Common.{◌≡◌, ℕ, zero, suc, not, ◌||◌, List, [], ◌∷◌, ◌++◌, length, sym, refl, ap, ◌∙◌}
use Rattle.std.specs.List.{AllByRecursion}
use Rattle.std.proofs.Math.Bool.{or_comm}
use Rattle.std.proofs.ByRecursion.{All-weaker}
use Rattle.std.proofs.lemmas.List.{map-append}
use Rattle.machine.specs.Machine.{Word, Keys}
use Rattle.machine.specs.Words.{each_behind, products, of_length, up_to, listed, once_from, once}
use Rattle.suite.specs.Kept.{Different, parts, some_parts, repeats, without, kept_behind, kept_from, kept}
use Rattle.suite.specs.Suite.{with_key, candidates, suite}
use Rattle.suite.proofs.Any.{any_push}
use Rattle.suite.proofs.Different.{once_from_append, once_from_different, listed_append, kept_by_same, different_products, different_behind, different_of_length}
use Rattle.suite.proofs.Members.{in_all, of_of_length, behind_keys, products_keys, of_length_keys, with_key_keys}
use Rattle.suite.proofs.TakenApart.{below, up_to_below, products_append, products_behind, found}

module _ (k e : ℕ) (ws : List Word) (ws_keys : AllByRecursion (Keys k) ws) (different : Different ws) where
  -- the words seen are those that are made with an earlier word in front
  abbrev Seen : List Word → List Word → Type 0
  Seen seen earlier = (c : Word) → Keys k c → listed c seen ≡ some_parts (suc e) ws earlier c

  -- with v in front and fewer than n keys behind it
  behind_one : (seen earlier : List Word) (v : Word) → Keys k v → Seen seen earlier → (n : ℕ) → once_from seen (products (each_behind v (below k n)) ws) ≡ kept_behind k e ws earlier v n
  unfolding kept_behind below once_from repeats
  behind_one seen earlier v h s zero = refl
  behind_one seen earlier v h s (suc n) =
      ap (once_from seen) split ∙ once_from_append seen before block ∙ ap (λ z. z ++ once_from (before ++ seen) block) (behind_one seen earlier v h s n) ∙ ap (λ z. kept_behind k e ws earlier v n ++ z) last
    where
      before : List Word
      before = products (each_behind v (below k n)) ws

      block : List Word
      block = each_behind v (products (of_length k n) ws)

      split : products (each_behind v (below k n ++ of_length k n)) ws ≡ before ++ block
      split = ap (λ z. products z ws) (map-append (λ w. v ++ w) (below k n) (of_length k n)) ∙ products_append (each_behind v (below k n)) (each_behind v (of_length k n)) ws ∙ ap (λ z. before ++ z) (products_behind v (of_length k n) ws)

      same_tests : (c : Word) → Keys k c → not (listed c (before ++ seen)) ≡ not (repeats e ws earlier v n c)
      same_tests c keys = ap not (listed_append c before seen ∙ ap (λ b. b || listed c seen) (found k n ws v c keys) ∙ ap (λ b. parts n ws v c || b) (s c keys) ∙ or_comm (parts n ws v c) (some_parts (suc e) ws earlier c))

      last : once_from (before ++ seen) block ≡ without (repeats e ws earlier v n) block
      last =
          once_from_different (before ++ seen) block (different_behind v (products (of_length k n) ws) (different_products n (of_length k n) ws (in_all (λ u. length u ≡ n) (of_length k n) (λ u m. (of_of_length k n m).1)) (different_of_length k n) different))
          ∙ kept_by_same (λ c. not (listed c (before ++ seen))) (λ c. not (repeats e ws earlier v n c)) block
          (All-weaker (Keys k) (λ c. not (listed c (before ++ seen)) ≡ not (repeats e ws earlier v n c)) same_tests block (behind_keys k v (products (of_length k n) ws) h (products_keys k (of_length k n) ws (of_length_keys k n) ws_keys)))

  -- with each of some words in front and at most e keys behind it
  each_front : (seen earlier vs : List Word) → AllByRecursion (Keys k) vs → Seen seen earlier → once_from seen (products (products vs (up_to k e)) ws) ≡ kept_from k e ws earlier vs
  unfolding kept_from once_from
  each_front seen earlier [] h s = refl
  each_front seen earlier (v ∷ vs) h s =
      ap (once_from seen) split ∙ once_from_append seen block rest ∙ ap (λ z. z ++ once_from (block ++ seen) rest) (behind_one seen earlier v h.0 s (suc e))
      ∙ ap (λ z. kept_behind k e ws earlier v (suc e) ++ z) (each_front (block ++ seen) (earlier ++ v ∷ []) vs h.1 more)
    where
      block : List Word
      block = products (each_behind v (below k (suc e))) ws

      rest : List Word
      rest = products (products vs (up_to k e)) ws

      split : products (products (v ∷ vs) (up_to k e)) ws ≡ block ++ rest
      split = products_append (each_behind v (up_to k e)) (products vs (up_to k e)) ws ∙ ap (λ z. products (each_behind v z) ws ++ rest) (up_to_below k e)

      more : Seen (block ++ seen) (earlier ++ v ∷ [])
      more c keys = listed_append c block seen ∙ ap (λ b. b || listed c seen) (found k (suc e) ws v c keys) ∙ ap (λ b. parts (suc e) ws v c || b) (s c keys) ∙ or_comm (parts (suc e) ws v c) (some_parts (suc e) ws earlier c) ∙ sym (any_push (λ p. parts (suc e) ws p c) earlier v)

-- each test once, without looking at those before
pub kept_once : (k e : ℕ) (vs ws : List Word) → AllByRecursion (Keys k) vs → AllByRecursion (Keys k) ws → Different ws → once (products (products vs (up_to k e)) ws) ≡ kept k e vs ws
unfolding listed
kept_once k e vs ws all_v all_w different = each_front k e ws all_w different [] [] vs all_v (λ c _. refl)

-- so for a suite: in front are the words that reach, and each of them followed by one key
pub suite_kept : (k e : ℕ) (qs ws : List Word) → AllByRecursion (Keys k) qs → AllByRecursion (Keys k) ws → Different ws → suite k e qs ws ≡ kept k e (with_key k qs) ws
unfolding suite candidates
suite_kept k e qs ws all_q all_w different = kept_once k e (with_key k qs) ws (with_key_keys k qs all_q) all_w different
