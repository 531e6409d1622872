-- Whatever is equivalent passes, since every test is a word of keys; and the tests for fewer extra states are among those for more. Assumes nothing.
use Rattle.std.proofs.Common.{◌≡◌, ℕ, ◌≤◌, eqb, leb, List, [], ◌∷◌, map, length, sym, subst, arith}
use Rattle.std.specs.List.{range_with_len, flat_map, AllByRecursion}
use Rattle.std.proofs.ByRecursion.{All-append, All-map, All-weaker}
use Rattle.std.proofs.lemmas.Bool.{cond_both}
use Rattle.machine.specs.Machine.{Machine, Word, Keys, Equivalent, outputs, after}
use Rattle.machine.specs.Words.{products, up_to, same, once}
use Rattle.cover.specs.Cover.{first_reaching, first_telling, access_words, telling_words, separating_words}
use Rattle.suite.specs.Promises.{EquivalentPasses, MoreExtraMoreTests}
use Rattle.suite.specs.Suite.{with_key, candidates, suite, tests, Passes}
use Rattle.suite.proofs.Members.{In, in_has, has_in, in_all, all_in, of_up_to, in_up_to, of_once, in_once, of_products, in_products, suite_keys, up_to_keys, Parts}

-- what holds at every number
all_every : {P : ℕ → Type 0} → ((x : ℕ) → P x) → (xs : List ℕ) → AllByRecursion P xs
all_every h [] = tt
all_every h (x ∷ xs) = (h x, all_every h xs)

-- what holds of each word of each of some lists holds of all the lists joined
all_joined : (P : Word → Type 0) (f : ℕ → List Word) → ((x : ℕ) → AllByRecursion P (f x)) → (xs : List ℕ) → AllByRecursion P (flat_map f xs)
all_joined P f h [] = tt
all_joined P f h (x ∷ xs) = All-append P (f x) (flat_map f xs) (h x) (all_joined P f h xs)

-- a first word that reaches a state is a word of keys, if the words are
first_reaching_keys : (k : ℕ) (m : Machine) (s : ℕ) (ws : List Word) → AllByRecursion (Keys k) ws → Keys k (first_reaching m s ws)
unfolding first_reaching
first_reaching_keys k m s [] h = tt
first_reaching_keys k m s (w ∷ ws) h = cond_both (eqb (after m 0 w) s) w (first_reaching m s ws) (Keys k) (λ _. h.0) (λ _. first_reaching_keys k m s ws h.1)

-- the first of some words of keys that tells two states apart is a word of keys
first_telling_keys : (k : ℕ) (m : Machine) (t s : ℕ) (ws : List Word) → AllByRecursion (Keys k) ws → Keys k (first_telling m t s ws)
unfolding first_telling
first_telling_keys k m t s [] h = tt
first_telling_keys k m t s (w ∷ ws) h =
    cond_both (same (outputs m t w) (outputs m s w)) (first_telling m t s ws) w (Keys k) (λ _. first_telling_keys k m t s ws h.1) (λ _. h.0)

-- the words found are words of keys
pub access_words_keys : (k : ℕ) (m : Machine) → AllByRecursion (Keys k) (access_words k m)
unfolding access_words
access_words_keys k m =
    All-map (Keys k) (λ s. first_reaching m s (up_to k (length m))) (range_with_len 0 (length m))
    (all_every (λ s. first_reaching_keys k m s (up_to k (length m)) (up_to_keys k (length m))) (range_with_len 0 (length m)))

-- and so are those that tell apart
pub separating_words_keys : (k : ℕ) (m : Machine) → AllByRecursion (Keys k) (separating_words k m)
unfolding separating_words telling_words
separating_words_keys k m =
    cond_both (leb (length m) 1) ([] ∷ []) (once (telling_words k m)) (AllByRecursion (Keys k)) (λ _. (tt, tt))
    (λ _. in_all (Keys k) (once (telling_words k m)) (λ w i. all_in (Keys k) (telling_words k m) told (of_once (telling_words k m) i)))
  where
    told : AllByRecursion (Keys k) (telling_words k m)
    told = all_joined (Keys k) (λ s. map (λ t. first_telling m t s (up_to k (length m))) (range_with_len 0 s))
        (λ s. All-map (Keys k) (λ t. first_telling m t s (up_to k (length m))) (range_with_len 0 s) (all_every (λ t. first_telling_keys k m t s (up_to k (length m)) (up_to_keys k (length m))) (range_with_len 0 s)))
        (range_with_len 0 (length m))

-- whatever is equivalent passes the tests made of any words of keys
pub equivalent_passes_suite : (k e : ℕ) (m i : Machine) (qs ws : List Word) → AllByRecursion (Keys k) qs → AllByRecursion (Keys k) ws → Equivalent k m i → Passes m i (suite k e qs ws)
equivalent_passes_suite k e m i qs ws all_q all_w same_outputs =
    All-weaker (Keys k) (λ w. outputs m 0 w ≡ outputs i 0 w) same_outputs (suite k e qs ws) (suite_keys k e qs ws all_q all_w)

-- whatever is equivalent to a machine passes its tests
pub equivalent_passes : (k e : ℕ) (m : Machine) → EquivalentPasses k e m
unfolding tests
equivalent_passes k e m i same_outputs =
    equivalent_passes_suite k e m i (access_words k m) (separating_words k m) (access_words_keys k m) (separating_words_keys k m) same_outputs

-- more extra states, more tests
pub suite_more : (k d e : ℕ) (qs ws : List Word) (w : Word) → d ≤ e → In w (suite k d qs ws) → In w (suite k e qs ws)
unfolding suite candidates
suite_more k d e qs ws w h m = in_once _ (longer (of_products (products (with_key k qs) (up_to k d)) ws (of_once _ m)))
  where
    front : {c : Word} → Parts (with_key k qs) (up_to k d) c → In c (products (with_key k qs) (up_to k e))
    front r = let u = of_up_to k d r.behind_in in let l = u.1 in
        subst (λ z. In z (products (with_key k qs) (up_to k e))) (sym r.whole) (in_products r.front_in (in_up_to k e r.behind u.0 (omega arith)))

    longer : Parts (products (with_key k qs) (up_to k d)) ws w → In w (products (products (with_key k qs) (up_to k e)) ws)
    longer r = subst (λ z. In z (products (products (with_key k qs) (up_to k e)) ws)) (sym r.whole) (in_products (front (of_products (with_key k qs) (up_to k d) r.front_in)) r.behind_in)

-- the tests of a machine for fewer extra states are among those for more
pub more_extra_more_tests : MoreExtraMoreTests
unfolding tests
more_extra_more_tests k d e m w h i =
    in_has (suite k e (access_words k m) (separating_words k m)) (suite_more k d e (access_words k m) (separating_words k m) w h (has_in (suite k d (access_words k m) (separating_words k m)) i))
