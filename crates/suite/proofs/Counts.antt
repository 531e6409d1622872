-- How many tests there are. Assumes nothing.
use Rattle.std.proofs.Common.{◌≡◌, ℕ, zero, suc, ◌+◌, ◌*◌, ◌^◌, ◌≤◌, List, [], ◌∷◌, ◌++◌, length, sym, refl, ap, ◌∙◌, subst, suc-mul, mul-le-mul, zero-mul, mul-one, mul-add, arith, length-append}
use native.Mathlib.Nat.{pow-le-pow_left, pow-succ', pow-zero}
use lib.ListN.{length-map}
use Rattle.std.proofs.lemmas.List.FromFn.{length-map-range_with_len}
use Rattle.std.proofs.lemmas.Bool.{cond_both}
use Rattle.machine.specs.Machine.{Word}
use Rattle.machine.specs.Words.{each_behind, products, single_keys, of_length, up_to, listed, once_from, once}
use Rattle.cover.specs.Cover.{first_reaching, access_words, separating_words}
use Rattle.suite.specs.Promises.{words_up_to, FewTests}
use Rattle.suite.specs.Suite.{with_key, candidates, suite, tests}

-- each of some words followed by each of others: as many as the two numbers multiplied
length_products : (vs ws : List Word) → length (products vs ws) ≡ length vs * length ws
length_products [] ws = sym (zero-mul (length ws))
length_products (v ∷ vs) ws =
    length-append (each_behind v ws) (products vs ws) ∙ ap (λ n. n + length (products vs ws)) (length-map ws (λ w. v ++ w)) ∙ ap (λ n. length ws + n) (length_products vs ws)
    ∙ omega (arith, suc-mul (length vs) (length ws))

-- there are k ^ n words of n keys
length_of_length : (k n : ℕ) → length (of_length k n) ≡ k ^ n
unfolding of_length
length_of_length k zero = sym (pow-zero k)
length_of_length k (suc n) = length_products (single_keys k) (of_length k n) ∙ ap (λ j. j * length (of_length k n)) (length-map-range_with_len (λ x. x ∷ []) 0 k) ∙ ap (λ j. k * j) (length_of_length k n) ∙ sym (pow-succ' k n)

-- how many words of at most e keys there are, counted length by length
pub length_up_to : (k e : ℕ) → length (up_to k e) ≡ words_up_to k e
unfolding up_to words_up_to
length_up_to k zero = refl
length_up_to k (suc e) = length-append (up_to k e) (of_length k (suc e)) ∙ omega (arith, length_up_to k e, length_of_length k (suc e))

-- keeping each word once makes a list no longer
length_once_from : (seen ws : List Word) → length (once_from seen ws) ≤ length ws
unfolding once_from
length_once_from seen [] = omega arith
length_once_from seen (w ∷ ws) =
    cond_both (listed w seen) (once_from seen ws) (w ∷ once_from (w ∷ seen) ws) (λ z. length z ≤ suc (length ws))
    (λ _. omega (arith, length_once_from seen ws)) (λ _. omega (arith, length_once_from (w ∷ seen) ws))

-- at most as many as there are ways to make one
pub few_tests_of : (k e : ℕ) (qs ws : List Word) → length (suite k e qs ws) ≤ length qs * (1 + k) * words_up_to k e * length ws
unfolding suite candidates
few_tests_of k e qs ws = subst (λ n. length (once (products (products (with_key k qs) (up_to k e)) ws)) ≤ n) all (length_once_from [] (products (products (with_key k qs) (up_to k e)) ws))
  where
    keyed : length (with_key k qs) ≡ length qs * (1 + k)
    keyed = length-append qs (products qs (single_keys k)) ∙ omega (arith, length_products qs (single_keys k) ∙ ap (λ n. length qs * n) (length-map-range_with_len (λ x. x ∷ []) 0 k), mul-add (length qs) 1 k, mul-one (length qs))

    all : length (products (products (with_key k qs) (up_to k e)) ws) ≡ length qs * (1 + k) * words_up_to k e * length ws
    all = length_products (products (with_key k qs) (up_to k e)) ws ∙ ap (λ n. n * length ws) (length_products (with_key k qs) (up_to k e) ∙ ap (λ n. n * length (up_to k e)) keyed ∙ ap (λ n. length qs * (1 + k) * n) (length_up_to k e))

-- the same for the tests of a machine, which has one word that reaches for each state
pub few_tests : FewTests
unfolding tests access_words
few_tests k e m =
    subst (λ n. length (suite k e (access_words k m) (separating_words k m)) ≤ n * (1 + k) * words_up_to k e * length (separating_words k m))
    (length-map-range_with_len (λ s. first_reaching m s (up_to k (length m))) 0 (length m)) (few_tests_of k e (access_words k m) (separating_words k m))

-- at most 8 keys and 3 keys in between
words_low : (k e : ℕ) → k ≤ 8 → e ≤ 3 → words_up_to k e ≤ 585
unfolding words_up_to
words_low k zero hk he = omega arith
words_low k (suc zero) hk he = let a = pow-le-pow_left hk 1 in omega arith
words_low k (suc (suc zero)) hk he = let a = pow-le-pow_left hk 1 in let b = pow-le-pow_left hk 2 in omega arith
words_low k (suc (suc (suc zero))) hk he = let a = pow-le-pow_left hk 1 in let b = pow-le-pow_left hk 2 in let c = pow-le-pow_left hk 3 in omega arith
words_low k (suc (suc (suc (suc e)))) hk he = absurd (omega arith)

-- within the limits on keys, extra states and words there are at most 10,108,800 tests
pub tests_low : (k e : ℕ) (qs ws : List Word) → k ≤ 8 → e ≤ 3 → length qs ≤ 16 → length ws ≤ 120 → length (suite k e qs ws) ≤ 10108800
tests_low k e qs ws hk he hq hw =
    let keys : 1 + k ≤ 9 = omega arith in
    let a : length qs * (1 + k) ≤ 144 = mul-le-mul hq keys in
    let b : length qs * (1 + k) * words_up_to k e ≤ 84240 = mul-le-mul a (words_low k e hk he) in
    let c : length qs * (1 + k) * words_up_to k e * length ws ≤ 10108800 = mul-le-mul b hw in
    let d = few_tests_of k e qs ws in
    omega arith
