-- Counting tests, writing them into a row, and reading them back. Assumes nothing.
use Rattle.std.proofs.Common.{◌≡◌, ℕ, zero, suc, ◌+◌, ◌^◌, ◌<◌, ◌≤◌, min, List, [], ◌∷◌, ◌++◌, length, get_or, take, drop, set, sym, refl, ap, ◌∙◌, append_assoc, arith, length-append, length-set, length-take}
use Rattle.std.proofs.lemmas.List.{take-append-drop, take_at, drop_at, drop-drop, get_or_at, take_more_set, drop-set-lt}
use Rattle.machine.specs.Machine.{Word}
use Rattle.machine.specs.Row.{word_in}
use Rattle.suite.specs.declared.sinks.Tally.{Tally}
use Rattle.suite.specs.declared.sinks.Writer.{Writer}
use Rattle.suite.specs.Enumeration.{Fed}
use Rattle.suite.specs.Promises.{TestsReadBack}
use Rattle.suite.specs.Sinks.{Tallied, Wrote}
use Rattle.suite.specs.Written.{word_out, words_out, room_for, tests_row, words_in}

-- a row needs a number for each test at least
pub tests_less : (ts : List Word) → length ts ≤ room_for ts
unfolding room_for
tests_less [] = omega arith
tests_less (w ∷ ts) = omega (arith, tests_less ts)

-- words one behind the other take as many numbers as there is room made for them
pub length_words_out : (ts : List Word) → length (words_out ts) ≡ room_for ts
unfolding words_out room_for
length_words_out [] = refl
length_words_out (w ∷ ts) = omega (arith, length-append (word_out w) (words_out ts), length_words_out ts)

-- counting some tests: as many tests more and as many numbers as they take, but not more than 2^62
pub tallied : (ts : List Word) (s t : Tally) → s.tests ≤ 2 ^ 62 → s.numbers ≤ 2 ^ 62 → Fed Tallied ts s t →
    (t.tests ≡ min (s.tests + length ts) (2 ^ 62)) × (t.numbers ≡ min (s.numbers + room_for ts) (2 ^ 62))
unfolding Fed room_for
tallied [] s t a b fed = (ap (λ z. z.tests) (sym fed) ∙ omega arith, ap (λ z. z.numbers) (sym fed) ∙ omega arith)
tallied (w ∷ ts) s t a b fed =
    let m = fed.0 in
    let x = fed.1.tests in
    let y = fed.1.numbers in
    let r = tallied ts m t (omega arith) (omega arith) fed.2 in
    let p = r.0 in
    let q = r.1 in
    (omega arith, omega arith)

-- what stands behind a front, further on
drop_behind : (front rest : List ℕ) (n m : ℕ) → length front ≡ n → drop (n + m) (front ++ rest) ≡ drop m rest
drop_behind front rest n m l = sym (drop-drop m n (front ++ rest)) ∙ ap (drop m) (drop_at front rest n l)

-- the tests, written one behind the other
pub wrote : (ts : List Word) (s t : Writer) → Fed Wrote ts s t → s.at + room_for ts ≤ length s.row.now →
    (t.row.ghost_name ≡ s.row.ghost_name) × (t.row.now ≡ take s.at s.row.now ++ (words_out ts ++ drop (s.at + room_for ts) s.row.now))
unfolding Fed room_for words_out
wrote [] s t fed h =
    let z : s.at + 0 ≡ s.at = omega arith in
    (ap (λ u. u.row.ghost_name) (sym fed), ap (λ u. u.row.now) (sym fed) ∙ sym (ap (λ n. take s.at s.row.now ++ drop n s.row.now) z ∙ take-append-drop s.at s.row.now))
wrote (w ∷ ts) s t fed h = go (wrote ts fed.0 t fed.2 room)
  where
    m : Writer
    m = fed.0

    one : Wrote s w m
    one = fed.1

    row : List ℕ
    row = s.row.now

    n : ℕ
    n = s.at + suc (length w)

    here : n ≤ length row
    here = omega arith

    front : List ℕ
    front = take s.at row ++ word_out w

    long : length front ≡ n
    long = omega (arith, length-append (take s.at row) (word_out w), length-take s.at row, here)

    -- the row with this test
    written : m.row.now ≡ front ++ drop n row
    written = one.row here ∙ sym (append_assoc (take s.at row) (word_out w) (drop n row))

    room : m.at + room_for ts ≤ length m.row.now
    room = omega (arith, one.at here, one.long)

    whole : take m.at m.row.now ++ (words_out ts ++ drop (m.at + room_for ts) m.row.now) ≡ take s.at row ++ ((word_out w ++ words_out ts) ++ drop (s.at + (suc (length w) + room_for ts)) row)
    whole =
        ap (λ i. take i m.row.now ++ (words_out ts ++ drop (i + room_for ts) m.row.now)) (one.at here)
        ∙ ap (λ z. take n z ++ (words_out ts ++ drop (n + room_for ts) z)) written
        ∙ ap (λ z. z ++ (words_out ts ++ drop (n + room_for ts) (front ++ drop n row))) (take_at front (drop n row) n long)
        ∙ ap (λ z. front ++ (words_out ts ++ z)) (drop_behind front (drop n row) n (room_for ts) long ∙ drop-drop (room_for ts) n row ∙ ap (λ i. drop i row) (omega arith))
        ∙ append_assoc (take s.at row) (word_out w) (words_out ts ++ drop (s.at + (suc (length w) + room_for ts)) row)
        ∙ ap (λ z. take s.at row ++ z) (sym (append_assoc (word_out w) (words_out ts) (drop (s.at + (suc (length w) + room_for ts)) row)))

    go : (t.row.ghost_name ≡ m.row.ghost_name) × (t.row.now ≡ take m.at m.row.now ++ (words_out ts ++ drop (m.at + room_for ts) m.row.now)) →
        (t.row.ghost_name ≡ s.row.ghost_name) × (t.row.now ≡ take s.at row ++ ((word_out w ++ words_out ts) ++ drop (s.at + (suc (length w) + room_for ts)) row))
    go r = (r.0 ∙ one.same, r.1 ∙ whole)

-- a word that stands in a row with its length in front
word_read : (front rest : List ℕ) (w : Word) (at : ℕ) → length front ≡ at → word_in (front ++ (word_out w ++ rest)) at ≡ w
word_read front rest w at l =
    ap (λ n. take n (drop (suc at) (front ++ (word_out w ++ rest)))) (get_or_at front (length w) (w ++ rest) 0 at l)
    ∙ ap (take (length w)) (ap (λ z. drop (suc at) z) (sym (append_assoc front (length w ∷ []) (w ++ rest))) ∙ drop_at (front ++ length w ∷ []) (w ++ rest) (suc at) (omega (arith, length-append front (length w ∷ []))))
    ∙ take_at w rest (length w) refl

-- reading back what was written gives the tests
pub read_back : (ts : List Word) (front rest : List ℕ) (at : ℕ) → length front ≡ at → words_in (length ts) (front ++ (words_out ts ++ rest)) at ≡ ts
unfolding words_in words_out
read_back [] front rest at l = refl
read_back (w ∷ ts) front rest at l = go (read_back ts (front ++ word_out w) rest (at + suc (length w)) (omega (arith, length-append front (word_out w))))
  where
    row : List ℕ
    row = front ++ ((word_out w ++ words_out ts) ++ rest)

    group : row ≡ front ++ (word_out w ++ (words_out ts ++ rest))
    group = ap (λ z. front ++ z) (append_assoc (word_out w) (words_out ts) rest)

    here : word_in row at ≡ w
    here = ap (λ z. word_in z at) group ∙ word_read front (words_out ts ++ rest) w at l

    go : words_in (length ts) ((front ++ word_out w) ++ (words_out ts ++ rest)) (at + suc (length w)) ≡ ts →
        word_in row at ∷ words_in (length ts) row (at + suc (length (word_in row at))) ≡ w ∷ ts
    go again =
        ap {B = List Word} (λ x. x ∷ words_in (length ts) row (at + suc (length x))) here
        ∙ ap {B = List Word} (λ z. w ∷ z) (ap (λ z. words_in (length ts) z (at + suc (length w))) (group ∙ sym (append_assoc front (word_out w) (words_out ts ++ rest))) ∙ again)

-- the test of each number, by its place
pub test_read : (ts : List Word) (front rest : List ℕ) (i : ℕ) → i < length ts → word_in (front ++ (words_out ts ++ rest)) (length front + room_for (take i ts)) ≡ get_or ts i []
unfolding words_out room_for
test_read [] front rest i l = absurd (omega arith)
test_read (w ∷ ts) front rest zero l =
    let z : length front + 0 ≡ length front = omega arith in
    ap (λ n. word_in (front ++ ((word_out w ++ words_out ts) ++ rest)) n) z
    ∙ ap (λ r. word_in (front ++ r) (length front)) (append_assoc (word_out w) (words_out ts) rest) ∙ word_read front (words_out ts ++ rest) w (length front) refl
test_read (w ∷ ts) front rest (suc i) l =
    ap (λ n. word_in (front ++ ((word_out w ++ words_out ts) ++ rest)) n) (omega (arith, length-append front (word_out w)))
    ∙ ap (λ r. word_in r (length (front ++ word_out w) + room_for (take i ts))) (ap (λ z. front ++ z) (append_assoc (word_out w) (words_out ts) rest) ∙ sym (append_assoc front (word_out w) (words_out ts ++ rest)))
    ∙ test_read ts (front ++ word_out w) rest i (omega arith)

-- reading back a row that begins with tests gives the tests, and each stands at its place
pub tests_read_back : TestsReadBack
tests_read_back ts rest = (read_back ts (length ts ∷ []) rest 1 refl, λ i l. test_read ts (length ts ∷ []) rest i l)

-- the whole row: how many tests there are, the tests, and the rest as it was
pub written_name : (ts : List Word) (s t : Writer) → Fed Wrote ts s t → s.at + room_for ts ≤ length s.row.now → s.row.ghost_name ≡ t.row.ghost_name
written_name ts s t fed h = sym (wrote ts s t fed h).0

-- the whole row: how many tests there are, the tests, and the rest as it was
pub written_row : (ts : List Word) (out : List ℕ) (n : ℕ) (s t : Writer) → Fed Wrote ts s t → s.row.now ≡ set out 0 n → s.at ≡ 1 → n ≡ length ts → 1 + room_for ts ≤ length out →
    t.row.now ≡ tests_row ts ++ drop (1 + room_for ts) out
written_row ts out n s t fed row at count fits =
    (wrote ts s t fed (omega (arith, ap length row, length-set out 0 n))).1
    ∙ ap (λ i. take i s.row.now ++ (words_out ts ++ drop (i + room_for ts) s.row.now)) at
    ∙ ap (λ z. take 1 z ++ (words_out ts ++ drop (1 + room_for ts) z)) row
    ∙ ap (λ z. z ++ (words_out ts ++ drop (1 + room_for ts) (set out 0 n))) (take_more_set out 0 n (omega arith) ∙ ap (λ z. z ∷ []) count)
    ∙ ap (λ z. length ts ∷ (words_out ts ++ z)) (drop-set-lt (1 + room_for ts) out 0 n (omega arith))
