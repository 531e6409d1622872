-- The table of the worked example, by one test over all of it that antt computes. Assumes nothing.
use Rattle.std.proofs.Common.{◌≡◌, Bool, true, false, ◌&&◌, List, [], ◌∷◌, sym, refl, subst}
use Rattle.std.specs.List.{AllByRecursion}
use Rattle.std.proofs.lemmas.Bool.{and_parts, both_ways}
use Rattle.machine.specs.First.{first}
use Rattle.machine.specs.Machine.{Word, move, outputs, after}
use Rattle.machine.specs.Run.{difference}
use Rattle.machine.specs.Words.{up_to, of_length, same, listed, once_from}
use Rattle.machine.proofs.Once.{same_true}
use Rattle.cover.specs.Cover.{access_words, separating_words, telling_words, first_reaching, first_telling}
use Rattle.suite.specs.Suite.{candidates, suite, tests}
use Rattle.verdict.specs.declared.verdicts.Verdict.{Verdict}
use Rattle.verdict.specs.declared.verdicts.Verdict.TheVariants.{Passed, Failed}
use Rattle.verdict.specs.Verdict.{keys_of_all, verdict_of, shown_by}
use Rattle.milk_pump.specs.Boards.{pump}
use Rattle.milk_pump.specs.Example.{Entry, Right, example, place}

-- two lists of words are one
same_words : List Word → List Word → Bool
same_words [] [] = true
same_words [] (v ∷ vs) = false
same_words (u ∷ us) [] = false
same_words (u ∷ us) (v ∷ vs) = same u v && same_words us vs

-- if this test passes, they are equal
same_words_true : (us vs : List Word) → same_words us vs ≡ true → us ≡ vs
unfolding same_words
same_words_true [] [] e = refl
same_words_true [] (v ∷ vs) e = absurd (both_ways false refl e)
same_words_true (u ∷ us) [] e = absurd (both_ways false refl e)
same_words_true (u ∷ us) (v ∷ vs) e =
    let both = and_parts (same u v) (same_words us vs) e in
    let head = same_true u v both.0 in
    let tail = same_words_true us vs both.1 in
    cc

-- two verdicts are one
same_verdict : Verdict → Verdict → Bool
same_verdict Passed Passed = true
same_verdict Passed (Failed t x o p) = false
same_verdict (Failed t x o p) Passed = false
same_verdict (Failed t x o p) (Failed u y q r) = same (t ∷ x ∷ o ∷ p ∷ []) (u ∷ y ∷ q ∷ r ∷ [])

-- if this test passes, they are equal
same_verdict_true : (v w : Verdict) → same_verdict v w ≡ true → v ≡ w
unfolding same_verdict
same_verdict_true Passed Passed e = refl
same_verdict_true Passed (Failed t x o p) e = absurd (both_ways false refl e)
same_verdict_true (Failed t x o p) Passed e = absurd (both_ways false refl e)
same_verdict_true (Failed t x o p) (Failed u y q r) e =
    let numbers = same_true (t ∷ x ∷ o ∷ p ∷ []) (u ∷ y ∷ q ∷ r ∷ []) e in
    cc

-- the test of an entry; the verdict is computed from the tests that the entry has
right : Entry → Bool
right x = same_words (tests 2 x.extra pump) x.tests && same_verdict (verdict_of pump x.tests (shown_by x.board x.tests)) x.verdict

-- an entry that passes its test obeys the rule
right_true : (x : Entry) → right x ≡ true → Right x
unfolding right
right_true x e =
    let made = same_words (tests 2 x.extra pump) x.tests in
    let judged = verdict_of pump x.tests (shown_by x.board x.tests) in
    let both = and_parts made (same_verdict judged x.verdict) e in
    let same = same_words_true (tests 2 x.extra pump) x.tests both.0 in
    record {
      made = same;
      judged = subst (λ (ts : List Word). verdict_of pump ts (shown_by x.board ts) ≡ x.verdict) (sym same) (same_verdict_true judged x.verdict both.1);
    }

-- every entry passes its test
all_right : List Entry → Bool
all_right [] = true
all_right (x ∷ xs) = right x && all_right xs

-- the test of a table is the rule at each entry
each_right : (xs : List Entry) → all_right xs ≡ true → AllByRecursion Right xs
unfolding all_right
each_right [] e = tt
each_right (x ∷ xs) e =
    let both = and_parts (right x) (all_right xs) e in
    (right_true x both.0, each_right xs both.1)

-- the table of the worked example passes
computed : all_right example ≡ true
unfolding all_right right same_words same_verdict tests suite candidates access_words separating_words telling_words first_reaching first_telling up_to of_length same listed once_from move outputs after difference first keys_of_all verdict_of place
computed = refl

-- so every entry of it obeys the rule
pub entries : AllByRecursion Right example
entries = each_right example computed
