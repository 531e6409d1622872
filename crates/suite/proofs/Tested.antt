-- From the cover of a minimal machine to its tests, and to the answer of the call that writes them. Assumes nothing.
use Rattle.std.proofs.Common.{◌≡◌, ℕ, ◌+◌, ◌<◌, ◌≤◌, leb, List, [], ◌∷◌, length, drop, Ok, Err, Result, refl, sym, ap, ◌∙◌, inr, arith}
use Rattle.std.proofs.ByRecursion.{All-weaker}
use Rattle.std.proofs.lemmas.Bool.{cond_both}
use Rattle.machine.specs.declared.refusals.Refusal.{Refusal}
use Rattle.machine.specs.declared.view.Machine.{Machine as View}
use Rattle.machine.specs.Machine.{Machine, Proper, Minimal}
use Rattle.machine.specs.Refusals.{reason_of}
use Rattle.machine.specs.Row.{keys_in, machine_in}
use Rattle.machine.specs.Run.{model, keys_of}
use Rattle.machine.specs.Words.{once, listed}
use Rattle.machine.proofs.Rows.{proper_in}
use Rattle.machine.proofs.Views.{view_accepted, view_proper, view_states, few_states}
use Rattle.minimal.proofs.Known.{known_minimal}
use Rattle.minimal.proofs.Moore.{short_separation}
use Rattle.cover.specs.Cover.{access_words, separating_words, telling_words}
use Rattle.cover.specs.Covered.{access_of, separating_of}
use Rattle.cover.specs.declared.cover.Cover.{Cover}
use Rattle.cover.proofs.Collected.{few_separating}
use Rattle.cover.proofs.Access.{length_access, access_words_fewer, access_words_reach}
use Rattle.cover.proofs.Separating.{separating_separates}
use Rattle.suite.specs.Answer.{Testable, Follows, TestsAnswered, made}
use Rattle.suite.specs.declared.specification.Specification.{Specification}
use Rattle.suite.specs.Kept.{Different, kept}
use Rattle.suite.specs.Specified.{CoverOf, tests_for}
use Rattle.suite.specs.Suite.{with_key, suite, tests}
use Rattle.suite.specs.Written.{MakesTests, TestsWritten, words_in, room_for}
use Rattle.suite.proofs.Counts.{tests_low}
use Rattle.suite.proofs.Different.{different_once}
use Rattle.suite.proofs.Equivalents.{access_words_keys, separating_words_keys, equivalent_passes}
use Rattle.suite.proofs.Once.{suite_kept}
use Rattle.suite.proofs.Passing.{passing_suite_is_equivalent}
use Rattle.suite.proofs.TestsRow.{tests_read_back}

-- no separating word stands twice
different_separating : (k : ℕ) (m : Machine) → Different (separating_words k m)
unfolding separating_words listed
different_separating k m = cond_both (leb (length m) 1) ([] ∷ []) (once (telling_words k m)) Different (λ e. (refl, tt)) (λ e. different_once (telling_words k m))

-- the words of a minimal machine make tests
pub view_makes : (v : View) (e : ℕ) → Minimal (keys_of v) (model v) → e ≤ 3 → MakesTests (keys_of v) e (access_words (keys_of v) (model v)) (separating_words (keys_of v) (model v))
view_makes v e minimal few_extra =
    let k = keys_of v in
    let m = model v in
    let states : length m ≤ 16 = (let a = (view_accepted v).shape.few_states in let b = v.first in omega (arith, view_states v)) in
    record {
      few_keys = (let a = (view_accepted v).shape.few_keys in let b = v.second in omega arith);
      few_extra = few_extra;
      few = (let l = length_access k m in omega arith);
      short = All-weaker _ (λ w. length w < 16) (λ w h. omega arith) (access_words k m) (access_words_fewer k m (view_proper v) minimal);
      reach_keys = access_words_keys k m;
      end_keys = separating_words_keys k m;
      different = different_separating k m;
    }

-- the cover of a minimal machine, with at most three extra states
module _ (s : Specification) (c : Cover) (covers : CoverOf s c) where
  -- its keys
  abbrev keys : ℕ
  keys = keys_of s.machine.machine

  -- its words make tests
  pub cover_makes : MakesTests keys s.extra (access_of c) (separating_of c)
  cover_makes = rw (covers.access, covers.separating) (view_makes s.machine.machine s.extra (known_minimal s.machine) s.few_extra)

  -- each test that they make, once
  once_kept : suite keys s.extra (access_of c) (separating_of c) ≡ kept keys s.extra (with_key keys (access_of c)) (separating_of c)
  once_kept = let makes = cover_makes in suite_kept keys s.extra (access_of c) (separating_of c) makes.reach_keys makes.end_keys makes.different

  -- the tests that they make are the tests of the machine, and with its access words and these, each followed by each key, in front each is kept once
  pub cover_made : kept keys s.extra (with_key keys (access_of c)) (separating_of c) ≡ tests_for s
  unfolding tests
  cover_made = sym once_kept ∙ ap (λ qs. suite keys s.extra qs (separating_of c)) covers.access ∙ ap (suite keys s.extra (access_words keys (model s.machine.machine))) covers.separating

  -- and there are not too many of them to count
  pub cover_low : length (tests_for s) ≤ 10108800
  cover_low =
      let makes = cover_makes in
      rw (← cover_made, ← once_kept)
      (tests_low keys s.extra (access_of c) (separating_of c) makes.few_keys makes.few_extra makes.few (rw covers.separating (few_separating keys (model s.machine.machine) (few_states s.machine.machine))))

-- what follows from passing the tests
pub tests_follow : (k e : ℕ) (m : Machine) → Proper k m → Minimal k m → Follows k e m (tests k e m)
unfolding tests
tests_follow k e m proper minimal = record {
  passing = λ i other few passes.
      passing_suite_is_equivalent k e m i (access_words k m) (separating_words k m) proper other few
      (access_words_reach k m proper minimal) (separating_separates short_separation k m proper minimal) passes;
  equivalent = equivalent_passes k e m;
}

module _ (row : List ℕ) (e : ℕ) (before : List ℕ) (testable : Testable row e) where
  -- if the tests of a testable row were written, or there was no room for them, the answer is right
  pub answered : (r : Result ℕ Refusal) (after : List ℕ) → TestsWritten (made row e) before r after → TestsAnswered row e before r after
  answered (Ok n) after w =
      let ts = made row e in
      let back : words_in n after 1 ≡ ts = ap (λ z. words_in z after 1) w.1 ∙ ap (λ z. words_in (length ts) z 1) w.2 ∙ (tests_read_back ts (drop (1 + room_for ts) before)).0 in
      record {
        testable = testable;
        fits = w.0;
        count = w.1;
        row_is = w.2;
        reads_back = back;
        follows = rw back (tests_follow (keys_in row) e (machine_in row) (proper_in row testable.accepted) testable.minimal);
      }
  answered (Err f) after w = (inr (record { testable = testable; lacks = w.0; reason_is = ap reason_of w.1 }), w.2)
