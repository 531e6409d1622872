-- One end more behind a beginning: handed on, or left out since it has come up before. Assumes nothing.
use Rattle.std.specs.List.{list_any}
use Rattle.std.proofs.Common.{◌≡◌, ℕ, suc, ◌+◌, ◌<◌, ◌≤◌, Bool, true, false, ◌&&◌, ◌||◌, List, [], ◌∷◌, ◌++◌, length, get_or, take, sym, ap, ◌∙◌, subst, arith, length-append}
use Rattle.machine.specs.declared.fixed_list.FixedList.{FixedList}
use Rattle.cover.specs.Words.{word_of, words_of}
use Rattle.machine.specs.Machine.{Word}
use Rattle.suite.specs.declared.values.Against.{Against}
use Rattle.suite.specs.declared.values.Known.{Known}
use Rattle.suite.specs.Enumeration.{Fed, Knows, fresh_of, ends_marked}
use Rattle.suite.specs.Kept.{some_parts, repeats}
use Rattle.suite.proofs.Feeding.{fed_append, fed_one, fed_same, fresh_none, fresh_repeated, fresh_new}
use Rattle.suite.proofs.Repeats.{repeats_found, begun_repeats}

-- if ends behind f start at a marked place, nothing is handed on
pub none_new : (a : Against) (known : Known) (f : Word) → length f ≡ a.own + a.between → Knows a known f → get_or known.marks (length f) false ≡ true → fresh_of a f (words_of a.ends.now) ≡ []
none_new a known f full knows mark =
    let room = a.room in
    fresh_none a.extra (words_of a.ends.now) (words_of a.earlier.now) a.own a.between f (words_of a.ends.now)
    (λ w inside. begun_repeats a.extra a.between a.own (words_of a.ends.now) (words_of a.earlier.now) f w full (sym (knows.places (length f) (omega arith)) ∙ mark) inside)

-- a beginning f, and behind it the end x
module _ (a : Against) (f : Word) (x : FixedList ℕ 16) (full : length f ≡ a.own + a.between) (short : length (word_of x) ≤ 16) where
  -- the words that a test may end with
  abbrev ends : List Word
  ends = words_of a.ends.now

  -- the words in front that come before this one
  abbrev earlier : List Word
  earlier = words_of a.earlier.now

  -- what the code finds is whether the word has come up before
  pub came_up :
      (c : Word) (known : Known) (r : Bool) → Knows a known f → c ≡ f ++ word_of x →
      r ≡ (list_any (ends_marked known.marks c) ends || (known.longer && some_parts (suc a.extra) ends earlier c)) →
      r ≡ repeats a.extra ends earlier (take a.own f) a.between (f ++ word_of x)
  came_up c known r knows whole found =
      found ∙ ap (λ z. list_any (ends_marked known.marks z) ends || (known.longer && some_parts (suc a.extra) ends earlier z)) whole
      ∙ repeats_found a.extra a.between a.own ends earlier f (word_of x) known.marks known.longer
      (omega arith)
      (let room = a.room in omega (arith, length-append f (word_of x)))
      knows.places knows.longer

  module _ {S : Type 0} (step : S → Word → S → Type 0) (i : ℕ) (inside : i < length a.ends.now) (is : x ≡ get_or a.ends.now i x) (s t : S)
      (fed : Fed step (fresh_of a f (take i ends)) s t) where
    -- if f with this end has come up before, nothing more is handed on for it
    pub skipped : true ≡ repeats a.extra ends earlier (take a.own f) a.between (f ++ word_of x) → Fed step (fresh_of a f (take (i + 1) ends)) s t
    skipped h =
        fed_same step (fresh_of a f (take i ends)) (fresh_of a f (take (i + 1) ends)) s t (fresh_repeated a.extra ends earlier a.own a.between f a.ends.now i x inside is (sym h)) fed

    -- if it has not, it is handed on as well
    pub handed_on : (r : S) (c : Word) → false ≡ repeats a.extra ends earlier (take a.own f) a.between (f ++ word_of x) → c ≡ f ++ word_of x → step t c r → Fed step (fresh_of a f (take (i + 1) ends)) s r
    handed_on r c h e one =
        fed_same step (fresh_of a f (take i ends) ++ (f ++ word_of x) ∷ []) (fresh_of a f (take (i + 1) ends)) s r
        (fresh_new a.extra ends earlier a.own a.between f a.ends.now i x inside is (sym h))
        (fed_append step (fresh_of a f (take i ends)) ((f ++ word_of x) ∷ []) s t r fed (fed_one step (f ++ word_of x) t r (subst (λ z. step t z r) e one)))
