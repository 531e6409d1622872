-- Handing words on, one list after the other, and the lists that the enumeration is made of. Assumes nothing.
use Rattle.std.proofs.Common.{◌≡◌, ℕ, ◌+◌, ◌<◌, ◌≤◌, true, false, cond, not, List, [], ◌∷◌, ◌++◌, length, get_or, take, sym, refl, ap, ◌∙◌, subst, arith}
use lib.ListN.{length-map}
use mathlib.Core.List.Memᴰ
use Rattle.std.proofs.lemmas.List.Elements.{filter-append}
use Rattle.std.proofs.lemmas.List.{append-nil, map-append, take_more, take-append-le}
use Rattle.machine.specs.declared.fixed_list.FixedList.{FixedList}
use Rattle.cover.specs.Words.{word_of, words_of}
use Rattle.machine.specs.Machine.{Word}
use Rattle.machine.specs.Words.{each_behind}
use Rattle.suite.specs.Enumeration.{Fed, fresh_behind}
use Rattle.suite.specs.Kept.{repeats, without}
use Rattle.suite.proofs.Members.{In}
use Rattle.suite.proofs.Places.{word_at}
use Rattle.suite.proofs.TakenApart.{each_behind_append}

module _ {S : Type 0} (step : S → Word → S → Type 0) where
  -- two lists handed on in turn are handed on as one
  pub fed_append : (us vs : List Word) (s m t : S) → Fed step us s m → Fed step vs m t → Fed step (us ++ vs) s t
  unfolding Fed
  fed_append [] vs s m t a b = subst (λ z. Fed step vs z t) (sym a) b
  fed_append (u ∷ us) vs s m t a b = (a.0, a.1, fed_append us vs a.0 m t a.2 b)

  -- a list of one word is handed on in one step
  pub fed_one : (w : Word) (s t : S) → step s w t → Fed step (w ∷ []) s t
  unfolding Fed
  fed_one w s t a = (t, a, refl)

  -- handing on no word leaves everything as it is
  pub fed_none : (s : S) → Fed step [] s s
  unfolding Fed
  fed_none s = refl

  -- a list that is the same
  pub fed_same : (us vs : List Word) (s t : S) → us ≡ vs → Fed step us s t → Fed step vs s t
  fed_same us vs s t e a = subst (λ z. Fed step z s t) e a

  -- two lists, one behind the other
  pub fed_then : (us vs ws : List Word) (s m t : S) → us ++ vs ≡ ws → Fed step us s m → Fed step vs m t → Fed step ws s t
  fed_then us vs ws s m t e a b = fed_same (us ++ vs) ws s t e (fed_append us vs s m t a b)

module _ (e : ℕ) (ends earlier : List Word) (own j : ℕ) (f : Word) where
  -- of two lists, one behind the other: what is new in the first, then what is new in the second
  pub fresh_append : (us vs : List Word) → fresh_behind e ends earlier own j f (us ++ vs) ≡ fresh_behind e ends earlier own j f us ++ fresh_behind e ends earlier own j f vs
  unfolding fresh_behind
  fresh_append us vs =
      ap (without (repeats e ends earlier (take own f) j)) (map-append (λ w. f ++ w) us vs)
      ∙ filter-append (λ c. not (repeats e ends earlier (take own f) j c)) (each_behind f us) (each_behind f vs)

  -- a word in front of some words goes to the beginning, if that has the whole word in front already
  pub fresh_front : (u : Word) (ws : List Word) → own ≤ length f → fresh_behind e ends earlier own j f (each_behind u ws) ≡ fresh_behind e ends earlier own j (f ++ u) ws
  unfolding fresh_behind
  fresh_front u ws h =
      ap (without (repeats e ends earlier (take own f) j)) (sym (each_behind_append f u ws))
      ∙ ap (λ v. without (repeats e ends earlier v j) (each_behind (f ++ u) ws)) (sym (take-append-le own f u h))

  -- if each of some words makes one that has come up before, none of them is new
  pub fresh_none : (ws : List Word) → ((w : Word) → In w ws → repeats e ends earlier (take own f) j (f ++ w) ≡ true) → fresh_behind e ends earlier own j f ws ≡ []
  unfolding fresh_behind
  fresh_none [] h = refl
  fresh_none (w ∷ ws) h =
      let rest = without (repeats e ends earlier (take own f) j) (each_behind f ws) in
      ap (λ b. cond (not b) ((f ++ w) ∷ rest) rest) (h w (Memᴰ.head refl)) ∙ fresh_none ws (λ v m. h v (Memᴰ.tail m))

  -- one end more
  module _ {room : ℕ} (ws : List (FixedList ℕ room)) (i : ℕ) (x : FixedList ℕ room) (inside : i < length ws) (is : x ≡ get_or ws i x) where
    -- what is new with the first i + 1 ends is what is new with the first i, and with the next
    fresh_more : fresh_behind e ends earlier own j f (take (i + 1) (words_of ws)) ≡ fresh_behind e ends earlier own j f (take i (words_of ws)) ++ fresh_behind e ends earlier own j f (word_of x ∷ [])
    fresh_more =
        ap (fresh_behind e ends earlier own j f) (take_more (words_of ws) i [] (omega (arith, length-map ws word_of)) ∙ ap (λ z. take i (words_of ws) ++ z ∷ []) (word_at ws i x inside is))
        ∙ fresh_append (take i (words_of ws)) (word_of x ∷ [])

    -- an end that makes a word that has come up before adds nothing
    pub fresh_repeated : repeats e ends earlier (take own f) j (f ++ word_of x) ≡ true → fresh_behind e ends earlier own j f (take i (words_of ws)) ≡ fresh_behind e ends earlier own j f (take (i + 1) (words_of ws))
    unfolding fresh_behind
    fresh_repeated h = sym (fresh_more ∙ ap (λ b. fresh_behind e ends earlier own j f (take i (words_of ws)) ++ cond (not b) ((f ++ word_of x) ∷ []) []) h ∙ append-nil (fresh_behind e ends earlier own j f (take i (words_of ws))))

    -- an end that makes a word that has not come up before adds this word
    pub fresh_new : repeats e ends earlier (take own f) j (f ++ word_of x) ≡ false → fresh_behind e ends earlier own j f (take i (words_of ws)) ++ (f ++ word_of x) ∷ [] ≡ fresh_behind e ends earlier own j f (take (i + 1) (words_of ws))
    unfolding fresh_behind
    fresh_new h = sym (fresh_more ∙ ap (λ b. fresh_behind e ends earlier own j f (take i (words_of ws)) ++ cond (not b) ((f ++ word_of x) ∷ []) []) h)
