-- Words, and behind them each of them followed by each key, one word at a time. Assumes nothing.
use Rattle.std.proofs.Common.{◌≡◌, ℕ, ◌+◌, ◌<◌, List, [], ◌∷◌, ◌++◌, length, get_or, take, sym, ap, ◌∙◌, append_assoc, arith}
use lib.ListN.{length-map}
use Rattle.std.proofs.lemmas.List.FromFn.{map-range_with_len_more}
use Rattle.std.proofs.lemmas.List.{map-append, take_more}
use Rattle.machine.specs.declared.fixed_list.FixedList.{FixedList}
use Rattle.cover.specs.Words.{word_of, words_of}
use Rattle.machine.specs.Machine.{Word}
use Rattle.machine.specs.Words.{each_behind, single_keys}
use Rattle.suite.proofs.Places.{word_at}

module _ {room : ℕ} (ws : List (FixedList ℕ room)) (i : ℕ) (x : FixedList ℕ room) (inside : i < length ws) (is : x ≡ get_or ws i x) where
  -- these words, each as its keys
  abbrev W : List Word
  W = words_of ws

  -- the first i + 1 words are the first i, and then x
  more : take (i + 1) W ≡ take i W ++ word_of x ∷ []
  more = take_more W i [] (omega (arith, length-map ws word_of)) ∙ ap (λ z. take i W ++ z ∷ []) (word_at ws i x inside is)

  -- so x put behind the first i makes the first i + 1
  pub plain_more : (fs gs : List Word) → fs ≡ take i W → gs ≡ fs ++ word_of x ∷ [] → gs ≡ take (i + 1) W
  plain_more fs gs e h = h ∙ ap (λ z. z ++ word_of x ∷ []) e ∙ sym more

  -- one key more behind the word
  pub key_behind : (front : List Word) (key : ℕ) (fs gs : List Word) (r : Word) → fs ≡ front ++ each_behind (get_or W i []) (single_keys key) → gs ≡ fs ++ r ∷ [] → r ≡ word_of x ++ key ∷ [] →
      gs ≡ front ++ each_behind (get_or W i []) (single_keys (key + 1))
  key_behind front key fs gs r e h last =
      h ∙ ap (λ z. z ++ r ∷ []) e ∙ append_assoc front (each_behind (get_or W i []) (single_keys key)) (r ∷ [])
      ∙ ap (λ z. front ++ (each_behind (get_or W i []) (single_keys key) ++ z ∷ [])) (last ∙ ap (λ z. z ++ key ∷ []) (sym (word_at ws i x inside is)))
      ∙ ap (λ z. front ++ z) (sym (map-append (λ w. get_or W i [] ++ w) (single_keys key) ((key ∷ []) ∷ [])) ∙ ap (each_behind (get_or W i [])) (sym (map-range_with_len_more (λ y. y ∷ []) 0 key key (omega arith))))
