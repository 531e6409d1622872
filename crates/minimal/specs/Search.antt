-- What a breadth first search by words finds: of all words of keys, each value of f with the first word in order that has it. Assumes nothing: these are definitions.
use Rattle.std.specs.Prelude.{◌≡◌, ℕ, ◌<◌, List, [], ◌∷◌, ◌++◌, length, ◌≢◌, slice_index_or}
use Rattle.machine.specs.Items.{items}
use Rattle.machine.specs.Machine.{Word, Keys}
use Rattle.machine.specs.Words.{Before, FirstWord}
use Rattle.minimal.specs.declared.tree.Found.{Found}
use Rattle.minimal.specs.declared.tree.Tree.{Tree}

-- word j of some words, or the empty word
abbrev pub word_at : List Word → ℕ → Word
word_at ws j = slice_index_or ws j []

-- the words that the search has found at its end
pub record Searched (k : ℕ) (f : Word → ℕ) (ws : List Word) : Type 0 where
  -- each is the first word with its value
  pub first : (j : ℕ) → j < length ws → FirstWord k (λ w. f w ≡ f (word_at ws j)) (word_at ws j)
  pub increasing : (i j : ℕ) → i < j → j < length ws → Before (word_at ws i) (word_at ws j)
  pub different : (i j : ℕ) → i < j → j < length ws → f (word_at ws i) ≢ f (word_at ws j)
  -- every value that a word has is found
  pub complete : (v : Word) → Keys k v → (j : ℕ) × (j < length ws) × (f (word_at ws j) ≡ f v)
  pub some : 0 < length ws
  pub start : word_at ws 0 ≡ []
  -- each but the first is an earlier one with a key behind
  pub grown : (j : ℕ) → 0 < j → j < length ws → (i : ℕ) × (x : ℕ) × (i < j) × (x < k) × (word_at ws j ≡ word_at ws i ++ x ∷ [])

-- how many classes a tree holds
abbrev pub found_count : Tree → ℕ
found_count tree = length (items tree.found)

-- what stands at a place that there is not
abbrev pub nothing : Found
nothing = record { class = 0; parent = 0; key = 0 }

-- what was found at place j
abbrev pub found_at : Tree → ℕ → Found
found_at tree j = slice_index_or (items tree.found) j nothing

-- the class at place j
abbrev pub class_found : Tree → ℕ → ℕ
class_found tree j = (found_at tree j).class

-- the words found, as a tree keeps them: the value of each, and for each but the first the word that it grew from and the key behind that
pub record Kept (k : ℕ) (f : Word → ℕ) (ws : List Word) (tree : Tree) : Type 0 where
  pub many : length ws ≡ found_count tree
  pub values : (j : ℕ) → j < found_count tree → class_found tree j ≡ f (word_at ws j)
  pub parents : (j : ℕ) → 0 < j → j < found_count tree → (found_at tree j).parent < j
  pub keys : (j : ℕ) → 0 < j → j < found_count tree → (found_at tree j).key < k
  pub steps : (j : ℕ) → 0 < j → j < found_count tree → word_at ws j ≡ word_at ws (found_at tree j).parent ++ (found_at tree j).key ∷ []

-- what a tree holds when the search has ended
abbrev pub SearchTree : ℕ → (Word → ℕ) → Tree → Type 0
SearchTree k f tree = (ws : List Word) × Searched k f ws × Kept k f ws tree
