-- From the classes found to the answer of minimizing. Assumes nothing.
use Rattle.std.proofs.Common.{◌≡◌, ℕ, ◌^◌, ◌<◌, ◌≤◌, List, length, None, Ok, Err, Result, sym, ap, ◌∙◌, subst, inr, arith}
use Rattle.machine.specs.Machine.{Machine, Move, Proper, move}
use Rattle.machine.specs.Making.{Writable, MachineWritten, ReadsBack}
use Rattle.machine.specs.Refusals.{row_refusal}
use Rattle.machine.specs.Row.{keys_in, machine_in}
use Rattle.machine.specs.declared.refusals.Refusal.{Refusal}
use Rattle.machine.proofs.Rows.{Shaped, accepted}
use Rattle.machine.proofs.Written.{written_accepted}
use Rattle.minimal.specs.Minimal.{MinimalMachine}
use Rattle.minimal.specs.Minimized.{Minimized, MinimalReadsBack}
use Rattle.minimal.specs.Quotient.{Equivalence, class_after, quotient}
use Rattle.minimal.specs.Search.{found_count, class_found, SearchTree}
use Rattle.minimal.specs.declared.tree.Tree.{Tree}
use Rattle.minimal.proofs.Quotient.{quotient_machine, length_quotient, full_quotient, move_quotient}

-- the machine made of the classes that a search has found is the minimal machine
pub found_machine : {k : ℕ} {m : Machine} → Proper k m → (class : ℕ → ℕ) → Equivalence k m class → (tree : Tree) → SearchTree k (class_after class m) tree → MinimalMachine k m (quotient k m class (class_found tree) (found_count tree))
found_machine {k} {m} proper class of tree found =
    let kept = found.2 in
    let P : ℕ → Type 0 = λ n. MinimalMachine k m (quotient k m class (class_found tree) n) in
    subst P kept.many (quotient_machine proper of found.1 (class_found tree) (λ j h. kept.values j (let a = kept.many in omega arith)))

-- a state of the machine made is one of the classes found
pub state_found : (k : ℕ) (m : Machine) (class entry : ℕ → ℕ) (n s : ℕ) → s < length (quotient k m class entry n) → s < n
state_found k m class entry n s h = rw (length_quotient k m class entry n) at h

-- what was found can be written
pub quotient_writable : (k : ℕ) (m : Machine) (class entry : ℕ → ℕ) (n : ℕ) → n ≤ 16 → k ≤ 8 → Writable k (quotient k m class entry n)
quotient_writable k m class entry n states keys = record {
  full = λ s h. full_quotient k m class entry n s (state_found k m class entry n s h);
  few_states = (let e = length_quotient k m class entry n in omega arith);
  few_keys = keys;
}

-- it shows nothing of 2^32 or more, if the machine that it is made of does not
pub quotient_low : (k : ℕ) (m : Machine) (class entry : ℕ → ℕ) (n : ℕ) → ((s x : ℕ) → (move m s x).output < 2 ^ 32) → (s x : ℕ) → s < length (quotient k m class entry n) → x < k → (move (quotient k m class entry n) s x).output < 2 ^ 32
quotient_low k m class entry n low s x h l =
    let same = ap (λ (a : Move). a.output) (move_quotient k m class entry n s x (state_found k m class entry n s h) l) in
    let bound = low (entry s) x in
    omega arith

module _ (row before : List ℕ) (k : ℕ) (m l : Machine) (keys : k ≡ keys_in row) (read : m ≡ machine_in row)
    (ok : row_refusal row ≡ None) (made : MinimalMachine k m l) (few : length l ≤ 16) (low : (s x : ℕ) → s < length l → x < k → (move l s x).output < 2 ^ 32) where
  -- the machine made is the minimal machine of the one in the row
  machine : MinimalMachine (keys_in row) (machine_in row) l
  machine =
      let P : ℕ → Type 0 = λ i. MinimalMachine i m l in
      let Q : Machine → Type 0 = λ i. MinimalMachine (keys_in row) i l in
      subst Q read (subst P keys made)

  -- the head of the row that was read
  shape : Shaped 16 8 row
  shape = (accepted row ok).shape

  -- if it was written, or there was no room for it, that is the answer of minimizing
  answered : (r : Result ℕ Refusal) (after : List ℕ) → MachineWritten k l before r after → Minimized row before r after
  answered (Ok n) after w = (
    l,
    record {
      accepted = ok;
      minimal = machine;
      states = w.1;
      fits = rw keys at w.0;
      row_is = rw keys at w.2;
    },
  )
  answered (Err f) after w = (inr (l, record { accepted = ok; minimal = machine; lacks = rw keys at w.0; reason_is = rw keys at w.1 }), w.2)

  -- and what was written is accepted, and is read as the minimal machine
  read_again : (r : Result ℕ Refusal) (after : List ℕ) → MachineWritten k l before r after → ReadsBack k l r after → MinimalReadsBack row r after
  read_again (Ok n) after w back =
      let P : Machine → Type 0 = λ i. MinimalMachine (keys_in row) (machine_in row) i in (
        ap row_refusal w.2 ∙ written_accepted k l made.proper.full _ made.proper few (let a = shape.some_keys in omega arith) (let a = shape.few_keys in omega arith) low,
        subst P (sym back.0) machine,
        back.1 ∙ keys,
      )
  read_again (Err f) after w back = tt

  -- both at once
  pub answered_and_read : (r : Result ℕ Refusal) (after : List ℕ) → MachineWritten k l before r after → ReadsBack k l r after → Minimized row before r after × MinimalReadsBack row r after
  answered_and_read r after w back = (answered r after w, read_again r after w back)
