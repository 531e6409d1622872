use Rattle.std.proofs.Common.{◌≡◌, ℕ, ◌<◌, [], ◌∷◌, ◌++◌, length, sym, refl, ap, ◌∙◌, arith}
use Rattle.std.proofs.lemmas.List.{length_push}
use Rattle.machine.specs.Items.{items}
use Rattle.machine.specs.Machine.{after, move}
use Rattle.machine.specs.Run.{keys_of, model}
use Rattle.machine.specs.declared.view.Machine.{Machine as View}
use Rattle.machine.proofs.First.{none_from_test, some_from_test}
use Rattle.machine.proofs.Views.{few_states, view_proper}
use Rattle.minimal.specs.Levels.{class_in}
use Rattle.minimal.specs.Quotient.{Congruence, class_after}
use Rattle.minimal.specs.Search.{word_at, found_count, class_found}
use Rattle.minimal.specs.declared.tree.Found.{Found}
use Rattle.minimal.specs.declared.tree.Tree.{Tree}
use Rattle.minimal.proofs.Growing.{Growing, found_some, found_none, grows_root, grows_known, grows_room, grows_new, grows_done, grows_ends, behind_is}
use Rattle.minimal.proofs.Quotient.{congruence_low}
use Rattle.minimal.proofs.classes.Classes.search.Goals as goal
use Rattle.minimal.proofs.classes.Classes.search.Goals.{then-is_none, else-is_none}

pub loop-parent-init : goal.loop-parent-init
unfolding after
loop-parent-init c = grows_root c.root-tree.result _ c.root-tree.ensures refl

-- the class behind the key is that of the word with the key behind
behind : (m : View) (class : ℕ → ℕ) (of : Congruence (keys_of m) (model m) class) (i x : ℕ) (tree : Tree) (g : Growing (keys_of m) (class_after class (model m)) i x tree) → i < found_count tree → x < keys_of m →
    (b e : ℕ) → e ≡ class_found tree i → b ≡ class (move (model m) e x).to → b ≡ class_after class (model m) (word_at g.words i ++ x ∷ [])
behind m class of i x tree g hi hx b e is_e is_b = is_b ∙ ap (λ e. class (move (model m) e x).to) is_e ∙ behind_is (view_proper m) of i x tree g hi hx

pub loop-key-preserved : goal.loop-key-preserved
loop-key-preserved c =
    let m = c.args.self.machine in
    let g = c.loop-key.invariant.0 in
    let hi = c.loop-key.invariant.1 in
    let hx : c.loop-key.key < keys_of m = omega arith in
    let here = behind m (class_in c.args.self.of) c.requires _ _ _ g hi hx _ _ (ap (λ (d : Found). d.class) c.at.ensures) c.behind-class.ensures in
    elim c.if-is_none.branch [
      | then-is_none w ↦
          let none = found_none c.loop-key.tree _ (sym c.find.ensures ∙ none_from_test _ w.if-is_none.ensures) in
          let pushed = ap (λ (t : Tree). (items t.found)) w.tree-is ∙ w.push.ensures in
          let new = pushed ∙ ap (λ v. (items c.loop-key.tree.found) ++ record { class = v; parent = c.loop-parent.parent; key = c.loop-key.key } ∷ []) here in (
            grows_new _ _ _ g hi hx (λ l h e. none l h (e ∙ sym here)) c.if-is_none.tree new,
            (let many = ap length new ∙ length_push (items c.loop-key.tree.found) _ in omega arith),
          )
      | else-is_none w ↦
          let some = some_from_test _ w.if-is_none.ensures in
          let at = found_some c.loop-key.tree _ some.0 (sym c.find.ensures ∙ some.1) in
          rw w.tree-is (grows_known _ _ _ g hi hx some.0 at.0 (at.1 ∙ here), hi)
    ]

pub push-requires : goal.push-requires
push-requires c =
    let m = c.args.self.machine in
    let g = c.loop-key.invariant.0 in
    let hi = c.loop-key.invariant.1 in
    let hx : c.loop-key.key < keys_of m = omega arith in
    let here = behind m (class_in c.args.self.of) c.requires _ _ _ g hi hx _ _ (ap (λ (d : Found). d.class) c.at.ensures) c.behind-class.ensures in
    let none = found_none c.loop-key.tree _ (sym c.find.ensures ∙ none_from_test _ c.if-is_none.ensures) in
    let room = grows_room _ _ _ g hi hx (λ l h e. none l h (e ∙ sym here)) (length (model m)) (congruence_low (view_proper m) c.requires) in
    let low : found_count c.loop-key.tree < 16 = omega (arith, few_states m) in
    (omega arith, low)

pub loop-parent-preserved : goal.loop-parent-preserved
loop-parent-preserved c =
    let all : c.loop-key.key ≡ keys_of c.args.self.machine = (let a = c.loop-key.auto in let t = c.loop-key-test.false in omega arith) in
    grows_done _ _ (rw all at c.loop-key.invariant.0)

pub returns : goal.returns
returns c = record {
  found = grows_ends (view_proper c.args.self.machine) c.requires _ _ c.loop-parent.invariant (let e = c.len.ensures.value in let t = c.loop-parent-test.false in omega arith);
  few = rw (← c.len.ensures.value) c.len.ensures.fits;
}
