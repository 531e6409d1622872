use Rattle.std.proofs.Common.{◌≡◌, ℕ, ◌<◌, ◌≤◌, [], ◌∷◌, ◌++◌, length, get_or, ap, ◌∙◌, arith}
use lib.ListN.{length-map}
use Rattle.std.proofs.lemmas.List.{map-set}
use Rattle.machine.specs.Items.{items}
use Rattle.machine.proofs.Views.{view_proper, few_states}
use Rattle.minimal.specs.Search.{found_at, found_count}
use Rattle.minimal.specs.declared.tree.Found.{Found}
use Rattle.minimal.specs.declared.tree.Tree.{Tree}
use Rattle.minimal.proofs.Known.{known_minimal}
use Rattle.cover.specs.Words.{word_of, words_of}
use Rattle.cover.proofs.Reached.{parent_of, found_inside, parent_inside, parent_short, placed_more, placed_all, word_read}
use Rattle.cover.proofs.reaching.access.Goals as goal

-- the parent of what was found at a place, and its class
parent_is : (tree : Tree) (j : ℕ) {found parent : Found} → found ≡ found_at tree j → parent ≡ found_at tree found.parent → parent.class ≡ parent_of tree j
parent_is tree j found parent = ap (λ (d : Found). d.class) (parent ∙ ap (λ (d : Found). found_at tree d.parent) found)

pub unreached-words-requires : goal.unreached-words-requires
unreached-words-requires c = let f = few_states c.args.m.machine in let e = c.states.ensures in omega arith

pub at-parent-requires : goal.at-parent-requires
at-parent-requires c =
    let l = rw c.len-j-end.ensures.value at c.loop-j-test.true in
    let before = c.reach-tree.ensures.2.parents c.loop-j.j c.loop-j.auto.j l in
    let e = ap (λ (d : Found). d.parent) c.at-found.ensures in
    omega arith

pub offset_bounds-deref-parent : goal.offset_bounds-deref-parent
offset_bounds-deref-parent c =
    let few = few_states c.args.m.machine in
    let e = parent_is c.reach-tree.result c.loop-j.j c.at-found.ensures c.at-parent.ensures in
    let l = parent_inside (view_proper c.args.m.machine) c.reach-tree.ensures c.loop-j.auto.j (rw c.len-j-end.ensures.value at c.loop-j-test.true) in
    omega arith

pub bounds-deref-parent : goal.bounds-deref-parent
bounds-deref-parent c =
    let p = parent_is c.reach-tree.result c.loop-j.j c.at-found.ensures c.at-parent.ensures in
    let l = parent_inside (view_proper c.args.m.machine) c.reach-tree.ensures c.loop-j.auto.j (rw c.len-j-end.ensures.value at c.loop-j-test.true) in
    let n = c.loop-j.invariant.long in
    let e = ap length c.deref.ensures.0 in
    let s = length-map (items c.loop-j.words) word_of in
    omega arith

pub followed-word-requires : goal.followed-word-requires
followed-word-requires c =
    let tree = c.reach-tree.result in
    let inside = rw c.len-j-end.ensures.value at c.loop-j-test.true in
    let is = parent_is c.reach-tree.result c.loop-j.j c.at-found.ensures c.at-parent.ensures in
    let l : c.at-parent.result.class < length (words_of (items c.loop-j.words)) =
    let n = c.loop-j.invariant.long in
    let i = parent_inside (view_proper c.args.m.machine) c.reach-tree.ensures c.loop-j.auto.j inside in
    omega arith in
    let e = ap length (word_read (items c.loop-j.words) c.at-parent.result.class c.deref.ensures.0 l c.index-deref-parent.is ∙ ap (λ i. get_or (words_of (items c.loop-j.words)) i []) is) in
    let short = parent_short (view_proper c.args.m.machine) c.reach-tree.ensures c.loop-j.invariant c.loop-j.auto.j inside in
    let few : found_count tree ≤ 16 = rw (← c.len-j-end.ensures.value) c.len-j-end.ensures.fits in
    omega arith

pub set-requires : goal.set-requires
set-requires c =
    let d = ap (λ (d : Found). d.class) c.at-found.ensures in
    let l = found_inside (view_proper c.args.m.machine) c.reach-tree.ensures (rw c.len-j-end.ensures.value at c.loop-j-test.true) in
    let n = c.loop-j.invariant.long in
    let s = length-map (items c.loop-j.words) word_of in
    omega arith

pub loop-j-preserved : goal.loop-j-preserved
loop-j-preserved c =
    let tree = c.reach-tree.result in
    let inside = rw c.len-j-end.ensures.value at c.loop-j-test.true in
    let found = c.at-found.ensures in
    let is = parent_is tree c.loop-j.j found c.at-parent.ensures in
    let l : c.at-parent.result.class < length (words_of (items c.loop-j.words)) =
    let n = c.loop-j.invariant.long in
    let i = parent_inside (view_proper c.args.m.machine) c.reach-tree.ensures c.loop-j.auto.j inside in
    omega arith in
    let parent = word_read (items c.loop-j.words) c.at-parent.result.class c.deref.ensures.0 l c.index-deref-parent.is ∙ ap (λ i. get_or (words_of (items c.loop-j.words)) i []) is in
    let grown = c.followed-word.ensures ∙ ap (λ w. w ++ c.at-found.result.key ∷ []) parent ∙ ap (λ (d : Found). get_or (words_of (items c.loop-j.words)) (parent_of tree c.loop-j.j) [] ++ d.key ∷ []) found in
    rw (ap words_of c.set.ensures ∙ map-set word_of (items c.loop-j.words) c.at-found.result.class c.followed-word.result, found)
    (placed_more (view_proper c.args.m.machine) c.reach-tree.ensures c.loop-j.invariant c.loop-j.auto.j inside grown)

pub returns : goal.returns
returns c = placed_all (view_proper c.args.m.machine) c.reach-tree.ensures c.loop-j.invariant (known_minimal c.args.m) (few_states c.args.m.machine) (rw c.len-j-end.ensures.value at c.loop-j-test.false)
