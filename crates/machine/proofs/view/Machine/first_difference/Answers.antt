use Rattle.std.proofs.Common.{◌<◌, take, ℕ, List, not, eqb, leb, ◌||◌, length, ◌≡◌, true, get_or, sym, refl, ap, ◌∙◌, arith, below_more}
use Rattle.machine.specs.Machine.{Machine, after, move, outputs}
use Rattle.machine.specs.Run.{model, differs_at}
use Rattle.machine.proofs.Differences.{seen_at, difference_none, difference_some}
use Rattle.machine.proofs.Runs.{after_more, outputs_at}
use Rattle.machine.proofs.view.Machine.first_difference.Goals as goal

pub loop-i-init : goal.loop-i-init
unfolding after
loop-i-init c = (refl, λ j h. absurd (omega arith))

-- a key's output is what the machine shows at its place
shown_at : (m : Machine) (w : List ℕ) (i state output : ℕ) → state ≡ after m 0 (take i w) → i < length w → output ≡ (move m state (get_or w i 0)).output → output ≡ get_or (outputs m 0 w) i 0
shown_at m w i state output reached inside is = is ∙ ap (λ s. (move m s (get_or w i 0)).output) reached ∙ sym (outputs_at m 0 w i inside)

pub returns-then-ne : goal.returns-then-ne
returns-then-ne c =
    let m = model c.args.self in
    let w = c.args.word.now in
    let seen = c.args.seen.now in
    let i = c.loop-i.i in
    let shows = shown_at m w i _ _ c.loop-i.invariant.0 c.loop-i-test.true c.step-step.ensures.output in
    let differs : differs_at (outputs m 0 w) seen i ≡ true =
    ap (λ x. leb (length seen) i || not (eqb (get_or seen i 0) x)) (sym shows) ∙ sym (c.ne.ensures ∙ seen_at (λ b. b.now) seen i _ c.get.result c.get.ensures.lookup.0 c.get.ensures.lookup.1) ∙ c.if-ne.true in
    let found = difference_some m w seen i c.loop-i-test.true differs c.loop-i.invariant.1 in
    cc

pub loop-i-preserved : goal.loop-i-preserved
loop-i-preserved c =
    let m = model c.args.self in
    let w = c.args.word.now in
    let i = c.loop-i.i in (
      c.step-step.ensures.to ∙ ap (λ s. (move m s (get_or w i 0)).to) c.loop-i.invariant.0 ∙ sym (after_more m 0 w i c.loop-i-test.true),
      below_more _ _ c.loop-i.invariant.1
          (let shows = shown_at m w i _ _ c.loop-i.invariant.0 c.loop-i-test.true c.step-step.ensures.output in
          ap (λ x. leb (length c.args.seen.now) i || not (eqb (get_or c.args.seen.now i 0) x)) (sym shows)
          ∙ sym (c.ne.ensures ∙ seen_at (λ b. b.now) c.args.seen.now i _ c.get.result c.get.ensures.lookup.0 c.get.ensures.lookup.1) ∙ c.if-ne.false),
    )

pub returns : goal.returns
returns c =
    sym (difference_none (model c.args.self) c.args.word.now c.args.seen.now (λ j h. c.loop-i.invariant.1 j (let l = c.loop-i-test.false in omega arith)))
