use Rattle.std.proofs.Common.{◌≡◌, ℕ, ◌+◌, ◌^◌, ◌≤◌, min, ◌⊎◌, List, [], ◌++◌, length, drop, sym, ap, ◌∙◌, inl, inr, arith}
use Rattle.std.proofs.lemmas.List.{take_at, drop_all, append-nil}
use Rattle.std.proofs.lemmas.Result.{err_from_is_err_and}
use Rattle.machine.specs.declared.refusals.Refusal.{Refusal}
use Rattle.machine.specs.declared.refusals.Refusal.TheVariants.{NoRoomForTests}
use Rattle.machine.specs.Refusals.{Reason, reason_of}
use Rattle.suite.specs.Answer.{Testable, Untestable, no_machine, not_minimal, too_many_extra, Crowded, made}
use Rattle.suite.specs.Written.{room_for, tests_row}
use Rattle.formats.proofs.lending.tests_row.Goals.{in-Err-NoRoomForTests, in-Ok}
use Rattle.formats.proofs.lending.tests_row.Goals as goal

-- a refusal to write tests into a row is one that `TestsMade` allows
refused : (row : List ℕ) (e : ℕ) (before : List ℕ) (f : Refusal) → Untestable row e (reason_of f) ⊎ Crowded row e before f → Untestable row e (reason_of f) ⊎ (Testable row e × ((reason_of f).number ≡ 5))
refused row e before f (inl u) = inl u
refused row e before f (inr c) = inr (c.testable, ap (λ (r : Reason). r.number) c.reason_is)

-- when the room is asked for
pub returns-in-Err : goal.returns-in-Err
returns-in-Err c = rw c.into.ensures (refused c.args.row.now c.args.extra _ c.in-Err.refusal c.in-Err.ensures.0)

-- when the tests are written
pub returns-in_err-write_tests : goal.returns-in_err-write_tests
returns-in_err-write_tests c =
    let p = err_from_is_err_and c.from_residual-in_err-write_tests.result c.from_residual-in_err-write_tests.ensures.1 in
    rw (p.1, p.2) (refused c.args.row.now c.args.extra _ _ c.in_err-write_tests.ensures.0)

-- where there are tests, no more numbers were asked for than they need
asked : (row : List ℕ) (e : ℕ) (before : List ℕ) (f : Refusal) (needed : ℕ) → f ≡ NoRoomForTests needed → Testable row e → Untestable row e (reason_of f) ⊎ Crowded row e before f → needed ≤ 1 + room_for (made row e)
asked row e before f needed is t (inl (no_machine h)) = absurd (let a = t.accepted in cc)
asked row e before f needed is t (inl (not_minimal a s b h)) = absurd (let n : 5 ≡ 3 = ap (λ (g : Refusal). (reason_of g).number) (sym is) ∙ ap (λ (r : Reason). r.number) h in omega arith)
asked row e before f needed is t (inl (too_many_extra a m b h)) = absurd (let n : 5 ≡ 4 = ap (λ (g : Refusal). (reason_of g).number) (sym is) ∙ ap (λ (r : Reason). r.number) h in omega arith)
asked row e before f needed is t (inr c) =
    let n : needed ≡ min (1 + room_for (made row e)) (2 ^ 32) = ap (λ (g : Refusal). (reason_of g).place) (sym is) ∙ ap (λ (r : Reason). r.place) c.reason_is in
    omega arith

-- the row is as long as the tests need, so nothing is left of what it held
pub returns : goal.returns
returns c =
    let row = c.args.row.now in
    let e = c.args.extra in
    let needed = c.match-write_tests.needed in
    let told = c.in_ok-write_tests.ensures in
    let before = c.deref_mut.result.now in
    let after = c.write_tests-2.new.out in
    let few : needed ≤ 1 + room_for (made row e) = elim c.match-write_tests.branch [ in-Err-NoRoomForTests w ↦ (let v = w.in-Err-NoRoomForTests in rw w.needed-is (asked row e _ v.field-0 v.needed v.field-0-is told.testable v.ensures.0)) | in-Ok w ↦ rw w.needed-is (omega arith) ] in
    let long : length after ≡ c.in_ok-out.out.len = (let a = c.write_tests-2.auto.out in let b = c.deref_mut.ensures.len in omega arith) in
    let nothing : drop (1 + room_for (made row e)) before ≡ [] = drop_all _ before (let a = c.deref_mut.ensures.len in let b = c.in_ok-out.ensures.len in omega arith) in
    take_at after _ c.in_ok-out.out.len long ∙ told.row_is ∙ ap (λ (l : List ℕ). tests_row (made row e) ++ l) nothing ∙ append-nil _
