-- How a refusal is told. Assumes nothing: these are definitions.
use Rattle.std.specs.Prelude.{ℕ, List, ◌++◌, codes}
use Rattle.std.specs.Fmt.{decimal}
use Rattle.machine.specs.declared.refusals.Refusal.{Refusal}
use Rattle.machine.specs.Refusals.{Reason, reason_of}

-- the reason's number and place, in decimal digits
abbrev pub reason_text : Reason → List ℕ
reason_text r = codes "refused " ++ decimal r.number ++ codes " at " ++ decimal r.place

-- the text of a refusal
abbrev pub refusal_text : Refusal → List ℕ
refusal_text f = reason_text (reason_of f)
