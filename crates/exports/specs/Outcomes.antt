-- Answers as numbers. Assumes nothing: these are definitions.
use Rattle.std.specs.Prelude.{◌≡◌, ℕ, Ok, Err, Result}
use Rattle.machine.specs.declared.refusals.Refusal.{Refusal}
use Rattle.machine.specs.Refusals.{reason_of}
use Rattle.verdict.specs.declared.verdicts.Verdict.{Verdict}
use Rattle.verdict.specs.declared.verdicts.Verdict.TheVariants.{Passed, Failed}
use Rattle.exports.specs.declared.outcomes.Outcome.{Outcome}
use Rattle.exports.specs.declared.verdicts.Judged.{Judged}

-- 0 and the value, or the refusal's number and its place
abbrev pub outcome_of : Result ℕ Refusal → Outcome
outcome_of (Ok n) = record { refusal = 0; value = n }
outcome_of (Err f) = record { refusal = (reason_of f).number; value = (reason_of f).place }

-- the two numbers of an answer that is right
abbrev pub Told : (Result ℕ Refusal → Type 0) → Outcome → Type 0
Told Right told = (a : Result ℕ Refusal) × Right a × (told ≡ outcome_of a)

-- a judgement with no failed test: the refusal's number and its place, or 0 and 0 if the board passed
abbrev pub refused_as : ℕ → ℕ → Judged
refused_as n p = record { refusal = n; place = p; failed = 0; test = 0; key = 0; shown = 0; expected = 0 }

-- whether the board failed, and where and how, or the refusal's number and its place
abbrev pub judged_of : Result Verdict Refusal → Judged
judged_of (Ok Passed) = refused_as 0 0
judged_of (Ok (Failed t x shown expected)) = record { refusal = 0; place = 0; failed = 1; test = t; key = x; shown = shown; expected = expected }
judged_of (Err f) = refused_as (reason_of f).number (reason_of f).place

-- the seven numbers of a judgement that is right
abbrev pub ToldJudged : (Result Verdict Refusal → Type 0) → Judged → Type 0
ToldJudged Right told = (a : Result Verdict Refusal) × Right a × (told ≡ judged_of a)
