-- The judgement by the line of the first claim that does not follow.
use Rattle.std.specs.Prelude.{ℕ, cond, eqb, Err}
use Rattle.model.specs.Types.{Judgement, accepted}
use Rattle.model.specs.declared.answers.Refusal.TheVariants.{ClaimMayFail}

-- 14 for an instruction on line l, where lost is the line of that claim, or 0 for none
abbrev pub lost_judged : ℕ → ℕ → Judgement
lost_judged l lost = cond (eqb lost 0) accepted (Err (ClaimMayFail l lost))
