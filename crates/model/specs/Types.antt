-- The declared types of the crate under one roof, with the names that the chapters use for them.
-- Where two types share the name of a case, the words of a listing are written in capitals, as in the text.
-- In all chapters a term that document 01 defines stands in single quotes where it is defined.
use Rattle.std.specs.Prelude.{ℕ}
pub use Rattle.std.specs.Prelude.{Option, Some, None, Result, Ok, Err}
pub use Rattle.model.specs.declared.text.Shape.{Shape}
pub use Rattle.model.specs.declared.text.Shape.TheVariants.{Spaces, Zero, Digits, Sign, Signed, Wrong}
pub use Rattle.model.specs.declared.text.Field.{Field}
pub use Rattle.model.specs.declared.text.Field.TheVariants.{Blank, Number, Negative, Misshapen}
pub use Rattle.model.specs.declared.text.Word.{Word}
pub use Rattle.model.specs.declared.text.Word.TheVariants.{Stop as STOP, Setc as SETC, Copy as COPY, Addw as ADDW, Subw as SUBW, Mulw as MULW, Divf as DIVF, Load as LOAD, Stor as STOR, Jump as JUMP, Bltu as BLTU, Bequ as BEQU, Leas as LEAS, Most as MOST, Strp as STRP, Divm as DIVM, Turn as TURN}
pub use Rattle.model.specs.declared.text.Content.{Content}
pub use Rattle.model.specs.declared.text.Content.TheVariants.{Register as a_register, Variable as a_variable, Target as a_target, Width as a_width, Table as a_table, Scale as a_scale, Offset as an_offset, Number as a_number, Choice as a_choice, Operand as an_operand, Claimed as a_claimed, Bound as a_bound}
pub use Rattle.model.specs.declared.text.Kind.{Kind}
pub use Rattle.model.specs.declared.text.Kind.TheVariants.{Empty as empty, Plain as plain, Optional as optional, Signed as signed}
pub use Rattle.model.specs.declared.machine.Width.{Width}
pub use Rattle.model.specs.declared.machine.Width.TheVariants.{One, Two, Four}
pub use Rattle.model.specs.declared.machine.Table.{Table}
pub use Rattle.model.specs.declared.machine.Table.TheVariants.{Trays, Results}
pub use Rattle.model.specs.declared.machine.Operand.{Operand}
pub use Rattle.model.specs.declared.machine.Operand.TheVariants.{Variable as variable, Number as number}
pub use Rattle.model.specs.declared.machine.Instruction.{Instruction}
pub use Rattle.model.specs.declared.machine.Instruction.TheVariants.{Stop, Setc, Copy, Addw, Subw, Mulw, Divf, Load, Stor, Jump, Bltu, Bequ, Divm}
pub use Rattle.model.specs.declared.machine.Edge.{Edge}
pub use Rattle.model.specs.declared.machine.Edge.TheVariants.{Next, Target}
pub use Rattle.model.specs.declared.machine.State.{State}
pub use Rattle.model.specs.declared.claims.Range.{Range}
pub use Rattle.model.specs.declared.claims.Stripe.{Stripe}
pub use Rattle.model.specs.declared.claims.Claim.{Claim}
pub use Rattle.model.specs.declared.claims.Claim.TheVariants.{Leas, Most, Strp, Turn}
pub use Rattle.model.specs.declared.claims.Line.{Line}
pub use Rattle.model.specs.declared.claims.Line.TheVariants.{Refused as refused_line, Claim as claim_line, Instruction as instruction_line}
pub use Rattle.model.specs.declared.answers.Refusal.{Refusal}
pub use Rattle.model.specs.declared.answers.Refusal.TheVariants.{ListingLength, LineBytes, UnknownWord, FieldShape, NumberLimits, ClaimOrder, LastLineClaim, TooManyPoints, NoSuchTarget, NoEnd, EmptyStart, DivisorMayBeZero, AccessMayLeave, ClaimMayFail, TableLength, NoSuchPoint, ClaimsNotMet, NoRoom, SameRegister, UncoveredEdge}
pub use Rattle.model.specs.declared.answers.ClaimPart.{ClaimPart}
pub use Rattle.model.specs.declared.answers.Report.{Report}
pub use Rattle.model.specs.declared.answers.Report.TheVariants.{Stopped, Paused, Refused as refused_run}
pub use Rattle.model.specs.declared.answers.Outcome.{Outcome}

-- what becomes of something that is tested: it is accepted, or a refusal turns it back
abbrev pub Judgement : Type 0
Judgement = Result Unit Refusal

-- nothing turns it back
abbrev pub accepted : Judgement
accepted = Ok tt

-- the checker's answer: the number of points of a listing that passes, or the refusal
abbrev pub Verdict : Type 0
Verdict = Result ℕ Refusal

-- the answer for the steps that a listing needs: a bound, or the refusal
abbrev pub StepBound : Type 0
StepBound = Result ℕ Refusal
