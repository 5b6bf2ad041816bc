-- Without the spaces at their right, the texts that the code holds are the words. Assumes nothing.
use mathlib.Core.Path.{◌≡◌, refl}
use Rattle.model.specs.declared.answers.Refusal.{Refusal}
use Rattle.model.specs.declared.answers.Refusal.TheVariants.{ListingLength, LineBytes, UnknownWord, FieldShape, NumberLimits, ClaimOrder, LastLineClaim, TooManyPoints, NoSuchTarget, NoEnd, EmptyStart, DivisorMayBeZero, AccessMayLeave, ClaimMayFail, TableLength, NoSuchPoint, ClaimsNotMet, NoRoom, SameRegister, UncoveredEdge}
use Rattle.explained.specs.Explanation.{meaning_of, advice_of, padded, trimmed_to, trimmed_text}

pub meaning-trimmed : (r : Refusal) → trimmed_text (padded 80 (meaning_of r)) ≡ meaning_of r
unfolding trimmed_to
meaning-trimmed ListingLength = refl
meaning-trimmed (LineBytes l) = refl
meaning-trimmed (UnknownWord l) = refl
meaning-trimmed (FieldShape l) = refl
meaning-trimmed (NumberLimits l) = refl
meaning-trimmed (ClaimOrder l) = refl
meaning-trimmed (LastLineClaim l) = refl
meaning-trimmed (TooManyPoints l) = refl
meaning-trimmed (NoSuchTarget l) = refl
meaning-trimmed (NoEnd l) = refl
meaning-trimmed (EmptyStart l) = refl
meaning-trimmed (DivisorMayBeZero l) = refl
meaning-trimmed (AccessMayLeave l) = refl
meaning-trimmed (ClaimMayFail l c) = refl
meaning-trimmed TableLength = refl
meaning-trimmed NoSuchPoint = refl
meaning-trimmed ClaimsNotMet = refl
meaning-trimmed NoRoom = refl
meaning-trimmed (SameRegister l) = refl
meaning-trimmed (UncoveredEdge l) = refl

pub advice-trimmed : (r : Refusal) → trimmed_text (padded 80 (advice_of r)) ≡ advice_of r
unfolding trimmed_to
advice-trimmed ListingLength = refl
advice-trimmed (LineBytes l) = refl
advice-trimmed (UnknownWord l) = refl
advice-trimmed (FieldShape l) = refl
advice-trimmed (NumberLimits l) = refl
advice-trimmed (ClaimOrder l) = refl
advice-trimmed (LastLineClaim l) = refl
advice-trimmed (TooManyPoints l) = refl
advice-trimmed (NoSuchTarget l) = refl
advice-trimmed (NoEnd l) = refl
advice-trimmed (EmptyStart l) = refl
advice-trimmed (DivisorMayBeZero l) = refl
advice-trimmed (AccessMayLeave l) = refl
advice-trimmed (ClaimMayFail l c) = refl
advice-trimmed TableLength = refl
advice-trimmed NoSuchPoint = refl
advice-trimmed ClaimsNotMet = refl
advice-trimmed NoRoom = refl
advice-trimmed (SameRegister l) = refl
advice-trimmed (UncoveredEdge l) = refl
