-- Document 01, 'Turned back, in checking order', with the numbers 18 to 20 of document 02: the number, the place and the second place of each refusal.
use Rattle.std.specs.Prelude.{ℕ, Bool, true, false}
use Rattle.model.specs.Types.{Refusal, ListingLength, LineBytes, UnknownWord, FieldShape, NumberLimits, ClaimOrder, LastLineClaim, TooManyPoints, NoSuchTarget, NoEnd, EmptyStart, DivisorMayBeZero, AccessMayLeave, ClaimMayFail, TableLength, NoSuchPoint, ClaimsNotMet, NoRoom, SameRegister, UncoveredEdge, Judgement, Err, Ok}

-- the number of a refusal
abbrev pub number_of : Refusal → ℕ
number_of ListingLength = 1
number_of (LineBytes l) = 2
number_of (UnknownWord l) = 3
number_of (FieldShape l) = 4
number_of (NumberLimits l) = 5
number_of (ClaimOrder l) = 6
number_of (LastLineClaim l) = 7
number_of (TooManyPoints l) = 8
number_of (NoSuchTarget l) = 9
number_of (NoEnd l) = 10
number_of (EmptyStart l) = 11
number_of (DivisorMayBeZero l) = 12
number_of (AccessMayLeave l) = 13
number_of (ClaimMayFail l c) = 14
number_of TableLength = 15
number_of NoSuchPoint = 16
number_of ClaimsNotMet = 17
number_of NoRoom = 18
number_of (SameRegister l) = 19
number_of (UncoveredEdge l) = 20

-- its place: a line counted from 1, or 0 for none
abbrev pub place_of : Refusal → ℕ
place_of ListingLength = 0
place_of (LineBytes l) = l
place_of (UnknownWord l) = l
place_of (FieldShape l) = l
place_of (NumberLimits l) = l
place_of (ClaimOrder l) = l
place_of (LastLineClaim l) = l
place_of (TooManyPoints l) = l
place_of (NoSuchTarget l) = l
place_of (NoEnd l) = l
place_of (EmptyStart l) = l
place_of (DivisorMayBeZero l) = l
place_of (AccessMayLeave l) = l
place_of (ClaimMayFail l c) = l
place_of TableLength = 0
place_of NoSuchPoint = 0
place_of ClaimsNotMet = 0
place_of NoRoom = 0
place_of (SameRegister l) = l
place_of (UncoveredEdge l) = l

-- its second place: the line of the claim for 14, 0 for all others
abbrev pub second_place_of : Refusal → ℕ
second_place_of ListingLength = 0
second_place_of (LineBytes l) = 0
second_place_of (UnknownWord l) = 0
second_place_of (FieldShape l) = 0
second_place_of (NumberLimits l) = 0
second_place_of (ClaimOrder l) = 0
second_place_of (LastLineClaim l) = 0
second_place_of (TooManyPoints l) = 0
second_place_of (NoSuchTarget l) = 0
second_place_of (NoEnd l) = 0
second_place_of (EmptyStart l) = 0
second_place_of (DivisorMayBeZero l) = 0
second_place_of (AccessMayLeave l) = 0
second_place_of (ClaimMayFail l c) = c
second_place_of TableLength = 0
second_place_of NoSuchPoint = 0
second_place_of ClaimsNotMet = 0
second_place_of NoRoom = 0
second_place_of (SameRegister l) = 0
second_place_of (UncoveredEdge l) = 0

-- whether a judgement turns back
abbrev pub is_refused : Judgement → Bool
is_refused (Ok u) = false
is_refused (Err r) = true

-- of two tests made in order, the first refusal
abbrev pub ◌and_then◌ : Judgement → Judgement → Judgement
Ok u and_then j = j
Err r and_then j = Err r

infixl 20 ◌and_then◌
