-- A refusal in words: what it means, what to do, and the line that it names, as it is shown.
-- The words are those of README's table. A line is shown in an array of 39 bytes, with spaces behind it where it is shorter.
-- A line that is turned back may hold any bytes. What is shown of it is one line of printable bytes.
use Rattle.std.specs.Prelude.{ℕ, zero, suc, ◌*◌, ◌-◌, cond, List, [], map, ◌++◌, length, take, drop, get_or, replicate, leb, eqb}
use Rattle.model.specs.declared.answers.Refusal.{Refusal}
use Rattle.model.specs.declared.answers.Refusal.TheVariants.{ListingLength, LineBytes, UnknownWord, FieldShape, NumberLimits, ClaimOrder, LastLineClaim, TooManyPoints, NoSuchTarget, NoEnd, EmptyStart, DivisorMayBeZero, AccessMayLeave, ClaimMayFail, TableLength, NoSuchPoint, ClaimsNotMet, NoRoom, SameRegister, UncoveredEdge}
use Rattle.model.specs.Limits.{line_bytes}
use Rattle.model.specs.Text.{space}
use Rattle.model.specs.Words.{bytes}
use Rattle.model.specs.Lines.{printable}

-- what a refusal means
abbrev pub meaning_of : Refusal → List ℕ
meaning_of ListingLength = bytes "no line at all, more than 1,638 of them, or one that is cut short"
meaning_of (LineBytes l) = bytes "a byte that cannot stand in a line, or a line without its end"
meaning_of (UnknownWord l) = bytes "the first four columns are no word"
meaning_of (FieldShape l) = bytes "a field has the wrong shape, is missing, or is filled where it is due blank"
meaning_of (NumberLimits l) = bytes "a number is outside its limits"
meaning_of (ClaimOrder l) = bytes "a claim out of order, repeated, a ninth STRP, or a TURN after line 1"
meaning_of (LastLineClaim l) = bytes "the last line is a claim"
meaning_of (TooManyPoints l) = bytes "more than 512 points"
meaning_of (NoSuchTarget l) = bytes "a target that is no point"
meaning_of (NoEnd l) = bytes "the routine could go on past its last instruction"
meaning_of (EmptyStart l) = bytes "the ranges claimed at point 0 are empty"
meaning_of (DivisorMayBeZero l) = bytes "a divisor may be zero"
meaning_of (AccessMayLeave l) = bytes "an access may leave its table"
meaning_of (ClaimMayFail l c) = bytes "a claim of a next point does not follow"
meaning_of TableLength = bytes "a table has more than 65,536 bytes"
meaning_of NoSuchPoint = bytes "the state's point does not exist"
meaning_of ClaimsNotMet = bytes "the state does not meet the claims of its point"
meaning_of NoRoom = bytes "the listing has no room for the line"
meaning_of (SameRegister l) = bytes "quotient and remainder are to go to the same register"
meaning_of (UncoveredEdge l) = bytes "a way back is not covered by the TURN register"

-- what to do about it
abbrev pub advice_of : Refusal → List ℕ
advice_of ListingLength = bytes "save whole lines of 40 bytes"
advice_of (LineBytes l) = bytes "look at the bytes of the line"
advice_of (UnknownWord l) = bytes "correct the word"
advice_of (FieldShape l) = bytes "right-justify the number; clear what is not named"
advice_of (NumberLimits l) = bytes "look up the field's limits"
advice_of (ClaimOrder l) = bytes "TURN on line 1; LEAS, then MOST, each by rising variable; then at most 8 STRP"
advice_of (LastLineClaim l) = bytes "put its instruction after it"
advice_of (TooManyPoints l) = bytes "split the routine"
advice_of (NoSuchTarget l) = bytes "points count from 0"
advice_of (NoEnd l) = bytes "end it with STOP or JUMP"
advice_of (EmptyStart l) = bytes "mend LEAS or MOST"
advice_of (DivisorMayBeZero l) = bytes "guard it, and claim LEAS 1"
advice_of (AccessMayLeave l) = bytes "claim a stripe of the table's size"
advice_of (ClaimMayFail l c) = bytes "claim more before, or less there"
advice_of TableLength = bytes "split the table"
advice_of NoSuchPoint = bytes "look at the state's JUMP line"
advice_of ClaimsNotMet = bytes "compare the registers and the sizes of the tables with the claims there"
advice_of NoRoom = bytes "lend more bytes; lines count from 1 to 1,638"
advice_of (SameRegister l) = bytes "name two registers, one in F1 and one in F3"
advice_of (UncoveredEdge l) = bytes "go back by a JUMP right after a SUBW of that register, with LEAS for it"

-- a text with spaces behind it, n bytes in all
abbrev pub padded : ℕ → List ℕ → List ℕ
padded n s = s ++ replicate (n - length s) space

-- stands for a byte that cannot be shown
abbrev pub question_mark : ℕ
question_mark = 63

-- a byte as it is shown
unfoldable pub shown_byte : ℕ → ℕ
unfolding printable
shown_byte b = cond (printable b) b question_mark

-- the line of this number, counted from 1, as it is shown, without its end; no bytes where the listing has no such line
unfoldable pub shown_line : List ℕ → ℕ → List ℕ
unfolding shown_byte
shown_line s zero = []
shown_line s (suc k) = cond (leb (suc k * line_bytes) (length s)) (map shown_byte (take 39 (drop (k * line_bytes) s))) []

-- how many of the first n bytes are left without the spaces at their right
unfoldable pub trimmed_to : List ℕ → ℕ → ℕ
trimmed_to s zero = zero
trimmed_to s (suc n) = cond (eqb (get_or s n 0) space) (trimmed_to s n) (suc n)

-- the length of a text without the spaces at its right
abbrev pub trimmed_length : List ℕ → ℕ
trimmed_length s = trimmed_to s (length s)

-- a text without them
abbrev pub trimmed_text : List ℕ → List ℕ
trimmed_text s = take (trimmed_length s) s
