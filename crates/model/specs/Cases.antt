-- Document 01, 'Worked listings': C1 to C10 with every variant stated there, as one table with one theorem, by computation. C10 has the
-- answer that document 02 gives it.
-- Answers are stated in numbers: the points of a listing that passes, or a refusal's number, place and second place, 0 for none.
-- The rows after C10 go beyond them: each number that C1 to C10 do not show, 2 to 11, 15 and 16, and 12 once more, most with a second fault
-- that is tested later; three rows of the printer and the runner; the call for claim lines; the slips that document 01 names, each beside a
-- like listing that passes; and document 02's requests, T-01 to T-03 and T-05 to T-07, with a row or more for each clause. C9 is the slip
-- of the address. A third variable in a link and a fourth link stand with the slips: no run goes wrong by them, so that soundness does
-- not refuse them. 8 is shown on points that are read: 513 lines are too many to read by computation; so are the near misses of a
-- covered edge and of an empty point, which takes less time. What no answer shows, an edge whose divisor can only be 0, is asked of the
-- edge itself.
-- A listing is written a row a line: the word and the six fields, each as the text that stands at the right of its columns.
use Rattle.std.specs.Prelude.{ℕ, zero, suc, ◌+◌, ◌-◌, List, [], ◌∷◌, ◌++◌, length, replicate}
use Prim.Native.String.{String}
use Rattle.model.specs.Types.{Field, Blank, Number, Negative, variable, number, Instruction, Stop, Copy, Addw, Subw, Mulw, Jump, Bltu, Bequ, Divm, Divf, Next, Stripe, Claim, Leas, Most, Strp, Turn, State, Refusal, Judgement, Err, StepBound, Ok, Verdict, Report, Stopped, Paused, refused_run}
use Rattle.model.specs.Limits.{blank_variable, StripeLimits, today, earlier}
use Rattle.model.specs.Text.{space}
use Rattle.model.specs.Words.{bytes}
use Rattle.model.specs.Answers.{number_of, place_of, second_place_of}
use Rattle.model.specs.Listing.{Point, whole_judged, listing_of, claim_lines_judged, claim_lines}
use Rattle.model.specs.Writing.{room_for, line_judged, listing_set}
use Rattle.model.specs.Machine.{lent}
use Rattle.model.specs.Facts.{facts_of}
use Rattle.model.specs.Transfer.{stripe, apart, facts_along}
use Rattle.model.specs.Check.{claims_judged, points_judged, check, check_within}
use Rattle.model.specs.Run.{Ran, run}
use Rattle.model.specs.Output.{printed}
use Rattle.model.specs.Bound.{edges_covered, bound_from, step_bound}

-- a text at the right of n columns
abbrev right : ℕ → String → List ℕ
right n t = replicate (n - length (bytes t)) space ++ bytes t

-- a line: a word and six fields
abbrev row : String → String → String → String → String → String → String → List ℕ
row w f1 f2 f3 f4 f5 f6 = bytes w ++ right 4 f1 ++ right 4 f2 ++ right 4 f3 ++ right 4 f4 ++ right 4 f5 ++ right 15 f6 ++ bytes "\n"

-- the rows of a listing, one after the other
abbrev rows : List (List ℕ) → List ℕ
rows [] = []
rows (l ∷ ls) = l ++ rows ls

-- C1: no line at all
abbrev c1 : List ℕ
c1 = []

-- C2: STOP alone
abbrev c2 : List ℕ
c2 = rows (row "STOP" "" "" "" "" "" "" ∷ [])

-- C3: a JUMP to itself
abbrev c3 : List ℕ
c3 = rows (row "JUMP" "" "" "" "0" "" "" ∷ [])

-- C4: a divisor that may be 0
abbrev c4 : List ℕ
c4 =
    rows
    (row "LEAS" "16" "" "" "" "" "4"
    ∷ row "MOST" "1" "" "" "" "" "0"
    ∷ row "LOAD" "2" "2" "0" "1" "1" "0"
    ∷ row "DIVF" "3" "4" "" "" "0" "2"
    ∷ row "STOP" "" "" "" "" "" ""
    ∷ [])

-- C5: C4 with its divisor guarded
abbrev c5 : List ℕ
c5 =
    rows
    (row "LEAS" "16" "" "" "" "" "4"
    ∷ row "MOST" "1" "" "" "" "" "0"
    ∷ row "LOAD" "2" "2" "0" "1" "1" "0"
    ∷ row "BEQU" "" "2" "" "3" "1" "0"
    ∷ row "LEAS" "2" "" "" "" "" "1"
    ∷ row "DIVF" "3" "4" "" "" "0" "2"
    ∷ row "STOP" "" "" "" "" "" ""
    ∷ [])

-- C6 with the bound of its claim Q
abbrev c6 : String → List ℕ
c6 q =
    rows
    (row "STRP" "17" "4" "1" "" "" "0"
    ∷ row "SETC" "0" "" "" "" "" "0"
    ∷ row "STRP" "17" "4" "1" "" "" "0"
    ∷ row "BLTU" "" "0" "" "3" "0" "1"
    ∷ row "STOP" "" "" "" "" "" ""
    ∷ row "STRP" "17" "4" "1" "" "" "0"
    ∷ row "STRP" "17" "4" "0" "" "" q
    ∷ row "STOR" "2" "4" "" "4" "0" "0"
    ∷ row "STRP" "17" "4" "1" "" "" "0"
    ∷ row "ADDW" "0" "0" "" "" "1" "1"
    ∷ row "STRP" "17" "4" "1" "" "" "0"
    ∷ row "JUMP" "" "" "" "1" "" ""
    ∷ [])

-- C8 with the number that is added
abbrev c8 : String → List ℕ
c8 n =
    rows
    (row "SETC" "0" "" "" "" "" "4294967295"
    ∷ row "LEAS" "0" "" "" "" "" "4294967295"
    ∷ row "ADDW" "0" "0" "" "" "1" n
    ∷ row "LEAS" "0" "" "" "" "" "1"
    ∷ row "STOP" "" "" "" "" "" ""
    ∷ [])

-- C9: an address that would wrap
abbrev c9 : List ℕ
c9 =
    rows
    (row "LEAS" "1" "" "" "" "" "1073741824"
    ∷ row "LEAS" "16" "" "" "" "" "4"
    ∷ row "MOST" "1" "" "" "" "" "1073741824"
    ∷ row "LOAD" "0" "4" "0" "4" "1" "0"
    ∷ row "STOP" "" "" "" "" "" ""
    ∷ [])

-- C10: an empty point, which owes nothing
abbrev c10 : List ℕ
c10 =
    rows
    (row "JUMP" "" "" "" "2" "" ""
    ∷ row "LEAS" "0" "" "" "" "" "1"
    ∷ row "MOST" "0" "" "" "" "" "0"
    ∷ row "DIVF" "1" "2" "" "" "0" "3"
    ∷ row "STOP" "" "" "" "" "" ""
    ∷ [])

-- 2: a byte of line 3 is outside its limits; the word is unknown too
abbrev unprintable : List ℕ
unprintable =
    rows
    (row "STOP" "" "" "" "" "" ""
    ∷ row "LEAS" "0" "" "" "" "" "0"
    ∷ row "H\nLT" "x" "" "" "" "" ""
    ∷ row "STOP" "" "" "" "" "" ""
    ∷ [])

-- 3: the word of line 2 is unknown; F1 is misshapen too
abbrev unknown_word : List ℕ
unknown_word =
    rows
    (row "STOP" "" "" "" "" "" ""
    ∷ row "HALT" "x" "" "" "" "" ""
    ∷ row "STOP" "" "" "" "" "" ""
    ∷ [])

-- 4: F2 of line 2 is misshapen; F1 is outside its limits too
abbrev misshapen : List ℕ
misshapen =
    rows
    (row "STOP" "" "" "" "" "" ""
    ∷ row "COPY" "16" "x" "" "" "" ""
    ∷ row "STOP" "" "" "" "" "" ""
    ∷ [])

-- 5: F6 of line 3 is outside its limits; the claim is out of order too
abbrev outside_limits : List ℕ
outside_limits =
    rows
    (row "STOP" "" "" "" "" "" ""
    ∷ row "MOST" "16" "" "" "" "" "0"
    ∷ row "LEAS" "16" "" "" "" "" "65537"
    ∷ row "STOP" "" "" "" "" "" ""
    ∷ [])

-- 6: the claim of line 3 is out of order; a byte of line 4 is outside its limits too
abbrev out_of_order : List ℕ
out_of_order =
    rows
    (row "STOP" "" "" "" "" "" ""
    ∷ row "MOST" "16" "" "" "" "" "0"
    ∷ row "LEAS" "17" "" "" "" "" "0"
    ∷ row "ST\nP" "" "" "" "" "" ""
    ∷ [])

-- 7: the last line, line 4, is a claim; the target of line 2 is no point too
abbrev claim_last : List ℕ
claim_last =
    rows
    (row "STOP" "" "" "" "" "" ""
    ∷ row "JUMP" "" "" "" "9" "" ""
    ∷ row "STOP" "" "" "" "" "" ""
    ∷ row "LEAS" "0" "" "" "" "" "0"
    ∷ [])

-- 8: n points on successive lines from line l on, each a COPY, so that 10 is due too
abbrev copies : ℕ → ℕ → List Point
copies l zero = []
copies l (suc n) = record { line = l; claims = []; instruction = Copy 0 1 } ∷ copies (l + 1) n

-- 9: of four points, line 4 goes to a fifth and line 5 to a sixth; the last instruction is a COPY too
abbrev no_such_target : List ℕ
no_such_target =
    rows
    (row "LEAS" "0" "" "" "" "" "1"
    ∷ row "MOST" "0" "" "" "" "" "0"
    ∷ row "JUMP" "" "" "" "2" "" ""
    ∷ row "JUMP" "" "" "" "4" "" ""
    ∷ row "JUMP" "" "" "" "5" "" ""
    ∷ row "COPY" "0" "1" "" "" "" ""
    ∷ [])

-- 10: the last instruction, on line 4, is a COPY; a range of point 0 is empty too
abbrev no_end : List ℕ
no_end =
    rows
    (row "LEAS" "0" "" "" "" "" "1"
    ∷ row "MOST" "0" "" "" "" "" "0"
    ∷ row "JUMP" "" "" "" "1" "" ""
    ∷ row "COPY" "0" "1" "" "" "" ""
    ∷ [])

-- 11: a range of point 0, on line 3, is empty; the divisor may be 0 too
abbrev empty_start : List ℕ
empty_start =
    rows
    (row "LEAS" "0" "" "" "" "" "1"
    ∷ row "MOST" "0" "" "" "" "" "0"
    ∷ row "DIVF" "1" "2" "" "" "0" "3"
    ∷ row "STOP" "" "" "" "" "" ""
    ∷ [])

-- 12: C4 where a claim of the last point does not follow either
abbrev two_faults : List ℕ
two_faults =
    rows
    (row "LEAS" "16" "" "" "" "" "4"
    ∷ row "MOST" "1" "" "" "" "" "0"
    ∷ row "LOAD" "2" "2" "0" "1" "1" "0"
    ∷ row "DIVF" "3" "4" "" "" "0" "2"
    ∷ row "LEAS" "3" "" "" "" "" "1"
    ∷ row "STOP" "" "" "" "" "" ""
    ∷ [])

-- 15: a table of one byte too many
abbrev long_table : List ℕ
long_table = replicate 65537 0

-- register 0 is written between two claims of one stripe, of scale 1 and with the given x, y and z
abbrev written : String → String → String → List ℕ
written x y z =
    rows
    (row "STRP" x "1" y z "" "1"
    ∷ row "SETC" "0" "" "" "" "" "9"
    ∷ row "STRP" x "1" y z "" "1"
    ∷ row "STOP" "" "" "" "" "" ""
    ∷ [])

-- register 0, at most m, is incremented between two claims of one stripe, the second with the bound b
abbrev incremented : String → String → List ℕ
incremented m b =
    rows
    (row "MOST" "0" "" "" "" "" m
    ∷ row "STRP" "0" "1" "1" "" "" "0"
    ∷ row "ADDW" "0" "0" "" "" "1" "1"
    ∷ row "STRP" "0" "1" "1" "" "" b
    ∷ row "STOP" "" "" "" "" "" ""
    ∷ [])

-- an access through one link, a stripe of scale a with the given z
abbrev linked : String → String → List ℕ
linked a z =
    rows
    (row "STRP" "1" a "0" z "" "0"
    ∷ row "STRP" "16" "1" "1" "" "" "4"
    ∷ row "LOAD" "2" "4" "0" "1" "0" "0"
    ∷ row "STOP" "" "" "" "" "" ""
    ∷ [])

-- an access that needs v links, each from one register to the next
abbrev chained : String → List ℕ
chained v =
    rows
    (row "STRP" "1" "1" "0" "" "" "0"
    ∷ row "STRP" "2" "1" "1" "" "" "0"
    ∷ row "STRP" "3" "1" "2" "" "" "0"
    ∷ row "STRP" "4" "1" "3" "" "" "0"
    ∷ row "STRP" "16" "1" v "" "" "4"
    ∷ row "LOAD" "5" "4" "0" "1" "0" "0"
    ∷ row "STOP" "" "" "" "" "" ""
    ∷ [])

-- a loop that goes back while register 0 is below n, to a claim that it is at most 3
abbrev looping : String → List ℕ
looping n =
    rows
    (row "SETC" "0" "" "" "" "" "0"
    ∷ row "MOST" "0" "" "" "" "" "3"
    ∷ row "ADDW" "0" "0" "" "" "1" "1"
    ∷ row "MOST" "0" "" "" "" "" "4"
    ∷ row "BLTU" "" "0" "" "1" "1" n
    ∷ row "STOP" "" "" "" "" "" ""
    ∷ [])

-- register 0 divided by a number
abbrev divided : String → List ℕ
divided n = rows (row "DIVF" "1" "0" "" "" "1" n ∷ row "STOP" "" "" "" "" "" "" ∷ [])

-- register 0, at most 7, divided by 2, with a claim that the quotient is at most m
abbrev halved : String → List ℕ
halved m =
    rows
    (row "MOST" "0" "" "" "" "" "7"
    ∷ row "DIVF" "1" "0" "" "" "1" "2"
    ∷ row "MOST" "1" "" "" "" "" m
    ∷ row "STOP" "" "" "" "" "" ""
    ∷ [])

-- register 0, which is 7, divided by register 2, from 2 to 4, with a claim that the quotient lies from l to m
abbrev shared : String → String → List ℕ
shared l m =
    rows
    (row "LEAS" "0" "" "" "" "" "7"
    ∷ row "LEAS" "2" "" "" "" "" "2"
    ∷ row "MOST" "0" "" "" "" "" "7"
    ∷ row "MOST" "2" "" "" "" "" "4"
    ∷ row "DIVF" "1" "0" "" "" "0" "2"
    ∷ row "LEAS" "1" "" "" "" "" l
    ∷ row "MOST" "1" "" "" "" "" m
    ∷ row "STOP" "" "" "" "" "" ""
    ∷ [])

-- register 0 divided by a number: the quotient in register 1, the remainder in register 2
abbrev dealt : String → List ℕ
dealt n = rows (row "DIVM" "1" "0" "2" "" "1" n ∷ row "STOP" "" "" "" "" "" "" ∷ [])

-- a DIVM of these three fields by a register that is at least 1
abbrev overwriting : String → String → String → String → List ℕ
overwriting q i r o =
    rows
    (row "LEAS" o "" "" "" "" "1"
    ∷ row "DIVM" q i r "" "0" o
    ∷ row "STOP" "" "" "" "" "" ""
    ∷ [])

-- register 0, from 20 to 50, divided by register 1, from 3 to 7, with claims that the quotient lies from l to m and the remainder is at most n
abbrev split : String → String → String → List ℕ
split l m n =
    rows
    (row "LEAS" "0" "" "" "" "" "20"
    ∷ row "LEAS" "1" "" "" "" "" "3"
    ∷ row "MOST" "0" "" "" "" "" "50"
    ∷ row "MOST" "1" "" "" "" "" "7"
    ∷ row "DIVM" "2" "0" "3" "" "0" "1"
    ∷ row "LEAS" "2" "" "" "" "" l
    ∷ row "MOST" "2" "" "" "" "" m
    ∷ row "MOST" "3" "" "" "" "" n
    ∷ row "STOP" "" "" "" "" "" ""
    ∷ [])

-- register 0, at most 9, divided by register 1, which is 5, with the quotient in register q and a claim that the remainder is at most n
abbrev split_into : String → String → List ℕ
split_into q n =
    rows
    (row "LEAS" "1" "" "" "" "" "5"
    ∷ row "MOST" "0" "" "" "" "" "9"
    ∷ row "MOST" "1" "" "" "" "" "5"
    ∷ row "DIVM" q "0" "2" "" "0" "1"
    ∷ row "MOST" "2" "" "" "" "" n
    ∷ row "STOP" "" "" "" "" "" ""
    ∷ [])

-- register 0, at most 4, divided by 9, with a claim that the remainder is at most n
abbrev split_few : String → List ℕ
split_few n =
    rows
    (row "MOST" "0" "" "" "" "" "4"
    ∷ row "DIVM" "1" "0" "2" "" "1" "9"
    ∷ row "MOST" "2" "" "" "" "" n
    ∷ row "STOP" "" "" "" "" "" ""
    ∷ [])

-- registers 0 and 1 are written by a DIVM between two claims of one stripe, of scale 1 and with the given x, y and z
abbrev split_between : String → String → String → List ℕ
split_between x y z =
    rows
    (row "STRP" x "1" y z "" "1"
    ∷ row "DIVM" "0" "3" "1" "" "1" "2"
    ∷ row "STRP" x "1" y z "" "1"
    ∷ row "STOP" "" "" "" "" "" ""
    ∷ [])

-- a DIVM of these four fields, then a MOST and this claim after it
abbrev same_register : String → String → String → String → List ℕ → List ℕ
same_register q i r f4 last =
    rows
    (row "STOP" "" "" "" "" "" ""
    ∷ row "DIVM" q i r f4 "1" "2"
    ∷ row "MOST" "0" "" "" "" "" "4294967295"
    ∷ last
    ∷ row "STOP" "" "" "" "" "" ""
    ∷ [])

-- a claim that is out of order before a DIVM with one register for both results
abbrev same_register_last : List ℕ
same_register_last =
    rows
    (row "MOST" "0" "" "" "" "" "9"
    ∷ row "LEAS" "0" "" "" "" "" "0"
    ∷ row "DIVM" "4" "2" "4" "" "1" "2"
    ∷ row "STOP" "" "" "" "" "" ""
    ∷ [])

-- seeds dealt into packets of 12: a tray's seeds in two bytes, its packets in two bytes of the results and the leftover in one more
abbrev packets : List ℕ
packets =
    rows
    (row "STRP" "16" "2" "1" "" "" "0"
    ∷ row "STRP" "17" "3" "1" "" "" "0"
    ∷ row "SETC" "0" "" "" "" "" "0"
    ∷ row "STRP" "16" "2" "1" "" "" "0"
    ∷ row "STRP" "17" "3" "1" "" "" "0"
    ∷ row "BLTU" "" "0" "" "3" "0" "1"
    ∷ row "STOP" "" "" "" "" "" ""
    ∷ row "STRP" "16" "2" "1" "" "" "0"
    ∷ row "STRP" "17" "3" "1" "" "" "0"
    ∷ row "STRP" "16" "2" "0" "" "" "2"
    ∷ row "STRP" "17" "3" "0" "" "" "3"
    ∷ row "LOAD" "2" "2" "0" "2" "0" "0"
    ∷ row "MOST" "2" "" "" "" "" "65535"
    ∷ row "STRP" "16" "2" "1" "" "" "0"
    ∷ row "STRP" "17" "3" "1" "" "" "0"
    ∷ row "STRP" "17" "3" "0" "" "" "3"
    ∷ row "DIVM" "3" "2" "4" "" "1" "12"
    ∷ row "MOST" "3" "" "" "" "" "5461"
    ∷ row "MOST" "4" "" "" "" "" "11"
    ∷ row "STRP" "16" "2" "1" "" "" "0"
    ∷ row "STRP" "17" "3" "1" "" "" "0"
    ∷ row "STRP" "17" "3" "0" "" "" "3"
    ∷ row "STOR" "3" "2" "" "3" "0" "0"
    ∷ row "MOST" "4" "" "" "" "" "11"
    ∷ row "STRP" "16" "2" "1" "" "" "0"
    ∷ row "STRP" "17" "3" "1" "" "" "0"
    ∷ row "STRP" "17" "3" "0" "" "" "3"
    ∷ row "STOR" "4" "1" "" "3" "0" "2"
    ∷ row "STRP" "16" "2" "1" "" "" "0"
    ∷ row "STRP" "17" "3" "1" "" "" "0"
    ∷ row "ADDW" "0" "0" "" "" "1" "1"
    ∷ row "STRP" "16" "2" "1" "" "" "0"
    ∷ row "STRP" "17" "3" "1" "" "" "0"
    ∷ row "JUMP" "" "" "" "1" "" ""
    ∷ [])

-- register 0 dealt into packets of 12, with the greatest quotient and remainder claimed after it
abbrev dealt_within : List ℕ
dealt_within =
    rows
    (row "MOST" "0" "" "" "" "" "65535"
    ∷ row "DIVM" "1" "0" "2" "" "1" "12"
    ∷ row "MOST" "1" "" "" "" "" "5461"
    ∷ row "MOST" "2" "" "" "" "" "11"
    ∷ row "COPY" "3" "2" "" "" "" ""
    ∷ row "STOP" "" "" "" "" "" ""
    ∷ [])

-- register 1 counted down to 0, from at most h
abbrev counted : String → List ℕ
counted h =
    rows
    (row "TURN" "1" "" "" "" "" ""
    ∷ row "MOST" "1" "" "" "" "" h
    ∷ row "BEQU" "" "1" "" "3" "1" "0"
    ∷ row "LEAS" "1" "" "" "" "" "1"
    ∷ row "MOST" "1" "" "" "" "" h
    ∷ row "SUBW" "1" "1" "" "" "1" "1"
    ∷ row "MOST" "1" "" "" "" "" h
    ∷ row "JUMP" "" "" "" "0" "" ""
    ∷ row "STOP" "" "" "" "" "" ""
    ∷ [])

-- register 1 counted down, with a point between the SUBW and the JUMP
abbrev counted_late : List ℕ
counted_late =
    rows
    (row "TURN" "1" "" "" "" "" ""
    ∷ row "BEQU" "" "1" "" "4" "1" "0"
    ∷ row "LEAS" "1" "" "" "" "" "1"
    ∷ row "SUBW" "1" "1" "" "" "1" "1"
    ∷ row "SETC" "2" "" "" "" "" "0"
    ∷ row "JUMP" "" "" "" "0" "" ""
    ∷ row "STOP" "" "" "" "" "" ""
    ∷ [])

-- a point on a line, with its claims
abbrev on : ℕ → List Claim → Instruction → Point
on l cs i = record { line = l; claims = cs; instruction = i }

-- 1 at least in register 1
abbrev some : List Claim
some = Leas 1 1 ∷ []

-- a number taken from register 1, where it holds 1 at least
abbrev less : ℕ → Point
less c = on 4 some (Subw 1 1 (number c))

-- a loop with register 1 for its TURN register: point 0 goes to point t where it is 0, these points follow, then a JUMP back on line 8, and STOP
abbrev loop : ℕ → List Point → List Point
loop t body = on 2 (Turn 1 ∷ []) (Bequ 1 t (number 0)) ∷ (body ++ (on 8 [] (Jump 0) ∷ on 9 [] Stop ∷ []))

-- 1 taken from register 1, and this instruction on line 4
abbrev less_then : Instruction → List Point
less_then i = on 3 (Turn 1 ∷ some) (Subw 1 1 (number 1)) ∷ on 4 [] i ∷ on 5 [] Stop ∷ []

-- a TURN with these registers in F1 and F2
abbrev turn : String → String → List ℕ
turn f1 f2 = row "TURN" f1 f2 "" "" "" ""

-- behind a STOP, a point where variable v lies from l to m, with this instruction, and after it a point that claims at least 9 of register 2
abbrev unreached : String → String → String → List ℕ → List ℕ
unreached v l m i =
    rows
    (row "STOP" "" "" "" "" "" ""
    ∷ row "LEAS" v "" "" "" "" l
    ∷ row "MOST" v "" "" "" "" m
    ∷ i
    ∷ row "LEAS" "2" "" "" "" "" "9"
    ∷ row "STOP" "" "" "" "" "" ""
    ∷ [])

-- an instruction of such a point: a divisor that may be 0
abbrev divisor : List ℕ
divisor = row "DIVM" "2" "0" "3" "" "0" "4"

-- a load that may leave the trays
abbrev access : List ℕ
access = row "LOAD" "2" "4" "0" "1" "0" "0"

-- a store that may leave the results
abbrev store : List ℕ
store = row "STOR" "2" "1" "" "1" "0" "0"

-- a COPY into register 2 that does not show the claim
abbrev copy : List ℕ
copy = row "COPY" "2" "0" "" "" "" ""

-- register 1 from 3 to 2
abbrev nothing_left : List Claim
nothing_left = Leas 1 3 ∷ Most 1 2 ∷ []

-- a branch to an empty point, taken where register 0, which is at least 1, is below n; register 1 is at least l before it and from 3 to 2 there
abbrev leading : String → String → List ℕ
leading l n =
    rows
    (row "LEAS" "0" "" "" "" "" "1"
    ∷ row "LEAS" "1" "" "" "" "" l
    ∷ row "BLTU" "" "0" "" "2" "1" n
    ∷ row "STOP" "" "" "" "" "" ""
    ∷ row "LEAS" "1" "" "" "" "" "3"
    ∷ row "MOST" "1" "" "" "" "" "2"
    ∷ row "JUMP" "" "" "" "0" "" ""
    ∷ [])

-- a stripe of this scale and bound at a STOP
abbrev striped : String → String → List ℕ
striped a b = rows (row "STRP" "17" a "0" "" "" b ∷ row "STOP" "" "" "" "" "" "" ∷ [])

-- one byte of the last of 16 records of a bytes each, loaded from the trays
abbrev loaded : String → List ℕ
loaded a =
    rows
    (row "LEAS" "16" "" "" "" "" "65536"
    ∷ row "MOST" "0" "" "" "" "" "15"
    ∷ row "LOAD" "1" "1" "0" a "0" "0"
    ∷ row "STOP" "" "" "" "" "" ""
    ∷ [])

-- the same stored in the results
abbrev stored_at : String → List ℕ
stored_at a =
    rows
    (row "LEAS" "17" "" "" "" "" "65536"
    ∷ row "MOST" "0" "" "" "" "" "15"
    ∷ row "STOR" "1" "1" "" a "0" "0"
    ∷ row "STOP" "" "" "" "" "" ""
    ∷ [])

-- register 0, from 100 to 1,000, moved by an instruction on line 9 where stripes are claimed, with a claim of a stripe on line 10 after it
abbrev moved : List Claim → Instruction → Stripe → List Point
moved cs i t = on 9 (Leas 0 100 ∷ Most 0 1000 ∷ cs) i ∷ on 11 (Strp t ∷ []) Stop ∷ []

-- the same with one stripe before it
abbrev moved_between : Stripe → Instruction → Stripe → List Point
moved_between s i t = moved (Strp s ∷ []) i t

-- register 1, at most 1,000, multiplied into register 0 by c, with a claim of the stripe of that scale after it
abbrev multiplied : ℕ → List Point
multiplied c = on 2 (Most 1 1000 ∷ []) (Mulw 0 1 (number c)) ∷ on 4 (Strp (stripe 0 c 1 blank_variable 0 0) ∷ []) Stop ∷ []

-- records of 300 bytes: the last two bytes of each, one after the other in the results
abbrev records : List ℕ
records =
    rows
    (row "STRP" "16" "300" "1" "" "" "0"
    ∷ row "STRP" "17" "2" "1" "" "" "0"
    ∷ row "SETC" "0" "" "" "" "" "0"
    ∷ row "STRP" "16" "300" "1" "" "" "0"
    ∷ row "STRP" "17" "2" "1" "" "" "0"
    ∷ row "BLTU" "" "0" "" "3" "0" "1"
    ∷ row "STOP" "" "" "" "" "" ""
    ∷ row "STRP" "16" "300" "1" "" "" "0"
    ∷ row "STRP" "17" "2" "1" "" "" "0"
    ∷ row "STRP" "16" "300" "0" "" "" "300"
    ∷ row "STRP" "17" "2" "0" "" "" "2"
    ∷ row "LOAD" "2" "2" "0" "300" "0" "298"
    ∷ row "STRP" "16" "300" "1" "" "" "0"
    ∷ row "STRP" "17" "2" "1" "" "" "0"
    ∷ row "STRP" "17" "2" "0" "" "" "2"
    ∷ row "STOR" "2" "2" "" "2" "0" "0"
    ∷ row "STRP" "16" "300" "1" "" "" "0"
    ∷ row "STRP" "17" "2" "1" "" "" "0"
    ∷ row "ADDW" "0" "0" "" "" "1" "1"
    ∷ row "STRP" "16" "300" "1" "" "" "0"
    ∷ row "STRP" "17" "2" "1" "" "" "0"
    ∷ row "JUMP" "" "" "" "1" "" ""
    ∷ [])

-- two records, which end in 7 and 1 and in 9 and 0
abbrev two_records : List ℕ
two_records = replicate 298 0 ++ (7 ∷ 1 ∷ []) ++ replicate 298 0 ++ (9 ∷ 0 ∷ [])

-- a state at a point whose first registers hold these numbers and the others 0
abbrev holding : ℕ → List ℕ → State
holding p l = record { point = p; registers = l ++ replicate (16 - length l) 0 }

-- the same with three numbers
abbrev standing : ℕ → ℕ → ℕ → ℕ → State
standing p a b c = holding p (a ∷ b ∷ c ∷ [])

-- an answer in numbers: the points of a listing that passes, a bound, the end of a run, no refusal, or a refusal's number, place and second place
pub data Answer : Type 0 where
  passes : ℕ → Answer
  bounds : ℕ → Answer
  stops : Answer
  pauses : Answer
  accepts : Answer
  refused_by : ℕ → ℕ → ℕ → Answer

-- a refusal in numbers
abbrev of_refusal : Refusal → Answer
of_refusal r = refused_by (number_of r) (place_of r) (second_place_of r)

-- the checker's answer in numbers
abbrev of_verdict : Verdict → Answer
of_verdict (Ok n) = passes n
of_verdict (Err r) = of_refusal r

-- a bound in numbers
abbrev of_bound : StepBound → Answer
of_bound (Ok n) = bounds n
of_bound (Err r) = of_refusal r

-- a run's report in numbers
abbrev of_report : Report → Answer
of_report Stopped = stops
of_report Paused = pauses
of_report (refused_run r) = of_refusal r

-- the outcome of some tests in numbers
abbrev of_judgement : Judgement → Answer
of_judgement (Ok u) = accepts
of_judgement (Err r) = of_refusal r

-- what a call hands back: an answer alone, a line, an answer with a listing or a part of it, or a run's answer, steps, state, trays and results
pub data HandedBack : Type 0 where
  answer : Answer → HandedBack
  line : List ℕ → HandedBack
  part : Answer → List ℕ → HandedBack
  after_run : Answer → ℕ → State → List ℕ → List ℕ → HandedBack

-- what a run hands back, in numbers
abbrev of_run : Ran → HandedBack
of_run r = after_run (of_report r.outcome.report) r.outcome.steps r.outcome.state r.tables.trays r.tables.results

-- a worked case: what the definitions give, and what is stated
pub record Case : Type 0 where
  given : HandedBack
  stated : HandedBack

-- the checker's answer
abbrev checked : List ℕ → Answer → Case
checked l a = record { given = answer (of_verdict (check l)); stated = answer a }

-- the same within the earlier limits
abbrev checked_earlier : List ℕ → Answer → Case
checked_earlier l a = record { given = answer (of_verdict (check_within earlier l)); stated = answer a }

-- the answer of the call for a bound
abbrev needs : List ℕ → Answer → Case
needs l a = record { given = answer (of_bound (step_bound l)); stated = answer a }

-- 20 and the bound of points that are read
abbrev points_need : List Point → Answer → Case
points_need ps a = record { given = answer (of_bound (bound_from ps (edges_covered ps (length ps)))); stated = answer a }

-- 14 along the edge of an instruction on line 4 where register 1, from 1 on, is at most m, to a point with a claim that its quotient does not meet
abbrev divisor_owes : ℕ → Instruction → Answer → Case
divisor_owes m i a =
    record { given = answer (of_judgement (claims_judged 4 (facts_along today Next i (facts_of (some ++ (Most 1 m ∷ [])))) (on 6 (Leas 1 9 ∷ []) Stop))); stated = answer a }

-- 12 to 14 over points that are read, within some limits
abbrev points_owe_within : StripeLimits → List Point → Answer → Case
points_owe_within L ps a = record { given = answer (of_judgement (points_judged L ps (length ps))); stated = answer a }

-- the same within today's
abbrev points_owe : List Point → Answer → Case
points_owe ps a = points_owe_within today ps a

-- the tests 7 to 11 over so many lines that were read as these points
abbrev whole_tested : ℕ → List Point → Answer → Case
whole_tested lines ps a = record { given = answer (of_judgement (whole_judged lines ps [])); stated = answer a }

-- the printed line
abbrev prints : List ℕ → String → Case
prints l t = record { given = line (printed (check l)); stated = line (bytes t) }

-- a run from a state over trays and results with a budget
abbrev runs : List ℕ → State → List ℕ → List ℕ → ℕ → HandedBack → Case
runs l s ts rs n h = record { given = of_run (run l s (lent ts rs) n); stated = h }

-- a run in which register 0, which is x, is divided by a number: register 1 becomes q
abbrev divides : ℕ → String → ℕ → Case
divides x n q = runs (divided n) (standing 0 x 0 0) [] [] 1 (after_run stops 1 (standing 1 x q 0) [] [])

-- a run in which register 0, which is x, is divided by a number: register 1 becomes q and register 2 becomes r
abbrev deals : ℕ → String → ℕ → ℕ → Case
deals x n q r = runs (dealt n) (standing 0 x 0 0) [] [] 1 (after_run stops 1 (standing 1 x q r) [] [])

-- a run of a DIVM of these fields from 17, 5 and 0 in the first registers, and what they hold then
abbrev overwrites : String → String → String → String → ℕ → ℕ → ℕ → Case
overwrites q i r o a b c = runs (overwriting q i r o) (standing 0 17 5 0) [] [] 1 (after_run stops 1 (standing 1 a b c) [] [])

-- a claim that may stand after MOST
abbrev in_place : List ℕ
in_place = row "MOST" "1" "" "" "" "" "4294967295"

-- one that does not
abbrev out_of_place : List ℕ
out_of_place = row "LEAS" "1" "" "" "" "" "0"

-- two trays of 30 and 1,000 seeds
abbrev two_trays : List ℕ
two_trays = 30 ∷ 0 ∷ 232 ∷ 3 ∷ []

-- the claim lines of a point
abbrev claims_at : List ℕ → ℕ → Answer → List ℕ → Case
claims_at l p a ls = record { given = part (of_judgement (claim_lines_judged (listing_of l) p)) (claim_lines l p); stated = part a ls }

-- six fields
abbrev six : Field → Field → Field → Field → Field → Field → List Field
six f1 f2 f3 f4 f5 f6 = f1 ∷ f2 ∷ f3 ∷ f4 ∷ f5 ∷ f6 ∷ []

-- a line that is set in a listing from a word, six fields and its number: the answer and the listing after it
abbrev sets : String → List Field → ℕ → List ℕ → Answer → List ℕ → Case
sets w fs n l a after = record { given = part (of_judgement (line_judged (bytes w) fs n l)) (listing_set (bytes w) fs n l); stated = part a after }

-- the same where the call is turned back and changes no byte of n zeros
abbrev sets_nothing : String → List Field → ℕ → ℕ → Answer → Case
sets_nothing w fs n size a = sets w fs n (replicate size 0) a (replicate size 0)

-- the room for line n in a listing of so many bytes
abbrev has_room : ℕ → ℕ → Answer → Case
has_room n size a = record { given = answer (of_judgement (room_for n size)); stated = answer a }

-- all cases
abbrev pub table : List Case
table =
    checked c1 (refused_by 1 0 0)
    ∷ checked c2 (passes 1)
    ∷ checked c3 (passes 1)
    ∷ runs c3 (standing 0 0 0 0) [] [] 5 (after_run pauses 5 (standing 0 0 0 0) [] [])
    ∷ checked c4 (refused_by 12 4 0)
    ∷ prints c4 "FAIL  12                              4\n"
    ∷ checked c5 (passes 4)
    ∷ prints c5 "PASS                                  4\n"
    ∷ checked (c6 "4") (passes 6)
    ∷ checked (c6 "5") (refused_by 14 4 7)
    ∷ checked (c6 "3") (refused_by 13 8 0)
    ∷ runs (c6 "4") (standing 0 0 2 7) [] (replicate 8 255) 10 (after_run stops 10 (standing 2 2 2 7) [] (7 ∷ 0 ∷ 0 ∷ 0 ∷ 7 ∷ 0 ∷ 0 ∷ 0 ∷ []))
    ∷ runs (c6 "4") (standing 0 0 3 7) [] (replicate 8 255) 10 (after_run (refused_by 17 0 0) 0 (standing 0 0 3 7) [] (replicate 8 255))
    ∷ checked (c8 "1") (refused_by 14 3 4)
    ∷ checked (c8 "0") (passes 3)
    ∷ checked c9 (refused_by 13 4 0)
    ∷ checked c10 (passes 3)
    -- beyond C1 to C10: the other numbers
    ∷ checked unprintable (refused_by 2 3 0)
    ∷ checked unknown_word (refused_by 3 2 0)
    ∷ checked misshapen (refused_by 4 2 0)
    ∷ checked outside_limits (refused_by 5 3 0)
    ∷ checked out_of_order (refused_by 6 3 0)
    ∷ checked claim_last (refused_by 7 4 0)
    ∷ whole_tested 514 (copies 2 513) (refused_by 8 514 0)
    ∷ whole_tested 513 (copies 2 512) (refused_by 10 513 0)
    ∷ checked no_such_target (refused_by 9 4 0)
    ∷ checked no_end (refused_by 10 4 0)
    ∷ checked empty_start (refused_by 11 3 0)
    ∷ checked two_faults (refused_by 12 4 0)
    ∷ runs c2 (standing 1 0 0 0) long_table [] 5 (after_run (refused_by 15 0 0) 0 (standing 1 0 0 0) long_table [])
    ∷ runs c2 (standing 1 0 0 0) [] long_table 5 (after_run (refused_by 15 0 0) 0 (standing 1 0 0 0) [] long_table)
    ∷ runs c2 (standing 1 0 0 0) [] [] 5 (after_run (refused_by 16 0 0) 0 (standing 1 0 0 0) [] [])
    -- a printed second place, a run of a listing that is turned back, and a run without budget
    ∷ prints (c6 "5") "FAIL  14               7              4\n"
    ∷ runs c4 (standing 4 1 2 3) (9 ∷ []) (8 ∷ []) 5 (after_run (refused_by 12 4 0) 0 (standing 4 1 2 3) (9 ∷ []) (8 ∷ []))
    ∷ runs c2 (standing 0 1 2 3) [] [] 0 (after_run stops 0 (standing 0 1 2 3) [] [])
    -- claim lines: given, also where 12 is due, none, and turned back
    ∷ claims_at c4 0 accepts (row "LEAS" "16" "" "" "" "" "4" ++ row "MOST" "1" "" "" "" "" "0")
    ∷ claims_at c5 2 accepts (row "LEAS" "2" "" "" "" "" "1")
    ∷ claims_at c5 3 accepts []
    ∷ claims_at c5 4 (refused_by 16 0 0) []
    ∷ claims_at c1 0 (refused_by 1 0 0) []
    -- the slips: stripes of a written register, an increment that may wrap, links, and the way back of a loop
    ∷ checked (written "16" "1" "2") (passes 2)
    ∷ checked (written "0" "1" "") (refused_by 14 2 3)
    ∷ checked (written "16" "0" "") (refused_by 14 2 3)
    ∷ checked (written "16" "1" "0") (refused_by 14 2 3)
    ∷ checked (incremented "4294967294" "1") (passes 2)
    ∷ checked (incremented "4294967294" "2") (refused_by 14 3 4)
    ∷ checked (incremented "4294967295" "1") (refused_by 14 3 4)
    ∷ checked (linked "1" "") (passes 2)
    ∷ checked (linked "2" "") (refused_by 13 3 0)
    ∷ checked (linked "1" "3") (refused_by 13 3 0)
    ∷ checked (chained "3") (passes 2)
    ∷ checked (chained "4") (refused_by 13 6 0)
    ∷ checked (looping "4") (passes 4)
    ∷ checked (looping "5") (refused_by 14 5 2)
    -- T-01, lines that are set: between others, with a minus, at the end of a listing that has bytes more
    ∷ sets "LEAS" (six (Number 16) Blank Blank Blank Blank (Number 4)) 2 (replicate 120 0) accepts (replicate 40 0 ++ row "LEAS" "16" "" "" "" "" "4" ++ replicate 40 0)
    ∷ sets "STRP" (six (Number 17) (Number 4095) (Number 0) Blank Blank (Negative 70368744177664)) 1 (replicate 40 0) accepts (row "STRP" "17" "4095" "0" "" "" "-70368744177664")
    ∷ sets "STOP" (six Blank Blank Blank Blank Blank Blank) 2 (replicate 81 0) accepts (replicate 40 0 ++ row "STOP" "" "" "" "" "" "" ++ (0 ∷ []))
    -- no word, also of three and of five bytes; the place is the line as it was given
    ∷ sets_nothing "HALT" (six (Negative 0) Blank Blank Blank Blank Blank) 7 40 (refused_by 3 7 0)
    ∷ sets_nothing "STO" (six Blank Blank Blank Blank Blank Blank) 1 40 (refused_by 3 1 0)
    ∷ sets_nothing "STOPS" (six Blank Blank Blank Blank Blank Blank) 1 40 (refused_by 3 1 0)
    -- 4: a field that is due is blank while another is outside its limits, a wide number where a blank is due, a minus where none may stand, a minus on 0
    ∷ sets_nothing "COPY" (six (Number 16) Blank Blank Blank Blank Blank) 0 40 (refused_by 4 0 0)
    ∷ sets_nothing "STOP" (six (Number 100000) Blank Blank Blank Blank Blank) 1 40 (refused_by 4 1 0)
    ∷ sets_nothing "SETC" (six (Number 0) Blank Blank Blank Blank (Negative 100000000000000000)) 1 40 (refused_by 4 1 0)
    ∷ sets_nothing "STRP" (six (Number 17) (Number 4) (Number 1) Blank Blank (Negative 0)) 1 40 (refused_by 4 1 0)
    -- 5: a number that is too wide for its columns, with a minus or without, and one outside its limits, before 18
    ∷ sets_nothing "COPY" (six (Number 10000) (Number 0) Blank Blank Blank Blank) 1639 40 (refused_by 5 1639 0)
    ∷ sets_nothing "STRP" (six (Number 17) (Number 4) (Number 1) Blank Blank (Negative 1000000000000000)) 1 40 (refused_by 5 1 0)
    ∷ sets_nothing "SETC" (six (Number 0) Blank Blank Blank Blank (Number 4294967296)) 2 40 (refused_by 5 2 0)
    -- 18: line 0, a listing that ends a byte before the line does, and lines that no listing has
    ∷ sets_nothing "STOP" (six Blank Blank Blank Blank Blank Blank) 0 40 (refused_by 18 0 0)
    ∷ sets_nothing "STOP" (six Blank Blank Blank Blank Blank Blank) 2 79 (refused_by 18 0 0)
    ∷ has_room 1638 65520 accepts
    ∷ has_room 1639 65560 (refused_by 18 0 0)
    -- T-02, quotients: a half of an even divisor goes up, and what is below it down
    ∷ divides 7 "2" 4
    ∷ divides 6 "2" 3
    ∷ divides 5 "10" 1
    ∷ divides 4 "10" 0
    -- no half of an odd divisor: from one number to the next the quotient rises
    ∷ divides 3 "7" 0
    ∷ divides 4 "7" 1
    -- nothing divided, and the greatest numbers
    ∷ divides 0 "1" 0
    ∷ divides 4294967295 "1" 4294967295
    ∷ divides 4294967295 "2" 2147483648
    ∷ divides 2147483647 "4294967295" 0
    ∷ divides 2147483648 "4294967295" 1
    -- a claim that holds of quotients rounded down and not of the nearest, and the same redone
    ∷ checked (halved "3") (refused_by 14 2 3)
    ∷ checked (halved "4") (passes 2)
    -- both ends of the range, a claim above the low end, one below the high end; along the edge of a divisor that can only be 0 anything follows
    ∷ checked (shared "2" "4") (passes 2)
    ∷ checked (shared "3" "4") (refused_by 14 5 6)
    ∷ checked (shared "2" "3") (refused_by 14 5 7)
    ∷ divisor_owes 0 (Divf 1 1 (variable 1)) accepts
    ∷ divisor_owes 1 (Divf 1 1 (variable 1)) (refused_by 14 4 5)
    -- T-03, quotient and remainder: rounded down, nothing divided, and the greatest numbers
    ∷ deals 7 "2" 3 1
    ∷ deals 6 "2" 3 0
    ∷ deals 5 "10" 0 5
    ∷ deals 0 "1" 0 0
    ∷ deals 4294967295 "1" 4294967295 0
    ∷ deals 4294967295 "2" 2147483647 1
    ∷ deals 4294967295 "4294967295" 1 0
    ∷ deals 4294967294 "4294967295" 0 4294967294
    -- both are of the values before the step, also where a register of theirs is what is divided or the divisor
    ∷ overwrites "0" "0" "1" "1" 3 2 0
    ∷ overwrites "1" "0" "0" "1" 2 3 0
    ∷ overwrites "0" "0" "2" "1" 3 5 2
    ∷ overwrites "1" "0" "2" "1" 17 3 2
    ∷ overwrites "2" "0" "0" "1" 2 5 3
    ∷ overwrites "2" "0" "1" "1" 17 2 3
    ∷ overwrites "0" "0" "2" "0" 1 5 0
    ∷ overwrites "2" "1" "1" "1" 17 0 1
    -- the ends of both ranges, and claims that ask one more
    ∷ checked (split "2" "16" "6") (passes 2)
    ∷ checked (split "3" "16" "6") (refused_by 14 5 6)
    ∷ checked (split "2" "15" "6") (refused_by 14 5 7)
    ∷ checked (split "2" "16" "5") (refused_by 14 5 8)
    ∷ checked (split_few "4") (passes 2)
    ∷ checked (split_few "3") (refused_by 14 2 3)
    -- the remainder's end is of the ends before the step, where the quotient takes what is divided, the divisor, or neither
    ∷ checked (split_into "0" "4") (passes 2)
    ∷ checked (split_into "0" "3") (refused_by 14 4 5)
    ∷ checked (split_into "1" "4") (passes 2)
    ∷ checked (split_into "1" "3") (refused_by 14 4 5)
    ∷ checked (split_into "3" "4") (passes 2)
    ∷ checked (split_into "3" "3") (refused_by 14 4 5)
    -- along the edge of a divisor that can only be 0 anything follows
    ∷ divisor_owes 0 (Divm 1 2 0 (variable 1)) accepts
    ∷ divisor_owes 1 (Divm 1 2 0 (variable 1)) (refused_by 14 4 5)
    -- a stripe of neither register stays; one of either goes
    ∷ checked (split_between "16" "2" "3") (passes 2)
    ∷ checked (split_between "0" "2" "") (refused_by 14 2 3)
    ∷ checked (split_between "1" "2" "") (refused_by 14 2 3)
    ∷ checked (split_between "16" "0" "") (refused_by 14 2 3)
    ∷ checked (split_between "16" "1" "") (refused_by 14 2 3)
    ∷ checked (split_between "16" "2" "0") (refused_by 14 2 3)
    ∷ checked (split_between "16" "2" "1") (refused_by 14 2 3)
    -- 12: a divisor that may be 0, also as a number
    ∷ checked (overwriting "1" "0" "2" "3") (passes 2)
    ∷ checked (dealt "1") (passes 2)
    ∷ checked (dealt "0") (refused_by 12 1 0)
    ∷ checked (rows (row "DIVM" "1" "0" "2" "" "0" "3" ∷ row "STOP" "" "" "" "" "" "" ∷ [])) (refused_by 12 1 0)
    -- 19: alone; after 4 and 5 of its line; before 6 of a later line, and after that of an earlier one
    ∷ checked (same_register "4" "2" "5" "" in_place) (passes 3)
    ∷ checked (same_register "4" "2" "4" "" in_place) (refused_by 19 2 0)
    ∷ checked (same_register "4" "2" "4" "7" in_place) (refused_by 4 2 0)
    ∷ checked (same_register "4" "18" "4" "" in_place) (refused_by 5 2 0)
    ∷ checked (same_register "16" "2" "16" "" in_place) (refused_by 5 2 0)
    ∷ checked (same_register "4" "2" "5" "" out_of_place) (refused_by 6 4 0)
    ∷ checked (same_register "4" "2" "4" "" out_of_place) (refused_by 19 2 0)
    ∷ checked same_register_last (refused_by 6 2 0)
    -- 19 by the other calls: claim lines, a run, and a line that is set, after 5 and before 18
    ∷ claims_at (same_register "4" "2" "4" "" in_place) 9 (refused_by 19 2 0) []
    ∷ runs (dealt "0" ++ same_register "4" "2" "4" "" in_place) (standing 9 1 2 3) long_table [] 5 (after_run (refused_by 19 4 0) 0 (standing 9 1 2 3) long_table [])
    ∷ sets "DIVM" (six (Number 4) (Number 17) (Number 5) Blank (Number 0) (Number 4)) 1 (replicate 40 0) accepts (row "DIVM" "4" "17" "5" "" "0" "4")
    ∷ sets_nothing "DIVM" (six (Number 4) (Number 17) (Number 4) Blank (Number 0) (Number 4)) 3 40 (refused_by 19 3 0)
    ∷ sets_nothing "DIVM" (six (Number 4) (Number 18) (Number 4) Blank (Number 0) (Number 4)) 3 40 (refused_by 5 3 0)
    ∷ sets_nothing "DIVM" (six (Number 4) (Number 18) (Number 4) (Number 0) (Number 0) (Number 4)) 3 40 (refused_by 4 3 0)
    ∷ sets_nothing "DIVM" (six (Number 4) (Number 17) (Number 5) Blank (Number 0) (Number 4)) 3 40 (refused_by 18 0 0)
    -- seeds dealt into packets: 30 are 2 packets and 6 seeds, 1,000 are 83 packets and 4 seeds
    ∷ checked packets (passes 9)
    ∷ runs packets (standing 0 0 2 0) two_trays (replicate 6 255) 16 (after_run stops 16 (holding 2 (2 ∷ 2 ∷ 1000 ∷ 83 ∷ 4 ∷ [])) two_trays (2 ∷ 0 ∷ 6 ∷ 83 ∷ 0 ∷ 4 ∷ []))
    -- a run that is halted after a DIVM stands within the claims there, and goes on from it; a remainder of 12 would not
    ∷ runs dealt_within (standing 0 1000 0 0) [] [] 1 (after_run pauses 1 (standing 1 1000 83 4) [] [])
    ∷ runs dealt_within (standing 1 1000 83 4) [] [] 1 (after_run stops 1 (holding 2 (1000 ∷ 83 ∷ 4 ∷ 4 ∷ [])) [] [])
    ∷ runs dealt_within (standing 1 1000 83 12) [] [] 1 (after_run (refused_by 17 0 0) 0 (standing 1 1000 83 12) [] [])
    -- T-05, bounds: the points where nothing goes back, points × (hi + 1) for a register that counts down, and more than MAX
    ∷ needs c5 (bounds 4)
    ∷ needs (counted "5") (bounds 24)
    ∷ needs counted_late (refused_by 20 6 0)
    ∷ points_need (loop 3 (less 1 ∷ [])) (bounds 17179869184)
    ∷ points_need (on 3 (Turn 1 ∷ Most 1 0 ∷ []) (Bequ 1 3 (number 0)) ∷ less 1 ∷ on 5 [] (Jump 0) ∷ on 6 [] Stop ∷ []) (bounds 4)
    -- a run with the bound for its budget stops
    ∷ runs (counted "5") (standing 0 0 1 0) [] [] 24 (after_run stops 4 (standing 3 0 0 0) [] [])
    -- 20: a second write, also of the register's own value, or by the second result of DIVM; one of other registers is none
    ∷ points_need (loop 4 (on 3 some (Copy 1 1) ∷ less 1 ∷ [])) (refused_by 20 8 0)
    ∷ points_need (loop 4 (on 3 [] (Divm 2 0 1 (number 7)) ∷ less 1 ∷ [])) (refused_by 20 8 0)
    ∷ points_need (loop 4 (on 3 [] (Divm 2 0 3 (number 7)) ∷ less 1 ∷ [])) (bounds 21474836480)
    -- lo below c, a c of 0, a variable for c, another register read, and another written
    ∷ points_need (loop 3 (less 2 ∷ [])) (refused_by 20 8 0)
    ∷ points_need (loop 3 (less 0 ∷ [])) (refused_by 20 8 0)
    ∷ points_need (loop 3 (on 4 some (Subw 1 1 (variable 1)) ∷ [])) (refused_by 20 8 0)
    ∷ points_need (loop 3 (on 4 some (Subw 1 2 (number 1)) ∷ [])) (refused_by 20 8 0)
    ∷ points_need (loop 3 (on 4 some (Subw 2 1 (number 1)) ∷ [])) (refused_by 20 8 0)
    -- the JUMP is a target, of a branch or its own; a branch goes back, and one does not; no point before the JUMP; no TURN; of two edges the first
    ∷ points_need (loop 2 (less 1 ∷ [])) (refused_by 20 8 0)
    ∷ points_need (less_then (Jump 1)) (refused_by 20 4 0)
    ∷ points_need (less_then (Bltu 0 0 (variable 1))) (refused_by 20 4 0)
    ∷ points_need (less_then (Bltu 0 2 (variable 1))) (bounds 3)
    ∷ points_need (on 2 (Turn 1 ∷ []) (Jump 0) ∷ []) (refused_by 20 2 0)
    ∷ needs c3 (refused_by 20 1 0)
    ∷ points_need (on 1 [] (Jump 0) ∷ on 2 [] (Jump 0) ∷ []) (refused_by 20 1 0)
    -- 20 after the checker's refusals
    ∷ needs (rows (row "JUMP" "" "" "" "1" "" "" ∷ row "LEAS" "0" "" "" "" "" "1" ∷ row "JUMP" "" "" "" "0" "" "" ∷ [])) (refused_by 14 1 2)
    -- TURN stands with the claims of point 0: alone it is 7; after the first line it is 6, and 4 and 5 before that
    ∷ claims_at (rows (turn "1" "" ∷ in_place ∷ row "STOP" "" "" "" "" "" "" ∷ [])) 0 accepts (turn "1" "" ++ in_place)
    ∷ checked (turn "15" "") (refused_by 7 1 0)
    ∷ checked (turn "1" "2") (refused_by 4 1 0)
    ∷ checked (rows (row "STOP" "" "" "" "" "" "" ∷ turn "16" "" ∷ [])) (refused_by 5 2 0)
    ∷ checked (rows (row "STOP" "" "" "" "" "" "" ∷ turn "15" "" ∷ [])) (refused_by 6 2 0)
    ∷ checked (rows (turn "1" "" ∷ turn "1" "" ∷ [])) (refused_by 6 2 0)
    ∷ sets "TURN" (six (Number 15) Blank Blank Blank Blank Blank) 1 (replicate 40 0) accepts (turn "15" "")
    -- T-06, empty points: a divisor, accesses to both tables and a lost claim of the next point are not owed; with one value left they are
    ∷ checked (unreached "1" "3" "2" divisor) (passes 3)
    ∷ checked (unreached "1" "2" "2" divisor) (refused_by 12 4 0)
    ∷ checked (unreached "16" "3" "2" access) (passes 3)
    ∷ checked (unreached "16" "2" "2" access) (refused_by 13 4 0)
    ∷ checked (unreached "17" "1" "0" store) (passes 3)
    ∷ checked (unreached "17" "0" "0" store) (refused_by 13 4 0)
    ∷ checked (unreached "15" "4294967295" "4294967294" copy) (passes 3)
    ∷ checked (unreached "15" "4294967295" "4294967295" copy) (refused_by 14 4 5)
    -- a stripe that no values meet empties no point, and LEAS alone leaves its end
    ∷ points_owe (on 1 [] Stop ∷ on 3 (Strp (apart 1 1 1 0) ∷ []) (Divf 2 0 (variable 4)) ∷ on 4 [] Stop ∷ []) (refused_by 12 3 0)
    ∷ points_owe (on 1 [] Stop ∷ on 3 (Leas 17 65536 ∷ []) (Divf 2 0 (variable 4)) ∷ on 4 [] Stop ∷ []) (refused_by 12 3 0)
    -- what leads to an empty point owes its claims in the order of their lines, unless its edge is impossible or it is empty itself
    ∷ checked (leading "0" "2") (refused_by 14 3 5)
    ∷ checked (leading "3" "2") (refused_by 14 3 6)
    ∷ checked (leading "0" "1") (passes 3)
    ∷ points_owe (on 1 [] (Copy 2 0) ∷ on 4 nothing_left Stop ∷ []) (refused_by 14 1 2)
    ∷ points_owe (on 1 [] Stop ∷ on 4 nothing_left (Copy 2 0) ∷ on 7 nothing_left (Jump 2) ∷ []) accepts
    -- its targets and its edges back are told by the text
    ∷ whole_tested 4 (on 1 [] Stop ∷ on 4 nothing_left (Jump 2) ∷ []) (refused_by 9 4 0)
    ∷ points_need (on 1 [] Stop ∷ on 4 nothing_left (Jump 1) ∷ []) (refused_by 20 4 0)
    -- C10 printed, run past its empty point, and from a state that is put there
    ∷ prints c10 "PASS                                  3\n"
    ∷ runs c10 (standing 0 1 2 3) [] [] 5 (after_run stops 1 (standing 2 1 2 3) [] [])
    ∷ runs c10 (standing 1 1 2 3) [] [] 5 (after_run (refused_by 17 0 0) 0 (standing 1 1 2 3) [] [])
    -- T-07, limits: scales and bounds at their ends and one past them, within today's limits and the earlier ones
    ∷ checked (striped "4095" "70368744177664") (passes 1)
    ∷ checked (striped "1" "-70368744177664") (passes 1)
    ∷ checked (striped "4096" "0") (refused_by 5 1 0)
    ∷ checked (striped "1" "70368744177665") (refused_by 5 1 0)
    ∷ checked (striped "1" "-70368744177665") (refused_by 5 1 0)
    ∷ checked_earlier (striped "255" "4398046511104") (passes 1)
    ∷ checked_earlier (striped "256" "0") (refused_by 5 1 0)
    ∷ checked_earlier (striped "1" "-4398046511105") (refused_by 5 1 0)
    ∷ checked (loaded "4095") (passes 2)
    ∷ checked (loaded "4096") (refused_by 5 3 0)
    ∷ checked (stored_at "4095") (passes 2)
    ∷ checked (stored_at "4096") (refused_by 5 3 0)
    ∷ sets_nothing "STOR" (six (Number 0) (Number 4) Blank (Number 4096) (Number 1) (Number 0)) 1 40 (refused_by 5 1 0)
    -- a shift that the earlier limits drop: a claim follows from it today
    ∷ points_owe (moved_between (apart 0 1 4398046511104 0) (Addw 0 0 (number 1)) (apart 0 1 4398046511105 0)) accepts
    ∷ points_owe_within earlier (moved_between (apart 0 1 4398046511104 0) (Addw 0 0 (number 1)) (apart 0 1 4398046511105 0)) (refused_by 14 9 10)
    ∷ points_owe_within earlier (moved_between (apart 0 1 4398046511103 0) (Addw 0 0 (number 1)) (apart 0 1 4398046511104 0)) accepts
    -- a shift to the upper end of the bounds is kept, and one past it is dropped: by x, and by y and z
    ∷ points_owe (moved_between (apart 0 1 70368744177663 0) (Addw 0 0 (number 1)) (apart 0 1 70368744177664 0)) accepts
    ∷ points_owe (moved_between (apart 0 1 70368744177664 0) (Addw 0 0 (number 1)) (apart 0 1 70368744177664 0)) (refused_by 14 9 10)
    ∷ points_owe (moved_between (stripe 1 4095 0 0 70368744169474 0) (Subw 0 0 (number 1)) (stripe 1 4095 0 0 70368744177664 0)) accepts
    ∷ points_owe (moved_between (stripe 1 4095 0 0 70368744169475 0) (Subw 0 0 (number 1)) (stripe 1 4095 0 0 70368744177664 0)) (refused_by 14 9 10)
    -- to the lower end too: a link to a stripe of the greatest bound shows it, moved by y and by x
    ∷ points_owe (moved (Strp (apart 2 1 70368744177664 0) ∷ Strp (apart 1 0 0 70368744177663) ∷ []) (Addw 0 0 (number 1)) (apart 2 0 0 0)) accepts
    ∷ points_owe (moved (Strp (apart 2 1 70368744177664 0) ∷ Strp (apart 1 0 0 70368744177664) ∷ []) (Addw 0 0 (number 1)) (apart 2 0 0 1)) (refused_by 14 9 10)
    ∷ points_owe (moved (Strp (apart 2 0 70368744177663 0) ∷ Strp (apart 0 1 0 70368744177663) ∷ []) (Subw 0 0 (number 1)) (apart 2 1 0 0)) accepts
    ∷ points_owe (moved (Strp (apart 2 0 70368744177663 0) ∷ Strp (apart 0 1 0 70368744177664) ∷ []) (Subw 0 0 (number 1)) (apart 2 1 0 1)) (refused_by 14 9 10)
    -- MULW adds its stripe for every number that can be a scale
    ∷ points_owe (multiplied 255) accepts
    ∷ points_owe (multiplied 256) accepts
    ∷ points_owe (multiplied 4095) accepts
    ∷ points_owe (multiplied 4096) (refused_by 14 2 3)
    ∷ points_owe_within earlier (multiplied 255) accepts
    ∷ points_owe_within earlier (multiplied 256) (refused_by 14 2 3)
    -- records of 300 bytes, walked
    ∷ checked records (passes 7)
    ∷ runs records (standing 0 0 2 0) two_records (replicate 4 255) 12 (after_run stops 12 (standing 2 2 2 9) two_records (7 ∷ 1 ∷ 9 ∷ 0 ∷ []))
    ∷ []

-- what the definitions give in a case
abbrev pub given : Case → HandedBack
given c = c.given

-- what is stated in a case
abbrev pub stated : Case → HandedBack
stated c = c.stated
