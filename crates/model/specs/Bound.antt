-- Document 02, T-05: how many steps a passed listing needs at most from point 0, refusal 20, and the promise of the bound.
-- Which edges go back is told by the text alone: impossible ones count too, and those of points that nothing reaches.
use Rattle.std.specs.Prelude.{ℕ, zero, suc, ◌+◌, ◌*◌, ◌≤◌, ◌≡◌, Bool, true, false, not, ◌&&◌, ◌||◌, cond, List, [], ◌∷◌, length, leb, eqb}
use Rattle.model.specs.Types.{Operand, variable, number, Instruction, Stop, Setc, Copy, Addw, Subw, Mulw, Divf, Load, Stor, Jump, Bltu, Bequ, Divm, Claim, Leas, Most, Strp, Turn, Option, None, Some, State, UncoveredEdge, Judgement, accepted, Err, StepBound, Ok, Stopped}
use Rattle.model.specs.Limits.{registers}
use Rattle.model.specs.Lists.{every, some, among}
use Rattle.model.specs.Answers.{◌and_then◌}
use Rattle.model.specs.Instructions.{writes, targets, is_jump}
use Rattle.model.specs.Facts.{Facts, lo, hi, facts_of}
use Rattle.model.specs.Listing.{Point, point_at, listing_of, listing_within, points_of}
use Rattle.model.specs.Check.{listing_judged, check_within}
use Rattle.model.specs.Run.{meets_claims}
use Rattle.model.specs.Safety.{Call, AllLend, ran_on}

-- the register of a TURN that is the first of some claims
abbrev pub turn_among : List Claim → Option ℕ
turn_among [] = None
turn_among (Leas v n ∷ cs) = None
turn_among (Most v n ∷ cs) = None
turn_among (Strp s ∷ cs) = None
turn_among (Turn r ∷ cs) = Some r

-- the 'TURN register' of a listing, whose first line is the first claim line of point 0
abbrev pub turn_of : List Point → Option ℕ
turn_of ps = turn_among (point_at ps 0).claims

-- a 'backward edge' of the p-th point's instruction: its target is p or an earlier point
abbrev pub goes_back : ℕ → Instruction → Bool
goes_back p i = some (λ (t : ℕ). leb t p) (targets i)

-- the point is the target of a JUMP or a branch
abbrev pub is_target : List Point → ℕ → Bool
is_target ps p = some (λ (q : Point). among p (targets q.instruction)) ps

-- an operand that is a number from 1 to n
abbrev pub takes_at_most : ℕ → Operand → Bool
takes_at_most n (variable v) = false
takes_at_most n (number c) = leb 1 c && leb c n

-- a SUBW whose d and i are the register, with a number c of at least 1, where lo of the register is at least c
abbrev pub takes_from : ℕ → Facts → Instruction → Bool
takes_from r f Stop = false
takes_from r f (Setc d c) = false
takes_from r f (Copy d i) = false
takes_from r f (Addw d i o) = false
takes_from r f (Subw d i o) = eqb d r && eqb i r && takes_at_most (lo f.ranges r) o
takes_from r f (Mulw d i o) = false
takes_from r f (Divf d i o) = false
takes_from r f (Load d w b a i k) = false
takes_from r f (Stor v w a i k) = false
takes_from r f (Jump t) = false
takes_from r f (Bltu i t o) = false
takes_from r f (Bequ i t o) = false
takes_from r f (Divm q i s o) = false

-- the point's instruction writes the register
abbrev pub writes_to : ℕ → Point → Bool
writes_to r q = among r (writes q.instruction)

-- if it does, it only takes from it
abbrev pub only_takes : ℕ → Point → Bool
only_takes r q = cond (writes_to r q) (takes_from r (facts_of q.claims) q.instruction) true

-- the point just before the p-th writes the register; that it is a SUBW is asked of every instruction that does
abbrev pub written_before : List Point → ℕ → ℕ → Bool
written_before ps r zero = false
written_before ps r (suc p) = writes_to r (point_at ps p)

-- a backward edge of the p-th point is 'covered'
unfoldable pub covered : List Point → Option ℕ → ℕ → Bool
unfolding some every facts_of
covered ps None p = false
covered ps (Some r) p =
    is_jump (point_at ps p).instruction && not (is_target ps p) && written_before ps r p && every (only_takes r) ps

-- 20: if the p-th point, q, has a backward edge, it is covered
abbrev pub edge_covered : List Point → ℕ → Point → Judgement
edge_covered ps p q = cond (goes_back p q.instruction) (cond (covered ps (turn_of ps) p) accepted (Err (UncoveredEdge q.line))) accepted

-- 20 for the first n points, in order
unfoldable pub edges_covered : List Point → ℕ → Judgement
unfolding some covered
edges_covered ps zero = accepted
edges_covered ps (suc n) = edges_covered ps n and_then edge_covered ps n (point_at ps n)

-- one of the first n points has a backward edge
unfoldable pub any_goes_back : List Point → ℕ → Bool
unfolding some
any_goes_back ps zero = false
any_goes_back ps (suc n) = any_goes_back ps n || goes_back n (point_at ps n).instruction

-- one more than the high end that the TURN register has at point 0; without a TURN no backward edge is covered, and 1 stands for it
abbrev pub rounds_of : List Point → Option ℕ → ℕ
rounds_of ps None = 1
rounds_of ps (Some r) = hi (facts_of (point_at ps 0).claims).ranges r + 1

-- the 'bound': points × (hi + 1), or the points where nothing goes back
unfoldable pub bound_of : List Point → ℕ
unfolding any_goes_back facts_of
bound_of ps = cond (any_goes_back ps (length ps)) (length ps * rounds_of ps (turn_of ps)) (length ps)

-- the bound, where nothing turns the call back
abbrev pub bound_from : List Point → Judgement → StepBound
bound_from ps (Ok u) = Ok (bound_of ps)
bound_from ps (Err r) = Err r

-- the answer of the call: 1 to 14 and 19, then 20, and the bound
unfoldable pub step_bound : List ℕ → StepBound
unfolding listing_within check_within edges_covered bound_of
step_bound s =
    let ps = points_of (listing_of s) in
    bound_from ps (listing_judged (listing_of s) and_then edges_covered ps (length ps))

-- the budgets of a list of calls, added up
abbrev pub budgets_of : List Call → ℕ
budgets_of [] = 0
budgets_of (k ∷ ks) = k.budget + budgets_of ks

-- the steps that all runs of the list make, each from the state that the one before handed back
abbrev pub steps_over : List ℕ → State → List Call → ℕ
steps_over l s [] = 0
steps_over l s (k ∷ ks) = (ran_on l s k).outcome.steps + steps_over l (ran_on l s k).outcome.state ks

-- the last run of the list ends stopped
abbrev pub LastStops : List ℕ → State → List Call → Type 0
LastStops l s [] = ⊥
LastStops l s (k ∷ []) = (ran_on l s k).outcome.report ≡ Stopped
LastStops l s (k ∷ (j ∷ ks)) = LastStops l (ran_on l s k).outcome.state (j ∷ ks)

-- the runs of the list make at most so many steps, and where their budgets add up to as much, the last of them stops
pub record StopsWithin (bound : ℕ) (l : List ℕ) (s : State) (calls : List Call) : Type 0 where
  pub steps : steps_over l s calls ≤ bound
  pub stops : bound ≤ budgets_of calls → LastStops l s calls

-- the promise of T-05, for one run as for many that are halted and taken up again over tables of the same sizes, with any bytes:
-- of the listing nothing is assumed but the answer of the call
abbrev pub BoundHolds : Type 0
BoundHolds =
    (l : List ℕ) (bound : ℕ) → step_bound l ≡ Ok bound →
    (sizes : List ℕ) (s : State) → length s.registers ≡ registers → s.point ≡ 0 → meets_claims (points_of (listing_of l)) s sizes ≡ true →
    (calls : List Call) → AllLend sizes calls → StopsWithin bound l s calls
