-- Every step of a listing whose backward edges are covered makes the rank smaller, and at point 0 the rank is below the bound. Assumes nothing.
use Prim.Native.Nat.{ℕ, ◌+◌, ◌*◌, ◌≤◌, ◌<◌}
use mathlib.Core.Path.{◌≡◌, refl, sym, ap, ◌∙◌}
use mathlib.Core.Bool.{Bool, true, false, ◌&&◌, false≢true}
use mathlib.Core.List.{List}
use native.Mathlib.Omega.{arith}
use native.Mathlib.Decide.{dec_le}
use lib.ListN.{length, get_or, get_or-append}
use lib.Seq.{get_or-set_same}
use lib.Dec.{leb, ltb, eqb}
use borrow.Author.Tests.{ltb-true, leb-true, eqb-true}
use Rattle.model.specs.declared.machine.Operand.TheVariants.{Variable as variable, Number as number}
use Rattle.model.specs.declared.machine.Instruction.{Instruction}
use Rattle.model.specs.declared.machine.Instruction.TheVariants.{Stop, Setc, Copy, Addw, Subw, Mulw, Divf, Load, Stor, Jump, Bltu, Bequ, Divm}
use Rattle.model.specs.declared.machine.State.{State}
use Rattle.std.specs.Prelude.{Option, None, Some}
use Rattle.model.specs.Limits.{registers, variables, MAX}
use Rattle.model.specs.Lists.{every_below, among}
use Rattle.model.specs.Instructions.{writes, targets, goes_on}
use Rattle.model.specs.Facts.{Facts, range_of, lo, hi, facts_of, in_range, value_at, meets}
use Rattle.model.specs.Listing.{Point, point_at}
use Rattle.model.specs.Machine.{Config, values_from, value_of, difference, wrote, instruction_at, next, step_of, step_at}
use Rattle.model.specs.Run.{meets_claims}
use Rattle.model.specs.Bound.{takes_from, writes_to, only_takes, rounds_of}
use Rattle.model.proofs.Tests.{and_left, and_right, or_cases, every-below}
use Rattle.model.proofs.Lists.{every-at}
use Rattle.model.proofs.Facts.{small-value}
use Rattle.model.proofs.OneStep.{Good}
use Rattle.model.proofs.Queries.{unwritten-kept, is_successor, leads}
use Rattle.step_bound.proofs.Rank.{rank, forward, counted, backward, start-rank}
use Rattle.step_bound.proofs.CoveredEdges.{back, target-back, Covers, none-covered, after-unwritten, first-unwritten, untargeted}

-- the rounds left, by the register that counts them
abbrev pub rounds : Option ℕ → List ℕ → ℕ
rounds None rs = 0
rounds (Some r) rs = get_or rs r 0

-- the rank of a point and the registers
abbrev pub rank_of : List Point → Option ℕ → ℕ → List ℕ → ℕ
rank_of ps t p rs = rank (length ps) (back ps) p (rounds t rs)

-- an instruction that takes from a register, and what it takes
taken : (r : ℕ) (f : Facts) (i : Instruction) → takes_from r f i ≡ true → (k : ℕ) × (i ≡ Subw r r (number k)) × (1 ≤ k) × (k ≤ lo f.ranges r)
taken r f Stop e = absurd (false≢true e)
taken r f (Setc d x) e = absurd (false≢true e)
taken r f (Copy d i) e = absurd (false≢true e)
taken r f (Addw d i o) e = absurd (false≢true e)
taken r f (Subw d i (variable v)) e = absurd (false≢true (and_right (eqb d r && eqb i r) false e))
taken r f (Subw d i (number k)) e =
    let same = and_left (eqb d r && eqb i r) _ e in
    let few = and_right (eqb d r && eqb i r) _ e in
    (k, rw (eqb-true d r (and_left (eqb d r) _ same), eqb-true i r (and_right (eqb d r) _ same)), leb-true 1 k (and_left (leb 1 k) _ few), leb-true k _ (and_right (leb 1 k) _ few))
taken r f (Mulw d i o) e = absurd (false≢true e)
taken r f (Divf d i o) e = absurd (false≢true e)
taken r f (Load d w b a i k) e = absurd (false≢true e)
taken r f (Stor v w a i k) e = absurd (false≢true e)
taken r f (Jump t) e = absurd (false≢true e)
taken r f (Bltu i t o) e = absurd (false≢true e)
taken r f (Bequ i t o) e = absurd (false≢true e)
taken r f (Divm q i s o) e = absurd (false≢true e)

-- what is taken from a register that holds as much leaves less
less-left : (x k : ℕ) → 1 ≤ k → k ≤ x → x ≤ MAX → difference x k < x
less-left x k some few small = omega arith

-- a step leads to one configuration
next-same : {c d : Config} → next c ≡ next d → c ≡ d
next-same e = cc

module _ (ps : List Point) (sizes : List ℕ) where
  -- the value of a register
  register-value : (c : Config) → Good ps sizes c → (r : ℕ) → r < registers → value_of c r ≡ get_or c.registers r 0
  register-value c g r h = get_or-append c.registers _ 0 r (omega (arith, g.typed.registers))

  -- a step from c to d
  module _ (c d : Config) (g : Good ps sizes c) (h : Good ps sizes d) (e : step_at ps c ≡ next d) where
    -- the rounds stay, and the next point has no backward edge: the step leads there or to a target
    rounds-stay : (t : Option ℕ) → Covers ps t → back ps (c.point + 1) ≡ false → (x : ℕ) → rank (length ps) (back ps) d.point x < rank (length ps) (back ps) c.point x
    rounds-stay t covers on x =
        or_cases (among d.point (targets (instruction_at ps c))) _ led
        (λ i. go i (dec_le d.point c.point))
        (λ i.
        let next : d.point ≡ c.point + 1 = eqb-true _ _ (and_right (goes_on (instruction_at ps c)) _ i) in
        forward (length ps) (back ps) c.point d.point x (omega arith) h.exists (rw next on))
      where
        led : is_successor (instruction_at ps c) c.point d.point ≡ true
        led = rw e at (leads (instruction_at ps c) c)

        go : among d.point (targets (instruction_at ps c)) ≡ true → Dec (d.point ≤ c.point) → rank (length ps) (back ps) d.point x < rank (length ps) (back ps) c.point x
        go i (yes k) = backward (length ps) (back ps) c.point d.point x g.exists (target-back ps c.point d.point i k) (untargeted ps t covers c.point d.point g.exists i)
        go i (no k) = forward (length ps) (back ps) c.point d.point x (omega arith) h.exists (untargeted ps t covers c.point d.point g.exists i)

    -- the register is written: it falls, and the next point follows
    written-falls : (r : ℕ) → Covers ps (Some r) → writes_to r (point_at ps c.point) ≡ true → rank_of ps (Some r) d.point d.registers < rank_of ps (Some r) c.point c.registers
    unfolding step_of
    written-falls r covers w =
        let q = point_at ps c.point in
        let only : only_takes r q ≡ true = every-at (only_takes r) ps _ c.point covers.takes.1 g.exists in
        let takes : takes_from r (facts_of q.claims) q.instruction ≡ true = rw w at only in
        let (k, same, some, few) = taken r (facts_of q.claims) q.instruction takes in
        let x = value_of c r in
        let to : wrote c r (difference x k) ≡ d = next-same (sym (ap (λ (i : Instruction). step_of i c) same) ∙ e) in
        let now : x ≡ get_or c.registers r 0 = register-value c g r covers.takes.0 in
        let new : get_or d.registers r 0 ≡ difference x k = rw (← to) (get_or-set_same c.registers r _ 0 (omega (arith, g.typed.registers, covers.takes.0))) in
        let on : d.point ≡ c.point + 1 = sym (ap (λ (b : Config). b.point) to) in
        let less : difference x k < x = less-left x k some (omega (arith, few, (g.met.ranges r).0)) (small-value (value_of c) g.typed.bounded r) in
        rw (on, new, ← now) (counted (length ps) (back ps) c.point x (difference x k) (omega (arith, h.exists, on)) less)

    -- by the register, or without one, the rank falls
    pub rank_falls : (t : Option ℕ) → Covers ps t → rank_of ps t d.point d.registers < rank_of ps t c.point c.registers
    rank_falls None covers = rounds-stay None covers (none-covered ps covers (c.point + 1)) 0
    rank_falls (Some r) covers = go (writes_to r (point_at ps c.point)) refl
      where
        go : (b : Bool) → writes_to r (point_at ps c.point) ≡ b → rank_of ps (Some r) d.point d.registers < rank_of ps (Some r) c.point c.registers
        go true w = written-falls r covers w
        go false w =
            let left : (r : ℕ) → among r (writes (instruction_at ps c)) ≡ false → get_or d.registers r 0 ≡ get_or c.registers r 0 = rw e at (unwritten-kept (instruction_at ps c) c) in
            rw (left r w) (rounds-stay (Some r) covers (after-unwritten ps r covers c.point w) (get_or c.registers r 0))

-- a state at point 0 that meets the claims there
module _ (ps : List Point) (sizes : List ℕ) (s : State) (sixteen : length s.registers ≡ registers) (start : s.point ≡ 0) (e : meets_claims ps s sizes ≡ true) where
  -- there is one point at least
  pub first-exists : 0 < length ps
  unfolding meets_claims
  first-exists = let inside = ltb-true s.point (length ps) (and_left (ltb s.point (length ps)) _ e) in omega arith

  -- the high end there leaves room for the rounds
  few-rounds : (t : Option ℕ) → Covers ps t → rounds t s.registers < rounds_of ps t
  unfolding meets_claims meets
  few-rounds None h = omega arith
  few-rounds (Some r) h =
      let vs = values_from s.registers sizes in
      let rs = (facts_of (point_at ps s.point).claims).ranges in
      let inside : ℕ → Bool = λ v. in_range (value_at vs v) (range_of rs v) in
      let all : every_below inside variables ≡ true = and_left (every_below inside variables) _ (and_right (ltb s.point (length ps)) _ e) in
      let small : r < registers = h.takes.0 in
      let one : inside r ≡ true = every-below inside variables all r (omega arith) in
      let most : value_at vs r ≤ hi rs r = leb-true _ _ (and_right (leb (lo rs r) (value_at vs r)) _ one) in
      let same : value_at vs r ≡ get_or s.registers r 0 = get_or-append s.registers sizes 0 r (omega arith) in
      let first : get_or s.registers r 0 ≤ hi (facts_of (point_at ps 0).claims).ranges r = rw (start, same) at most in
      omega arith

  -- there the rank is below the bound
  pub rank-starts : (t : Option ℕ) → Covers ps t → rank_of ps t s.point s.registers < length ps * rounds_of ps t
  rank-starts t h = rw start (start-rank (length ps) (back ps) _ _ first-exists (few-rounds t h) (first-unwritten ps t h))
