-- The tests over the whole listing, made on the points that rows and places hold. Assumes nothing.
use mathlib.Core.Path.{◌≡◌, refl, sym, ap, ◌∙◌}
use mathlib.Core.Bool.{Bool, cond}
use mathlib.Core.List.{List, [], ◌∷◌, ◌++◌}
use Prim.Native.Nat.{ℕ, zero, suc, ◌+◌, ◌-◌, ◌≤◌, ◌<◌}
use native.Mathlib.Nat.{add-zero}
use native.Mathlib.Omega.{arith}
use lib.ListN.{length}
use borrow.Author.Tests.{le-leb, lt-leb}
use Rattle.model.specs.declared.claims.Claim.{Claim}
use Rattle.model.specs.declared.answers.Refusal.{Refusal}
use Rattle.model.specs.declared.answers.Refusal.TheVariants.{LastLineClaim, TooManyPoints, NoEnd, EmptyStart}
use Rattle.model.specs.Types.{Judgement, accepted}
use Rattle.std.specs.Prelude.{Ok, Err}
use Rattle.model.specs.Answers.{◌and_then◌}
use Rattle.model.specs.Limits.{greatest_points}
use Rattle.model.specs.Instructions.{targets, goes_on}
use Rattle.model.specs.Listing.{Point, is_empty, point_at, targets_exist, all_targets_exist, ends_in_place, starts_non_empty, whole_judged}
use Rattle.line_rows.specs.declared.rows.Row.{Row}
use Rattle.scan.specs.Scan.{scan_of}
use Rattle.rows_and_places.specs.declared.places.Place.{Place}
use Rattle.rows_and_places.specs.Points.{line_in, point_in, points_in}
use Rattle.rows_and_places.specs.Read.{Scanned}
use Rattle.scan.specs.declared.Scan.{Scan}
use Rattle.rows_and_places.proofs.PlacedPoints.{points-next, points-count, points-at, points-are}

then-accepted : (j : Judgement) → (j and_then accepted) ≡ j
then-accepted (Ok u) = refl
then-accepted (Err r) = refl

then-assoc : (i j k : Judgement) → (i and_then j and_then k) ≡ (i and_then (j and_then k))
then-assoc (Ok u) j k = refl
then-assoc (Err r) j k = refl

targets-snoc : (n : ℕ) (ps : List Point) (q : Point) → all_targets_exist n (ps ++ (q ∷ [])) ≡ (all_targets_exist n ps and_then targets_exist n q.line (targets q.instruction))
targets-snoc n [] q = then-accepted (targets_exist n q.line (targets q.instruction))
targets-snoc n (p ∷ ps) q =
    ap (λ (j : Judgement). targets_exist n p.line (targets p.instruction) and_then j) (targets-snoc n ps q)
    ∙ sym (then-assoc (targets_exist n p.line (targets p.instruction)) (all_targets_exist n ps) (targets_exist n q.line (targets q.instruction)))

-- 9, for one point more
pub targets_next : (rows : List Row) (at : List Place) (n p : ℕ)
    → all_targets_exist n (points_in rows at (suc p)) ≡ (all_targets_exist n (points_in rows at p) and_then targets_exist n (line_in at p) (targets (point_in rows at p).instruction))
targets_next rows at n p = ap (all_targets_exist n) (points-next rows at p) ∙ targets-snoc n (points_in rows at p) (point_in rows at p)

-- where the first k of n points are turned back, so are all
targets_stay : (rows : List Row) (at : List Place) (n k : ℕ) (r : Refusal) → all_targets_exist n (points_in rows at k) ≡ Err r → (d : ℕ) → all_targets_exist n (points_in rows at (k + d)) ≡ Err r
targets_stay rows at n k r e zero = ap (λ (m : ℕ). all_targets_exist n (points_in rows at m)) (add-zero k) ∙ e
targets_stay rows at n k r e (suc d) =
    let more : k + suc d ≡ suc (k + d) = omega arith in
    rw (more, targets_next rows at n (k + d), targets_stay rows at n k r e d)

pub targets_refused : (rows : List Row) (at : List Place) (n p : ℕ) (r : Refusal) → p < n → accepted ≡ all_targets_exist n (points_in rows at p)
    → Err r ≡ targets_exist n (line_in at p) (targets (point_in rows at p).instruction) → Err r ≡ all_targets_exist n (points_in rows at n)
targets_refused rows at n p r h e f =
    let whole : suc p + (n - suc p) ≡ n = omega arith in
    let own : all_targets_exist n (points_in rows at (suc p)) ≡ Err r = rw (targets_next rows at n p, ← e, ← f) in
    sym (ap (λ (m : ℕ). all_targets_exist n (points_in rows at m)) (sym whole) ∙ targets_stay rows at n (suc p) r own (n - suc p))

-- 10 and 11, by what the last and the first place hold
module _ (rows : List Row) (at : List Place) (lines n : ℕ) (some : 1 ≤ n) where
  pub ends_as : (b : Bool) → b ≡ goes_on (point_in rows at (n - 1)).instruction → cond b (Err (NoEnd lines)) accepted ≡ ends_in_place lines (points_in rows at n)
  ends_as b e = rw (e, points-count rows at n, points-at rows at n (n - 1) (omega arith))

  pub starts-as : (b : Bool) → b ≡ is_empty (point_in rows at 0) → cond b (Err (EmptyStart (line_in at 0))) accepted ≡ starts_non_empty (points_in rows at n)
  starts-as b e = rw (e, points-at rows at n 0 (omega arith))

module _ (rows : List Row) (at : List Place) (lines : ℕ) (ps : List Point) (cs : List Claim) (h : Scanned rows at lines ps cs) (q : Scan) (is : q ≡ scan_of ps cs) where
  count : q.points ≡ length ps
  count = ap (λ (x : Scan). x.points) is

  left_over : q.claims ≡ length cs
  left_over = ap (λ (x : Scan). x.claims) is

  -- 7
  pub whole_open : (q.claims ≡ 0 → ⊥) → Err (LastLineClaim lines) ≡ whole_judged lines ps cs
  unfolding whole_judged
  whole_open some = go cs left_over
    where
      go : (xs : List Claim) → q.claims ≡ length xs → Err (LastLineClaim lines) ≡ whole_judged lines ps xs
      go [] e = absurd (some e)
      go (x ∷ xs) e = refl

  module _ (none : q.claims ≡ 0) where
    closed : (xs : List Claim) → q.claims ≡ length xs → xs ≡ []
    closed [] e = refl
    closed (x ∷ xs) e = absurd (omega arith)

    -- 8
    pub whole-many : greatest_points < q.points → Err (TooManyPoints (line_in at greatest_points)) ≡ whole_judged lines ps cs
    unfolding whole_judged
    whole-many many =
        let more : greatest_points < length ps = omega (arith, count) in
        let line : line_in at greatest_points ≡ (point_at ps greatest_points).line = ap (λ (x : Point). x.line) (h.each greatest_points more (omega arith)).is in
        rw (closed cs left_over, lt-leb (length ps) greatest_points more, line)

    -- 9 to 11
    pub whole-few : q.points ≤ greatest_points → (n : ℕ) → n ≡ q.points
        → (all_targets_exist n (points_in rows at n) and_then ends_in_place lines (points_in rows at n) and_then starts_non_empty (points_in rows at n)) ≡ whole_judged lines ps cs
    unfolding whole_judged
    whole-few few n e =
        let fits : length ps ≤ greatest_points = omega (arith, count) in
        rw (closed cs left_over, e, count, points-are rows at ps (λ p b. (h.each p b (omega arith)).is), le-leb (length ps) greatest_points fits)

-- of three tests made in order, the first that refuses tells
pub refused-first : (j k l : Judgement) (r : Refusal) → j ≡ Err r → Err r ≡ (j and_then k and_then l)
refused-first j k l r e = rw e

pub refused-second : (j k l : Judgement) (u : Unit {0}) (r : Refusal) → j ≡ Ok u → k ≡ Err r → Err r ≡ (j and_then k and_then l)
refused-second j k l u r e f = rw (e, f)

-- where two accept, the third tells
pub accepted-both : (j k l : Judgement) (u v : Unit {0}) → j ≡ Ok u → k ≡ Ok v → l ≡ (j and_then k and_then l)
accepted-both j k l u v e f = rw (e, f)
