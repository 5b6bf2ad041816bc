-- What a point owes, over the points that rows and places hold, and rows that are to be written anew. Assumes nothing.
use mathlib.Core.Path.{◌≡◌, refl, sym, ap, ◌∙◌}
use mathlib.Core.Bool.{Bool, true, false, cond}
use mathlib.Core.List.{List, [], ◌∷◌, ◌++◌}
use Prim.Native.Nat.{ℕ, suc, ◌+◌, ◌-◌, ◌<◌}
use native.Mathlib.Omega.{arith}
use native.Mathlib.Numerals.{add-one}
use mathlib.Core.List.{map}
use lib.ListN.{length}
use Rattle.model.specs.declared.machine.Instruction.{Instruction}
use Rattle.model.specs.declared.machine.Edge.{Edge}
use Rattle.model.specs.declared.machine.Edge.TheVariants.{Next, Target}
use Rattle.model.specs.declared.answers.Refusal.{Refusal}
use Rattle.model.specs.Types.{Judgement, accepted}
use Rattle.std.specs.Prelude.{Ok, Err}
use Rattle.model.specs.Limits.{today}
use Rattle.model.specs.Answers.{◌and_then◌}
use Rattle.model.specs.Facts.{Facts, facts_of}
use Rattle.model.specs.Instructions.{targets, goes_on}
use Rattle.model.specs.Listing.{Point, is_empty, point_at}
use Rattle.model.specs.Transfer.{facts_along}
use Rattle.model.specs.Check.{claims_judged, edges_judged, safety_judged, owed_judged, point_judged, points_judged}
use Rattle.line_rows.specs.declared.rows.Row.{Row}
use Rattle.rows_and_places.specs.declared.places.Place.{Place}
use Rattle.decoded.proofs.Claims.{claims-count}
use Rattle.rows_and_places.specs.Points.{number_in, first_in, point_in, points_in, Placed, Holds}
use Rattle.rows_and_places.proofs.PlacedPoints.{points-at}
use Rattle.obligations.proofs.FirstRefusal.{refused-stays}

-- the test of a point's facts tells whether it is empty
pub tells-empty : (rows : List Row) (at : List Place) (p : ℕ) (f : Facts) (n : ℕ) (b : Bool)
    → ((q : Point) → n ≡ length q.claims → f ≡ facts_of q.claims → b ≡ is_empty q)
    → n ≡ number_in at p → f ≡ facts_of (point_in rows at p).claims → b ≡ is_empty (point_in rows at p)
tells-empty rows at p f n b test count facts =
    test (point_in rows at p) (count ∙ sym (claims-count rows (first_in at p) (number_in at p))) facts

then-accepted : (j : Judgement) → (j and_then accepted) ≡ j
then-accepted (Ok u) = refl
then-accepted (Err r) = refl

module _ (rows : List Row) (at : List Place) (n p : ℕ) (holds : Holds rows at n) (inside : p < n) where
  abbrev q : Point
  q = point_in rows at p

  abbrev i : Instruction
  i = q.instruction

  -- 12 and 13
  abbrev safe : Judgement
  safe = safety_judged q.line (facts_of q.claims) i

  -- 14 along an edge to point t
  abbrev edge : Edge → ℕ → Judgement
  edge e t = claims_judged q.line (facts_along today e i (facts_of q.claims)) (point_in rows at t)

  -- 14 along the edge to the next point, where there is one
  abbrev next : Judgement
  next = cond (goes_on i) (edge Next (p + 1)) accepted

  abbrev whole : Judgement
  whole = owed_judged today (points_in rows at n) p q

  abbrev along : List Edge → Judgement
  along es = edges_judged today (points_in rows at n) p q es

  whole_is : whole ≡ (safe and_then (next and_then along (map Target (targets i))))
  unfolding owed_judged
  whole_is = ap (λ (j : Judgement). safe and_then j) (go (goes_on i) (holds.next p inside))
    where
      go : (b : Bool) → (b ≡ true → p + 1 < n) → along (cond b (Next ∷ []) [] ++ map Target (targets i)) ≡ (cond b (edge Next (p + 1)) accepted and_then along (map Target (targets i)))
      go true on = ap (λ (x : Point). claims_judged q.line (facts_along today Next i (facts_of q.claims)) x and_then along (map Target (targets i))) (points-at rows at n (p + 1) (on refl))
      go false on = refl

  -- what the code looks up
  module _ (line : ℕ) (f : Facts) (k : Instruction) (line-is : line ≡ q.line) (facts : f ≡ facts_of q.claims) (instruction : k ≡ i) where
    safe-is : safety_judged line f k ≡ safe
    safe-is = rw (line-is, facts, instruction)

    edge-is : (e : Edge) (t : ℕ) → claims_judged line (facts_along today e k f) (point_in rows at t) ≡ edge e t
    edge-is e t = rw (line-is, facts, instruction)

    -- the next point and the target have places
    pub next-placed : goes_on k ≡ true → Placed rows at (p + 1)
    next-placed on = holds.all.each (p + 1) (holds.next p inside (ap goes_on (sym instruction) ∙ on))

    pub target-placed : (t : ℕ) → targets i ≡ t ∷ [] → Placed rows at t
    target-placed t e = holds.all.each t (holds.target p t inside e)

    -- the point is turned back by its own safety
    pub by-safety : (r : Refusal) → safety_judged line f k ≡ Err r → Err r ≡ whole
    by-safety r e = sym (whole_is ∙ rw (← safe-is, e) refl)

    -- 14 along the edge to the next point, where the code asks whether there is one
    pub next-is : (b : Bool) → b ≡ goes_on k → cond b (claims_judged line (facts_along today Next k f) (point_in rows at (p + 1))) accepted ≡ next
    next-is b on = ap (λ (c : Bool). cond c (claims_judged line (facts_along today Next k f) (point_in rows at (p + 1))) accepted) (on ∙ ap goes_on instruction) ∙ ap (λ (j : Judgement). cond (goes_on i) j accepted) (edge-is Next (p + 1))

    -- where there is one, its claims follow
    pub next-follows : goes_on k ≡ true → claims_judged line (facts_along today Next k f) (point_in rows at (p + 1)) ≡ accepted → next ≡ accepted
    next-follows on e = sym (next-is true (sym on)) ∙ e

    pub next-none : goes_on k ≡ false → next ≡ accepted
    next-none off = sym (next-is false (sym off))

    module _ (ok : safety_judged line f k ≡ accepted) where
      rest-is : whole ≡ (next and_then along (map Target (targets i)))
      rest-is = whole_is ∙ rw (← safe-is, ok) refl

      -- by the edge to the next point
      pub by_next_edge : (r : Refusal) → next ≡ Err r → Err r ≡ whole
      by_next_edge r e = sym (rest-is ∙ ap (λ (x : Judgement). x and_then along (map Target (targets i))) e)

      -- by the claims of the next point
      pub by_next : goes_on k ≡ true → (r : Refusal) → claims_judged line (facts_along today Next k f) (point_in rows at (p + 1)) ≡ Err r → Err r ≡ whole
      by_next on r e = by_next_edge r (sym (next-is true (sym on)) ∙ e)

      module _ (follows : next ≡ accepted) where
        -- by nothing, where no target is named
        pub by-none : targets i ≡ [] → accepted ≡ whole
        by-none e = sym (rest-is ∙ rw (follows, e) refl)

        -- by the claims of the target
        pub by-target : (t : ℕ) → targets i ≡ t ∷ [] → claims_judged line (facts_along today (Target t) k f) (point_in rows at t) ≡ whole
        by-target t own =
            edge-is (Target t) t
            ∙ sym (rest-is ∙ rw (follows, own) (then-accepted _ ∙ ap (λ (y : Point). claims_judged q.line (facts_along today (Target t) i (facts_of q.claims)) y) (points-at rows at n t (holds.target p t inside own))))

-- the points in order
pub points_none : (ps : List Point) → points_judged today ps 0 ≡ accepted
unfolding points_judged
points_none ps = refl

points-next : (ps : List Point) (n : ℕ) → points_judged today ps (suc n) ≡ (points_judged today ps n and_then point_judged today ps n (point_at ps n))
unfolding points_judged
points-next ps n = refl

module _ (rows : List Row) (at : List Place) (n p : ℕ) (inside : p < n) (before : points_judged today (points_in rows at n) p ≡ accepted) where
  abbrev own : Judgement
  own = point_judged today (points_in rows at n) p (point_in rows at p)

  one_more : points_judged today (points_in rows at n) (suc p) ≡ own
  one_more =
      points-next (points_in rows at n) p ∙ ap (λ (x : Judgement). x and_then point_judged today (points_in rows at n) p (point_at (points_in rows at n) p)) before
      ∙ ap (point_judged today (points_in rows at n) p) (points-at rows at n p inside)

  pub accepted-next : own ≡ accepted → points_judged today (points_in rows at n) (p + 1) ≡ accepted
  accepted-next e = ap (points_judged today (points_in rows at n)) (add-one p) ∙ one_more ∙ e

  pub refused_all : (r : Refusal) → own ≡ Err r → Err r ≡ points_judged today (points_in rows at n) n
  refused_all r e =
      let rest : suc p + (n - suc p) ≡ n = omega arith in
      sym (refused-stays (points_in rows at n) r (suc p) (n - suc p) (one_more ∙ e)) ∙ ap (points_judged today (points_in rows at n)) rest
