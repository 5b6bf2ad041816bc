-- A listing has at most one point for each line, so the code has room for its points. Assumes nothing.
use mathlib.Core.Path.{◌≡◌, ap, subst}
use mathlib.Core.List.{List, [], ◌∷◌, ◌++◌}
use Prim.Native.Nat.{ℕ, zero, suc, ◌+◌, ◌*◌, ◌/◌, ◌≤◌}
use native.Mathlib.Omega.{arith}
use lib.ListN.{length, length-append}
use Rattle.model.specs.declared.claims.Line.{Line}
use Rattle.model.specs.declared.claims.Line.TheVariants.{Refused as refused_line, Claim as claim_line, Instruction as instruction_line}
use Rattle.model.specs.declared.answers.Refusal.TheVariants.{ListingLength, ClaimOrder}
use Rattle.model.specs.Types.{Judgement}
use Rattle.std.specs.Prelude.{Ok, Err}
use Rattle.model.specs.Limits.{line_bytes, today}
use Rattle.model.specs.Lines.{read_line}
use Rattle.model.specs.Listing.{Point, line_at, in_order, Reading, going, refused_reading, after_line, read_to, whole_judged, Listing, read_as, refused_listing, listing_or, listing_from, good_length, listing_of, points_of, listing_within}
use Rattle.model.specs.declared.machine.State.{State}
use Rattle.model.specs.Run.{state_judged}
use Rattle.rows_and_places.specs.Points.{points_in}
use Rattle.model.proofs.Tests.{cond_cases}
use Rattle.line_rows.specs.declared.rows.Row.{Row}
use Rattle.rows_and_places.specs.declared.places.Place.{Place}
use Rattle.rows_and_places.proofs.PlacedPoints.{points-count}
use Rattle.checker.specs.Judged.{Held}
use Rattle.runner.specs.Runs.{CodeRoom}

-- at most n points are read
abbrev ReadFew : ℕ → Reading → Type 0
ReadFew n (going ps cs) = length ps ≤ n
ReadFew n (refused_reading r) = Unit {0}

few-more : (n : ℕ) (x : Reading) (l : Line) → ReadFew n x → ReadFew (suc n) (after_line x n l)
few-more n (refused_reading r) l h = tt
few-more n (going ps cs) (refused_line r) h = tt
few-more n (going ps cs) (claim_line c) h = cond_cases (ReadFew (suc n)) (in_order n cs c) (going ps (cs ++ (c ∷ []))) (refused_reading (ClaimOrder (n + 1))) (λ e. omega arith) (λ e. tt)
few-more n (going ps cs) (instruction_line i) h = rw length-append (omega arith)

read-few : (s : List ℕ) (n : ℕ) → ReadFew n (read_to today s n)
unfolding read_to
read-few s zero = omega arith
read-few s (suc n) = few-more n (read_to today s n) (read_line today (n + 1) (line_at s n)) (read-few s n)

abbrev Few : ℕ → Listing → Type 0
Few n (read_as ps) = length ps ≤ n
Few n (refused_listing r) = Unit {0}

few-points : (s : List ℕ) → Few (length s / line_bytes) (listing_of s)
unfolding listing_within
few-points s =
    cond_cases (Few n) (good_length (length s)) (listing_from n (read_to today s n)) (refused_listing ListingLength) (λ e. from (read_to today s n) (read-few s n)) (λ e. tt)
  where
    n : ℕ
    n = length s / line_bytes

    or : (j : Judgement) (ps : List Point) → length ps ≤ n → Few n (listing_or j ps)
    or (Ok u) ps h = h
    or (Err r) ps h = tt

    from : (x : Reading) → ReadFew n x → Few n (listing_from n x)
    from (refused_reading r) h = tt
    from (going ps cs) h = or (whole_judged n ps cs) ps h

-- the code has room for the points that are held
pub code-room : (s : List ℕ) (rows : List Row) (at : List Place) (n m : ℕ) → CodeRoom (length s) m → Held s rows at n → n ≤ m
code-room s rows at n m room h = room n h.holds.all.few (rw (points-count rows at n) at (subst (Few (length s / line_bytes)) h.points (few-points s)))

-- a state is judged by the points that are held
pub state-judged-as : (l : List ℕ) (rows : List Row) (at : List Place) (n : ℕ) (s : State) (sizes : List ℕ) → Held l rows at n → state_judged (points_of (listing_of l)) s sizes ≡ state_judged (points_in rows at n) s sizes
state-judged-as l rows at n s sizes h = ap (λ (x : Listing). state_judged (points_of x) s sizes) h.points
