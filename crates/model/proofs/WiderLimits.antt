-- What passed within some limits passes within wider ones, means the same and runs the same. Assumes nothing.
use mathlib.Core.Path.{◌≡◌, refl, ap, sym, ◌∙◌}
use mathlib.Core.Bool.{Bool, true, false, not, ◌&&◌, cond, false≢true}
use mathlib.Core.List.{List, [], ◌∷◌, map}
use Prim.Native.Nat.{ℕ, zero, suc, ◌+◌, ◌/◌, ◌≤◌, ◌<◌}
use native.Mathlib.Decide.{dec_lt}
use native.Mathlib.Omega.{arith}
use lib.Dec.{leb, eqb}
use lib.ListN.{length, get_or-eq_default}
use borrow.Author.Tests.{leb-true, le-leb}
use Rattle.model.specs.Types.{Field, Word, Option, None, Some, Content, a_register, a_variable, a_target, a_width, a_table, a_scale, an_offset, a_number, a_choice, an_operand, a_claimed, a_bound, Kind, empty, plain, optional, signed, Operand, variable, number, Instruction, Stop, Setc, Copy, Addw, Subw, Mulw, Divf, Load, Stor, Jump, Bltu, Bequ, Divm, Edge, Next, Target, Range, Stripe, Claim, Line, refused_line, claim_line, instruction_line, Judgement, accepted, Err, Ok, State, ListingLength, LineBytes, NumberLimits, FieldShape}
use Rattle.model.specs.Limits.{StripeLimits, today, earlier, blank_variable, line_bytes}
use Rattle.model.specs.Text.{value_in}
use Rattle.model.specs.Words.{words, word_among, shaped, within, allowed}
use Rattle.model.specs.Lines.{well_spelled, fields_in, field_at, F1, F5, kind_at, in_shape, in_limits, registers_judged, judged, line_from, line_or, line_found, read_line}
use Rattle.model.specs.Writing.{is_taken}
use Rattle.model.specs.Listing.{Point, is_empty, line_at, Reading, going, refused_reading, after_line, read_to, point_at, Listing, read_as, refused_listing, listing_from, good_length, listing_within}
use Rattle.model.specs.Facts.{facts_of, range_of}
use Rattle.model.specs.Machine.{Tables}
use Rattle.model.specs.Transfer.{edges, leads_to, operand_range, sum_fits, difference_fits, product_fits, dropped, bound_in_limits, shifted, stripe, by_number, sum_stripes, difference_stripes, product_stripes, stripes_along, facts_along}
use Rattle.model.specs.Check.{safety_judged, claims_judged, edges_judged, owed_judged, point_judged, points_judged, verdict_from, verdict_within, check_within}
use Rattle.model.specs.Run.{run_judged_within, run_within}
use Rattle.model.specs.LongRecords.{PassesAlike, EarlierPassesStand}
use Rattle.model.proofs.Tests.{and_left, and_right, and_both, and_kept, or_kept, every-below, all-below}
use Rattle.model.proofs.Lists.{All, all-at}
use Rattle.model.proofs.Reading.{both-accepted, accepted-both, PointLimited, well-formed}
use Rattle.model.proofs.Safety.{verdict-accepted}
use Rattle.model.proofs.MoreStripes.{Included, included-same, included-if, included-either, kept-included, claims-kept, no-claims}

-- each limit is at most the other's
pub record Wider (L M : StripeLimits) : Type 0 where
  pub scale : L.scale ≤ M.scale
  pub bound : L.bound ≤ M.bound

-- a test that asks for at most a limit
at-most : (v : ℕ) {m n : ℕ} → m ≤ n → leb v m ≡ true → leb v n ≡ true
at-most v {m} {n} less e = le-leb v n (omega (arith, leb-true v m e))

module _ (L M : StripeLimits) (wider : Wider L M) where
  -- reading

  within-kept : (c : Content) (f1 f5 v : ℕ) → within L c f1 f5 v ≡ true → within M c f1 f5 v ≡ true
  unfolding within
  within-kept a_register f1 f5 v e = e
  within-kept a_variable f1 f5 v e = e
  within-kept a_target f1 f5 v e = e
  within-kept a_width f1 f5 v e = e
  within-kept a_table f1 f5 v e = e
  within-kept a_scale f1 f5 v e = and_kept (leb 1 v) _ _ (at-most v wider.scale) e
  within-kept an_offset f1 f5 v e = e
  within-kept a_number f1 f5 v e = e
  within-kept a_choice f1 f5 v e = e
  within-kept an_operand f1 f5 v e = e
  within-kept a_claimed f1 f5 v e = e
  within-kept a_bound f1 f5 v e = at-most v wider.bound e

  allowed-kept : (k : Kind) (f1 f5 : ℕ) (f : Field) → allowed L k f1 f5 f ≡ true → allowed M k f1 f5 f ≡ true
  unfolding allowed
  allowed-kept empty f1 f5 f e = e
  allowed-kept (plain c) f1 f5 f e = within-kept c f1 f5 (value_in f) e
  allowed-kept (optional c) f1 f5 f e = or_kept (shaped empty f) _ _ _ (λ t. t) (within-kept c f1 f5 (value_in f)) e
  allowed-kept (signed c) f1 f5 f e = within-kept c f1 f5 (value_in f) e

  limits-kept : (w : Word) (fs : List Field) → in_limits L w fs ≡ true → in_limits M w fs ≡ true
  unfolding in_limits
  limits-kept w fs e =
      all-below (λ (j : ℕ). allowed M (kind_at w j) (F1 fs) (F5 fs) (field_at fs j)) 6
      (λ j h. allowed-kept (kind_at w j) (F1 fs) (F5 fs) (field_at fs j) (every-below (λ (j : ℕ). allowed L (kind_at w j) (F1 fs) (F5 fs) (field_at fs j)) 6 e j h))

  judged-kept : (place : ℕ) (w : Option Word) (fs : List Field) → judged L place w fs ≡ accepted → judged M place w fs ≡ accepted
  unfolding judged
  judged-kept place None fs e = e
  judged-kept place (Some w) fs e = go (in_shape w fs) (in_limits L w fs) (in_limits M w fs) (limits-kept w fs) e
    where
      judge : Bool → Bool → Judgement
      judge a b = cond a (cond b (registers_judged place w fs) (Err (NumberLimits place))) (Err (FieldShape place))

      go : (a b c : Bool) → (b ≡ true → c ≡ true) → judge a b ≡ accepted → judge a c ≡ accepted
      go true true true f q = q
      go true true false f q = absurd (false≢true (f refl))
      go true false c f q = let z : ◌≡◌ {A = ℕ} 0 1 = cc in absurd (omega arith)
      go false b c f q = q

  -- a line that is taken is taken as the same claim or instruction
  found-kept : (place : ℕ) (w : Option Word) (fs : List Field) → is_taken (line_found L place w fs) ≡ true → line_found M place w fs ≡ line_found L place w fs
  unfolding judged
  found-kept place None fs e = refl
  found-kept place (Some w) fs e = go (judged L place (Some w) fs) (judged-kept place (Some w) fs) e
    where
      go : (j : Judgement) → (j ≡ accepted → judged M place (Some w) fs ≡ accepted) → is_taken (line_or j (line_from w fs)) ≡ true → line_or (judged M place (Some w) fs) (line_from w fs) ≡ line_or j (line_from w fs)
      go (Ok u) f t = ap (λ (k : Judgement). line_or k (line_from w fs)) (f refl)
      go (Err r) f t = absurd (false≢true t)

  line_kept : (place : ℕ) (l : List ℕ) → is_taken (read_line L place l) ≡ true → read_line M place l ≡ read_line L place l
  unfolding read_line
  line_kept place l e = go (well_spelled l) e
    where
      go : (b : Bool) → is_taken (cond b (line_found L place (word_among words l) (fields_in l)) (refused_line (LineBytes place))) ≡ true
          → cond b (line_found M place (word_among words l) (fields_in l)) (refused_line (LineBytes place)) ≡ cond b (line_found L place (word_among words l) (fields_in l)) (refused_line (LineBytes place))
      go true t = found-kept place (word_among words l) (fields_in l) t
      go false t = refl

  reading-kept : (s : List ℕ) (n : ℕ) (ps : List Point) (cs : List Claim) → read_to L s n ≡ going ps cs → read_to M s n ≡ going ps cs
  unfolding read_to
  reading-kept s zero ps cs e = e
  reading-kept s (suc n) ps cs e = go (read_to L s n) (read_line L (n + 1) (line_at s n)) (reading-kept s n) (line_kept (n + 1) (line_at s n)) e
    where
      go : (r : Reading) (l : Line) → ((ps : List Point) (cs : List Claim) → r ≡ going ps cs → read_to M s n ≡ going ps cs) → (is_taken l ≡ true → read_line M (n + 1) (line_at s n) ≡ l)
          → after_line r n l ≡ going ps cs → after_line (read_to M s n) n (read_line M (n + 1) (line_at s n)) ≡ going ps cs
      go (refused_reading r) l f g q = let z : ◌≡◌ {A = ℕ} 0 1 = cc in absurd (omega arith)
      go (going qs bs) (refused_line r) f g q = let z : ◌≡◌ {A = ℕ} 0 1 = cc in absurd (omega arith)
      go (going qs bs) (claim_line c) f g q = rw (f qs bs refl, g refl) q
      go (going qs bs) (instruction_line i) f g q = rw (f qs bs refl, g refl) q

  pub listing-kept : (s : List ℕ) (ps : List Point) → listing_within L s ≡ read_as ps → listing_within M s ≡ read_as ps
  unfolding listing_within
  listing-kept s ps e = go (good_length (length s)) (read_to L s (length s / line_bytes)) (reading-kept s (length s / line_bytes)) e
    where
      go : (b : Bool) (r : Reading) → ((ps : List Point) (cs : List Claim) → r ≡ going ps cs → read_to M s (length s / line_bytes) ≡ going ps cs)
          → cond b (listing_from (length s / line_bytes) r) (refused_listing ListingLength) ≡ read_as ps
          → cond b (listing_from (length s / line_bytes) (read_to M s (length s / line_bytes))) (refused_listing ListingLength) ≡ read_as ps
      go false r f q = q
      go true (refused_reading r) f q = let z : ◌≡◌ {A = ℕ} 0 1 = cc in absurd (omega arith)
      go true (going qs bs) f q = rw (f qs bs refl) q

  -- edges

  bound-kept : (s : Stripe) → bound_in_limits L s ≡ true → bound_in_limits M s ≡ true
  bound-kept s e =
      and_both _ _
      (le-leb s.plus (s.minus + M.bound) (omega (arith, wider.bound, leb-true s.plus (s.minus + L.bound) (and_left _ _ e))))
      (le-leb s.minus (s.plus + M.bound) (omega (arith, wider.bound, leb-true s.minus (s.plus + L.bound) (and_right (leb s.plus (s.minus + L.bound)) _ e))))

  number-included : (d i up down : ℕ) (ss : List Stripe) → Included (by_number L d i up down ss) (by_number M d i up down ss)
  number-included d i up down ss = included-either (eqb d i) _ (kept-included (bound_in_limits L) (bound_in_limits M) bound-kept (map (shifted d up down) ss))

  sum-included : (d i : ℕ) (o : Operand) (ss : List Stripe) → Included (sum_stripes L d i o ss) (sum_stripes M d i o ss)
  sum-included d i (variable o) ss = included-same _
  sum-included d i (number c) ss = number-included d i c 0 ss

  difference-included : (d i : ℕ) (o : Operand) (ss : List Stripe) → Included (difference_stripes L d i o ss) (difference_stripes M d i o ss)
  difference-included d i (variable o) ss = included-same _
  difference-included d i (number c) ss = number-included d i 0 c ss

  product-included : (d i : ℕ) (o : Operand) (ss : List Stripe) → Included (product_stripes L d i o ss) (product_stripes M d i o ss)
  product-included d i (variable o) ss = included-same _
  product-included d i (number c) ss =
      included-if (leb 1 c && leb c L.scale && not (eqb d i)) (leb 1 c && leb c M.scale && not (eqb d i)) (stripe d c i blank_variable 0 0) (dropped d ss)
      (λ e. and_both (leb 1 c && leb c M.scale) _ (and_kept (leb 1 c) _ _ (at-most c wider.scale) (and_left _ _ e)) (and_right (leb 1 c && leb c L.scale) _ e))

  stripes-included : (e : Edge) (i : Instruction) (rs : List Range) (ss : List Stripe) → Included (stripes_along L e i rs ss) (stripes_along M e i rs ss)
  unfolding stripes_along
  stripes-included e Stop rs ss = included-same _
  stripes-included e (Setc d c) rs ss = included-same _
  stripes-included e (Copy d i) rs ss = included-same _
  stripes-included e (Addw d i o) rs ss = included-either (sum_fits (range_of rs i) (operand_range rs o)) _ (sum-included d i o ss)
  stripes-included e (Subw d i o) rs ss = included-either (difference_fits (range_of rs i) (operand_range rs o)) _ (difference-included d i o ss)
  stripes-included e (Mulw d i o) rs ss = included-either (product_fits (range_of rs i) (operand_range rs o)) _ (product-included d i o ss)
  stripes-included e (Divf d i o) rs ss = included-same _
  stripes-included e (Load d w b a i k) rs ss = included-same _
  stripes-included e (Stor v w a i k) rs ss = included-same _
  stripes-included e (Jump t) rs ss = included-same _
  stripes-included Next (Bltu i t o) rs ss = included-same _
  stripes-included (Target u) (Bltu i t o) rs ss = included-same _
  stripes-included Next (Bequ i t o) rs ss = included-same _
  stripes-included (Target u) (Bequ i t o) rs ss = included-same _
  stripes-included e (Divm q i r o) rs ss = included-same _

  -- what is owed

  module _ (ps : List Point) (limited : All PointLimited ps) where
    -- a point past the last has no claims
    at-point : (l p : ℕ) (rs : List Range) {ss ts : List Stripe} → Included ss ts
        → claims_judged l (record { ranges = rs; stripes = ss }) (point_at ps p) ≡ accepted → claims_judged l (record { ranges = rs; stripes = ts }) (point_at ps p) ≡ accepted
    at-point l p rs {ss} {ts} more e = go (dec_lt p (length ps))
      where
        go : Dec (p < length ps) → claims_judged l (record { ranges = rs; stripes = ts }) (point_at ps p) ≡ accepted
        go (yes inside) =
            let lim : PointLimited (point_at ps p) = all-at PointLimited ps _ p inside limited in
            claims-kept rs ss ts more l (point_at ps p) (omega (arith, lim.before)) e
        go (no past) =
            let none : point_at ps p ≡ record { line = 0; claims = []; instruction = Stop } = get_or-eq_default ps _ (omega arith) in
            no-claims l (record { ranges = rs; stripes = ts }) (point_at ps p) (ap (λ (q : Point). q.claims) none)

    edges-kept : (p : ℕ) (q : Point) (es : List Edge) → edges_judged L ps p q es ≡ accepted → edges_judged M ps p q es ≡ accepted
    unfolding facts_along
    edges-kept p q [] e = e
    edges-kept p q (x ∷ es) e =
        let (first, rest) = both-accepted (claims_judged q.line (facts_along L x q.instruction (facts_of q.claims)) (point_at ps (leads_to p x))) _ e in
        accepted-both _ _ (at-point q.line (leads_to p x) _ (stripes-included x q.instruction (facts_of q.claims).ranges (facts_of q.claims).stripes) first) (edges-kept p q es rest)

    owed-kept : (p : ℕ) (q : Point) → owed_judged L ps p q ≡ accepted → owed_judged M ps p q ≡ accepted
    unfolding owed_judged
    owed-kept p q e =
        let (safe, rest) = both-accepted (safety_judged q.line (facts_of q.claims) q.instruction) _ e in
        accepted-both _ _ safe (edges-kept p q (edges q.instruction) rest)

    point-kept : (p : ℕ) (q : Point) → point_judged L ps p q ≡ accepted → point_judged M ps p q ≡ accepted
    unfolding point_judged
    point-kept p q e = go (is_empty q) e
      where
        go : (b : Bool) → cond b accepted (owed_judged L ps p q) ≡ accepted → cond b accepted (owed_judged M ps p q) ≡ accepted
        go true t = refl
        go false t = owed-kept p q t

    points_kept : (n : ℕ) → points_judged L ps n ≡ accepted → points_judged M ps n ≡ accepted
    unfolding points_judged
    points_kept zero e = refl
    points_kept (suc n) e =
        let (before, last) = both-accepted (points_judged L ps n) _ e in
        accepted-both _ _ (points_kept n before) (point-kept n (point_at ps n) last)

  -- runs

  runs-kept : (l : List ℕ) (ps : List Point) → listing_within L l ≡ read_as ps → listing_within M l ≡ read_as ps → points_judged L ps (length ps) ≡ accepted → points_judged M ps (length ps) ≡ accepted
      → (s : State) (t : Tables) (budget : ℕ) → run_within M l s t budget ≡ run_within L l s t budget
  unfolding run_within run_judged_within
  runs-kept l ps u v j k s t budget = rw (u, v, j, k) refl

wider-today : Wider earlier today
wider-today = record { scale = omega arith; bound = omega arith }

-- the promise of T-07
pub earlier-passes-stand : EarlierPassesStand
unfolding check_within
earlier-passes-stand l points e = go (listing_within earlier l) refl e
  where
    go : (x : Listing) → listing_within earlier l ≡ x → verdict_within earlier x ≡ Ok points → PassesAlike l points
    go (refused_listing r) q v = let z : ◌≡◌ {A = ℕ} 0 1 = cc in absurd (omega arith)
    go (read_as ps) q v =
        let read : listing_within today l ≡ read_as ps = listing-kept earlier today wider-today l ps q in
        let j : points_judged earlier ps (length ps) ≡ accepted = verdict-accepted (length ps) points _ v in
        let k : points_judged today ps (length ps) ≡ accepted = points_kept earlier today wider-today ps (well-formed l ps read).limited (length ps) j in
        record {
          passes = rw read (ap (verdict_from (length ps)) (k ∙ sym j) ∙ v);
          read = read ∙ sym q;
          runs = runs-kept earlier today wider-today l ps q read j k;
        }
