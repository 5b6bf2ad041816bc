-- Rows and places hold what is read, one line more at a time. Assumes nothing.
use mathlib.Core.Path.{◌≡◌, refl, sym, ap, ap₂, ◌∙◌}
use mathlib.Core.Bool.{true}
use mathlib.Core.List.{List, [], ◌∷◌, ◌++◌}
use Prim.Native.Nat.{ℕ, zero, suc, ◌+◌, ◌*◌, ◌-◌, ◌≤◌, ◌<◌}
use native.Mathlib.Nat.{add-zero, not-suc-le-zero}
use native.Mathlib.Omega.{arith}
use native.Mathlib.Numerals.{add-one}
use native.Mathlib.Decide.{ℕ_discrete, dec_le}
use lib.ListN.{length, set, length-append, length-set, take, drop, get_or-append}
use lib.Seq.{get_or-set_same, get_or-set_other, get_or_at}
use lib.Dec.{leb}
use borrow.Author.Tests.{le-leb, lt-leb, leb-true}
use Rattle.std.specs.Prelude.{Option, Ok, Err}
use Rattle.model.specs.declared.machine.Instruction.{Instruction}
use Rattle.model.specs.declared.claims.Claim.{Claim}
use Rattle.model.specs.declared.claims.Line.{Line}
use Rattle.model.specs.declared.claims.Line.TheVariants.{Refused as refused_line, Claim as claim_line, Instruction as instruction_line}
use Rattle.model.specs.declared.answers.Refusal.{Refusal}
use Rattle.model.specs.declared.answers.Refusal.TheVariants.{ClaimOrder}
use Rattle.model.specs.Limits.{line_bytes, greatest_points, greatest_stripes, greatest_lines, today}
use Rattle.model.specs.Limited.{Limited, ClaimLimited, LineLimited}
use Rattle.model.specs.Lines.{read_line}
use Rattle.model.specs.Listing.{Point, line_at, point_at, may_follow_all, stripes_among, in_order, Reading, going, refused_reading, after_line, read_to}
use Rattle.model.proofs.Tests.{and_right, cond_cases}
use Rattle.model.proofs.Limited.{read-limited}
use Rattle.line_rows.specs.declared.rows.Row.{Row}
use Rattle.line_rows.specs.Rows.{blank, row_at}
use Rattle.decoded.specs.Decoded.{instruction_from, claim_from, claims_from, line_of_row}
use Rattle.decoded.proofs.Claims.{claim-held, instruction-held, row-taken, claims-next, claims-kept}
use Rattle.scan.specs.declared.Order.{Order}
use Rattle.scan.specs.declared.Scan.{Scan}
use Rattle.scan.specs.Scan.{order_on, scan_of, progress_of, after_scan}
use Rattle.scan.proofs.LineOrder.{stripes-cons, stripes-snoc, after_same}
use Rattle.rows_and_places.specs.declared.places.Place.{Place}
use Rattle.rows_and_places.specs.Points.{no_place, place_in, line_in, number_in, point_on, ClaimRows, PointRows}
use Rattle.rows_and_places.specs.Read.{noted, HoldsPoint, Scanned, ScannedSo}

-- the k-th line, read
abbrev pub line_read : List ℕ → ℕ → Line
line_read s k = read_line today (k + 1) (line_at s k)

-- what is written in row n leaves the rows before it
module _ (rows : List Row) (n : ℕ) (r : Row) where
  row_other : (i : ℕ) → (i ≡ n → ⊥) → row_at (set rows n r) i ≡ row_at rows i
  row_other i d = get_or-set_other rows n i r blank d

  claims-stay : (from m : ℕ) → from + m ≤ n → ClaimRows rows from m → ClaimRows (set rows n r) from m
  claims-stay from m h c = record {
    long = rw (length-set rows n r) c.long;
    few = rw (claims-kept rows from n r m h) c.few;
    limited = λ j b. rw (row_other (from + j) (λ e. omega arith)) (c.limited j b);
  }

  point-stays : (line m : ℕ) → line ≤ n → PointRows rows line m → PointRows (set rows n r) line m
  point-stays line m h q =
      let b = q.before in
      record {
        before = q.before;
        last = q.last;
        long = rw (length-set rows n r) q.long;
        limited = rw (row_other (line - 1) (λ e. omega arith)) q.limited;
        claims = claims-stay (line - m - 1) m (omega arith) q.claims;
      }

  point-same : (line m : ℕ) → m < line → line ≤ n → point_on (set rows n r) line m ≡ point_on rows line m
  point-same line m b h = rw (claims-kept rows (line - m - 1) n r m (omega arith), row_other (line - 1) (λ e. omega arith))

-- one claim more
module _ (rows : List Row) (n m : ℕ) (r : Row) (c : Claim) (inside : m ≤ n) (room : n < length rows) (is : claim_from r ≡ c) where
  here : n - m + m ≡ n
  here = omega arith

  claim-there : claim_from (row_at (set rows n r) (n - m + m)) ≡ c
  claim-there = rw (here, get_or-set_same rows n r blank room) is

  claims-more : claims_from (set rows n r) (n - m) (suc m) ≡ claims_from rows (n - m) m ++ (c ∷ [])
  claims-more = claims-next (set rows n r) (n - m) m ∙ ap₂ (λ (cs : List Claim) (x : Claim). cs ++ (x ∷ [])) (claims-kept rows (n - m) n r m (omega arith)) claim-there

  claim-rows : ClaimRows rows (n - m) m → ClaimLimited c → stripes_among (claims_from rows (n - m) m ++ (c ∷ [])) ≤ greatest_stripes → ClaimRows (set rows n r) (n - m) (suc m)
  claim-rows h l few = record {
    long = rw (length-set rows n r) (omega arith);
    few = rw claims-more few;
    limited = λ j b. at j b (ℕ_discrete j m);
  }
    where
      at : (j : ℕ) → j < suc m → Dec (j ≡ m) → ClaimLimited (claim_from (row_at (set rows n r) (n - m + j)))
      at j b (yes e) = rw (e, claim-there) l
      at j b (no e) = rw (row_other rows n r (n - m + j) (λ x. omega arith)) (h.limited j (omega arith))

-- a point that is held stays so, where its place is the same
point-later : (rows : List Row) (at at' : List Place) (n p : ℕ) (r : Row) (q : Point) → place_in at' p ≡ place_in at p → HoldsPoint rows at n p q → HoldsPoint (set rows n r) at' (suc n) p q
point-later rows at at' n p r q e h =
    let l = h.line in
    let a : line_in at' p ≡ line_in at p = ap (λ (x : Place). x.line) e in
    let b : number_in at' p ≡ number_in at p = ap (λ (x : Place). x.claims) e in
    record {
      placed = record { few = h.placed.few; point = rw (a, b) (point-stays rows n r (line_in at p) (number_in at p) h.line h.placed.point) };
      line = rw a (omega arith);
      is = rw (a, b) (point-same rows n r (line_in at p) (number_in at p) h.placed.point.before h.line ∙ h.is);
    }

module _ (rows : List Row) (at : List Place) (n : ℕ) (r : Row) (room : n < length rows) (short : n < greatest_lines) (long : length at ≡ greatest_points + 1)
    (ps : List Point) (cs : List Claim) (h : Scanned rows at n ps cs) where
  -- a claim more
  claim-more : (c : Claim) → line_of_row r ≡ claim_line c → ClaimLimited c → stripes_among (cs ++ (c ∷ [])) ≤ greatest_stripes → Scanned (set rows n r) at (suc n) ps (cs ++ (c ∷ []))
  claim-more c e l few =
      let a = h.claims in
      let more : length (cs ++ (c ∷ [])) ≡ suc (length cs) = length-append cs (c ∷ []) ∙ add-one (length cs) in
      let from : suc n - suc (length cs) ≡ n - length cs = omega arith in
      let is = claim-held r c e in
      record {
        points = let p = h.points in omega arith;
        claims = omega arith;
        some = λ z. omega arith;
        waiting = rw (more, from) (claim-rows rows n (length cs) r c a room is h.waiting l (rw h.gathered few));
        gathered = rw (more, from) (claims-more rows n (length cs) r c a room is ∙ ap (λ (x : List Claim). x ++ (c ∷ [])) h.gathered);
        each = λ p k b. point-later rows at at n p r (point_at ps p) refl (h.each p k b);
      }

  -- an instruction more
  module _ (i : Instruction) (e : line_of_row r ≡ instruction_line i) (l : Limited i) where
    abbrev q : Point
    q = record { line = n + 1; claims = cs; instruction = i }

    abbrev place : Place
    place = record { line = n + 1; claims = length cs }

    last : point_at (ps ++ (q ∷ [])) (length ps) ≡ q
    last = get_or_at ps q [] _ (length ps) refl

    old : (p : ℕ) → p < length ps → point_at (ps ++ (q ∷ [])) p ≡ point_at ps p
    old p k = get_or-append ps (q ∷ []) _ p k

    inside : (p : ℕ) → p < length (ps ++ (q ∷ [])) → (p ≡ length ps → ⊥) → p < length ps
    inside p k o = omega (arith, length-append ps (q ∷ []))

    from : n + 1 - length cs - 1 ≡ n - length cs
    from = omega arith

    own : n + 1 - 1 ≡ n
    own = omega arith

    there : instruction_from (row_at (set rows n r) (n + 1 - 1)) ≡ i
    there = rw (own, get_or-set_same rows n r blank room) (instruction-held r i e)

    stay : ClaimRows (set rows n r) (n - length cs) (length cs)
    stay = let a = h.claims in claims-stay rows n r (n - length cs) (length cs) (omega arith) h.waiting

    new-rows : PointRows (set rows n r) (n + 1) (length cs)
    new-rows =
        let a = h.claims in
        record { before = omega arith; last = omega arith; long = rw (length-set rows n r) (omega arith); limited = rw there l; claims = rw from stay }

    new-point : point_on (set rows n r) (n + 1) (length cs) ≡ q
    new-point = let a = h.claims in rw (from, there, claims-kept rows (n - length cs) n r (length cs) (omega arith), h.gathered)

    module _ (at' : List Place) (same : (p : ℕ) → (p ≡ length ps → ⊥) → place_in at' p ≡ place_in at p) (new : length ps ≤ greatest_points → place_in at' (length ps) ≡ place) where
      new-held : length ps ≤ greatest_points → HoldsPoint (set rows n r) at' (suc n) (length ps) q
      new-held few =
          let a : line_in at' (length ps) ≡ n + 1 = ap (λ (x : Place). x.line) (new few) in
          let b : number_in at' (length ps) ≡ length cs = ap (λ (x : Place). x.claims) (new few) in
          record { placed = record { few = few; point = rw (a, b) new-rows }; line = rw a (omega arith); is = rw (a, b) new-point }

      held : (p : ℕ) → p < length (ps ++ (q ∷ [])) → p ≤ greatest_points → Dec (p ≡ length ps) → HoldsPoint (set rows n r) at' (suc n) p (point_at (ps ++ (q ∷ [])) p)
      held p k b (yes x) = rw (x, last) (new-held (rw x at b))
      held p k b (no x) = rw (old p (inside p k x)) (point-later rows at at' n p r (point_at ps p) (same p x) (h.each p (inside p k x) b))

      point-more : Scanned (set rows n r) at' (suc n) (ps ++ (q ∷ [])) []
      unfolding claims_from
      point-more = record {
        points = let p = h.points in omega (arith, length-append ps (q ∷ []));
        claims = omega arith;
        some = λ z. omega (arith, length-append ps (q ∷ []));
        waiting = record { long = rw (length-set rows n r) (omega arith); few = omega arith; limited = λ j b. absurd (not-suc-le-zero b) };
        gathered = refl;
        each = λ p k b. held p k b (ℕ_discrete p (length ps));
      }

    point-noted : Dec (length ps ≤ greatest_points) → Scanned (set rows n r) (noted at (scan_of ps cs) n (order_on (instruction_line i))) (suc n) (ps ++ (q ∷ [])) []
    point-noted (yes few) =
        rw (le-leb (length ps) greatest_points few)
        (point-more (set at (length ps) place) (λ p x. get_or-set_other at (length ps) p place no_place x) (λ z. get_or-set_same at (length ps) place no_place (omega arith)))
    point-noted (no many) =
        let more : greatest_points < length ps = omega arith in
        rw (lt-leb (length ps) greatest_points more) (point-more at (λ p x. refl) (λ z. absurd (many z)))

-- one line more
scanned-next : (rows : List Row) (at : List Place) (n : ℕ) (ps : List Point) (cs : List Claim) (l : Line) (r : Row) → line_of_row r ≡ l → LineLimited l → n < length rows → n < greatest_lines → length at ≡ greatest_points + 1
    → Scanned rows at n ps cs → ScannedSo (set rows n r) (noted at (scan_of ps cs) n (order_on l)) (suc n) (after_line (going ps cs) n l)
scanned-next rows at n ps cs (refused_line x) r e t room short long h = tt
scanned-next rows at n ps cs (claim_line c) r e t room short long h =
    cond_cases (ScannedSo (set rows n r) at (suc n)) (in_order n cs c) (going ps (cs ++ (c ∷ []))) (refused_reading (ClaimOrder (n + 1)))
    (λ z. claim-more rows at n r room short long ps cs h c e t (few z)) (λ z. tt)
  where
    few : in_order n cs c ≡ true → stripes_among (cs ++ (c ∷ [])) ≤ greatest_stripes
    few z = omega (arith, leb-true (stripes_among (c ∷ cs)) greatest_stripes (and_right (may_follow_all n cs c) (leb (stripes_among (c ∷ cs)) greatest_stripes) z), stripes-cons c cs, stripes-snoc cs c)
scanned-next rows at n ps cs (instruction_line i) r e t room short long h = point-noted rows at n r room short long ps cs h i e t (dec_le (length ps) greatest_points)

-- before the first line
pub scanned-none : (rows : List Row) (at : List Place) → Scanned rows at 0 [] []
unfolding claims_from
scanned-none rows at = record {
  points = omega arith;
  claims = omega arith;
  some = λ z. absurd (not-suc-le-zero z);
  waiting = record { long = omega arith; few = omega arith; limited = λ j b. absurd (not-suc-le-zero b) };
  gathered = refl;
  each = λ p k b. absurd (not-suc-le-zero k);
}

module _ (s : List ℕ) (n : ℕ) where
  read_next : read_to today s (suc n) ≡ after_line (read_to today s n) n (line_read s n)
  unfolding read_to
  read_next = refl

  -- one row more
  module _ (r : Row) (q : Scan) (is : Ok q ≡ progress_of (read_to today s n)) (own : line_of_row r ≡ line_read s n) where
    progress-next : progress_of (read_to today s (suc n)) ≡ after_scan (Ok q) n (order_on (line_of_row r))
    progress-next = rw (read_next, is, ← own) (after_same (read_to today s n) n (line_of_row r) (row-taken r))

    next-of : (x : Reading) → x ≡ read_to today s n → (rows : List Row) (at : List Place) → n < length rows → n < greatest_lines → length at ≡ greatest_points + 1
        → ScannedSo rows at n x → ScannedSo (set rows n r) (noted at q n (order_on (line_of_row r))) (suc n) (after_line x n (line_read s n))
    next-of (refused_reading e) f rows at room short long h = tt
    next-of (going ps cs) f rows at room short long h =
        let same : Ok q ≡ progress_of (going ps cs) = is ∙ ap progress_of (sym f) in
        let scan : q ≡ scan_of ps cs = cc in
        rw (scan, own) (scanned-next rows at n ps cs (line_read s n) r own (read-limited (n + 1) (line_at s n)) room short long h)

    lines_next : (rows : List Row) (at : List Place) → n < length rows → n < greatest_lines → length at ≡ greatest_points + 1
        → ScannedSo rows at n (read_to today s n) → ScannedSo (set rows n r) (noted at q n (order_on (line_of_row r))) (suc n) (read_to today s (suc n))
    lines_next rows at room short long h = rw read_next (next-of (read_to today s n) refl rows at room short long h)

  -- a line that is turned back
  turned-by : (x : Reading) (q : Scan) (e : Refusal) → Ok q ≡ progress_of x → progress_of (after_line x n (refused_line e)) ≡ Err e
  turned-by (going ps cs) q e is = refl
  turned-by (refused_reading f) q e is = cc

  line-turned : (q : Scan) (e : Refusal) → Ok q ≡ progress_of (read_to today s n) → line_read s n ≡ refused_line e → progress_of (read_to today s (suc n)) ≡ Err e
  line-turned q e is own = rw (read_next, own) (turned-by (read_to today s n) q e is)

-- a reading that is turned back stays so
turned-is : (x : Reading) (r : Refusal) → progress_of x ≡ Err r → x ≡ refused_reading r
turned-is (refused_reading q) r e = let same : q ≡ r = cc in ap refused_reading same
turned-is (going ps cs) r e = cc

turned-stays : (s : List ℕ) (k : ℕ) (r : Refusal) → read_to today s k ≡ refused_reading r → (d : ℕ) → read_to today s (k + d) ≡ refused_reading r
turned-stays s k r e zero = ap (read_to today s) (add-zero k) ∙ e
turned-stays s k r e (suc d) =
    let more : k + suc d ≡ suc (k + d) = omega arith in
    ap (read_to today s) more ∙ read_next s (k + d) ∙ ap (λ (x : Reading). after_line x (k + d) (line_read s (k + d))) (turned-stays s k r e d)

-- where the first k of n lines are turned back, so are all
turned-back : (s : List ℕ) (k n : ℕ) (r : Refusal) → k ≤ n → progress_of (read_to today s k) ≡ Err r → read_to today s n ≡ refused_reading r
turned-back s k n r h e =
    let whole : k + (n - k) ≡ n = omega arith in
    ap (read_to today s) (sym whole) ∙ turned-stays s k r (turned-is (read_to today s k) r e) (n - k)

-- the bytes that the code cuts out are the line
abbrev pub cut : List ℕ → ℕ → List ℕ
cut s k = take (k * line_bytes + line_bytes - k * line_bytes) (drop (k * line_bytes) s)

line-cut : (s : List ℕ) (k : ℕ) → cut s k ≡ line_at s k
line-cut s k = rw long
  where
    long : k * line_bytes + line_bytes - k * line_bytes ≡ line_bytes
    long = omega arith

-- the k-th of n lines, where the reading has gone on so far
module _ (s : List ℕ) (k n : ℕ) (q : Scan) (few : k < n) (is : Ok q ≡ progress_of (read_to today s k)) where
  pub by-line : (e : Refusal) → read_line today (k + 1) (cut s k) ≡ refused_line e → read_to today s n ≡ refused_reading e
  by-line e own = turned-back s (suc k) n e (omega arith) (line-turned s k q e is (ap (read_line today (k + 1)) (sym (line-cut s k)) ∙ own))

  module _ (r : Row) (o : Option Order) (read : line_of_row r ≡ read_line today (k + 1) (cut s k)) (order : o ≡ order_on (line_of_row r)) where
    next : progress_of (read_to today s (suc k)) ≡ after_scan (Ok q) k o
    next = rw order (progress-next s k r q is (read ∙ ap (read_line today (k + 1)) (line-cut s k)))

    pub by-order : (e : Refusal) → Err e ≡ after_scan (Ok q) k o → read_to today s n ≡ refused_reading e
    by-order e f = turned-back s (suc k) n e (omega arith) (next ∙ sym f)

    pub going-on : (p : Scan) → Ok p ≡ after_scan (Ok q) k o → Ok p ≡ progress_of (read_to today s (suc k))
    going-on p f = f ∙ sym next

    pub scanned : (rows : List Row) (at at' : List Place) → at' ≡ noted at q k o → k < length rows → k < greatest_lines → length at ≡ greatest_points + 1
        → ScannedSo rows at k (read_to today s k) → ScannedSo (set rows k r) at' (suc k) (read_to today s (suc k))
    scanned rows at at' f room short long h = rw (f, order) (lines_next s k r q is (read ∙ ap (read_line today (k + 1)) (line-cut s k)) rows at room short long h)
