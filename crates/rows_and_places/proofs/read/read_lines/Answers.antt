-- The loop keeps what was read, the rows and the places equal to the definitions. Assumes nothing.
use Prim.Native.Nat.{◌+◌}
use mathlib.Core.Path.{◌≡◌, refl, sym, ap, ◌∙◌}
use native.Mathlib.Omega.{arith}
use native.Mathlib.Numerals.{add-one}
use lib.ListN.{length, length-set}
use borrow.Author.Rules.{rules}
use Rattle.std.proofs.lemmas.Result.{err_from_is_err_and}
use Rattle.model.specs.Limits.{greatest_points}
use Rattle.model.specs.Listing.{read_to}
use Rattle.scan.specs.Scan.{progress_of}
use Rattle.rows_and_places.proofs.RowsAndPlaces.{scanned-none, by-line, by-order, going-on, scanned}
use Rattle.rows_and_places.proofs.read.read_lines.Goals as goal

pub loop-k-init : goal.loop-k-init
unfolding read_to
loop-k-init c = record { long = refl; scanned = scanned-none _ _; scan = c.new-scan.ensures }

pub returns-in_err-row-clause-value : goal.returns-in_err-row-clause-value
returns-in_err-row-clause-value c =
    let p = err_from_is_err_and c.from_residual.result c.from_residual.ensures.1 in
    rw (p.1, p.2) (sym (ap progress_of (by-line _ _ _ _ c.loop-k-test.true c.loop-k.invariant.scan _ c.in_err-row.ensures)))

pub returns-in_err-row-clause-scanned_so : goal.returns-in_err-row-clause-scanned_so
returns-in_err-row-clause-scanned_so c = rw (by-line _ _ _ _ c.loop-k-test.true c.loop-k.invariant.scan _ c.in_err-row.ensures) tt

pub returns-in_err-next-clause-value : goal.returns-in_err-next-clause-value
returns-in_err-next-clause-value c =
    let p = err_from_is_err_and c.from_residual-in_err-next.result c.from_residual-in_err-next.ensures.1 in
    rw (p.1, p.2) (sym (ap progress_of (by-order _ _ _ _ c.loop-k-test.true c.loop-k.invariant.scan _ _ c.in_ok-row.ensures c.order_of-order.ensures _ c.in_err-next.ensures)))

pub returns-in_err-next-clause-scanned_so : goal.returns-in_err-next-clause-scanned_so
returns-in_err-next-clause-scanned_so c =
    rw (by-order _ _ _ _ c.loop-k-test.true c.loop-k.invariant.scan _ _ c.in_ok-row.ensures c.order_of-order.ensures _ c.in_err-next.ensures) tt

pub loop-k-preserved : goal.loop-k-preserved
loop-k-preserved c =
    let l = c.loop-k in
    let i = l.invariant in
    let g : length l.at ≡ greatest_points + 1 = search rules in
    record {
      long = length-set _ _ _ ∙ i.long;
      scanned = rw add-one (scanned _ _ _ _ c.loop-k-test.true i.scan _ _ c.in_ok-row.ensures c.order_of-order.ensures _ _ _ c.note.ensures (omega arith) (omega arith) g i.scanned);
      scan = rw add-one (going-on _ _ _ _ c.loop-k-test.true i.scan _ _ c.in_ok-row.ensures c.order_of-order.ensures _ c.in_ok-next.ensures);
    }
