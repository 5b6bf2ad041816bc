-- The lines are read, then judged as a whole. Assumes nothing.
use Prim.Native.Nat.{◌/◌}
use mathlib.Core.Path.{refl, sym, ◌∙◌}
use lib.ListN.{length}
use Rattle.model.specs.Limits.{line_bytes, today}
use Rattle.model.specs.Listing.{read_to}
use Rattle.std.proofs.lemmas.Result.{err_from_is_err_and}
use Rattle.reader.proofs.ReadListing.{all_read, stands-turned, stands-refused, stands-going, listing-good, listing-bad, good-lines}
use Rattle.reader.proofs.listing.read_listing.Goals as goal

pub returns-then-not-is_good_length : goal.returns-then-not-is_good_length
returns-then-not-is_good_length c = rw (listing-bad _ (sym c.if-not-is_good_length.ensures)) refl

pub read_lines-requires-clause-n_le_greatest_lines : goal.read_lines-requires-clause-n_le_greatest_lines
read_lines-requires-clause-n_le_greatest_lines c =
    let g = good-lines _ (sym c.if-not-is_good_length.ensures) in
    (g.few, g.whole)

pub read_lines-requires-clause-n_in_bounds : goal.read_lines-requires-clause-n_in_bounds
read_lines-requires-clause-n_in_bounds c =
    let g = good-lines _ (sym c.if-not-is_good_length.ensures) in
    c.requires g.short

pub whole_judged-requires : goal.whole_judged-requires
whole_judged-requires c =
    let g = good-lines _ (sym c.if-not-is_good_length.ensures) in
    let s = c.args.listing.now in
    all_read _ _ _ (read_to today s (length s / line_bytes)) _ c.read_lines.ensures.scanned_so (sym c.read_lines.ensures.value ∙ c.in_ok-q.was) g.some

pub returns-in_err-q : goal.returns-in_err-q
returns-in_err-q c =
    let good = sym c.if-not-is_good_length.ensures in
    let p = err_from_is_err_and c.from_residual.result c.from_residual.ensures.1 in
    rw (p.1, p.2) (stands-turned _ _ (listing-good _ good) _ _ _ (sym c.read_lines.ensures.value ∙ c.in_err-q.was))

pub returns-in_err-whole_judged : goal.returns-in_err-whole_judged
returns-in_err-whole_judged c =
    let good = sym c.if-not-is_good_length.ensures in
    let p = err_from_is_err_and c.from_residual-in_err-whole_judged.result c.from_residual-in_err-whole_judged.ensures.1 in
    rw (p.1, p.2) (stands-refused _ _ (listing-good _ good) _ _ _ c.read_lines.ensures.scanned_so (sym c.read_lines.ensures.value ∙ c.in_ok-q.was) _ c.whole_judged.ensures _ c.in_err-whole_judged.was)

pub returns : goal.returns
returns c =
    let good = sym c.if-not-is_good_length.ensures in
    stands-going _ _ (listing-good _ good) _ _ _ c.read_lines.ensures.scanned_so (sym c.read_lines.ensures.value ∙ c.in_ok-q.was) _ c.whole_judged.ensures _ c.in_ok-whole_judged.was
