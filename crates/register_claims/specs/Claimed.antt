-- What the claims of a point say of one register: its range, claim by claim.
use Rattle.std.specs.Prelude.{ℕ, cond, eqb}
use Rattle.model.specs.declared.claims.Range.{Range}
use Rattle.model.specs.declared.claims.Claim.{Claim}
use Rattle.model.specs.declared.claims.Claim.TheVariants.{Leas, Most, Strp, Turn}
use Rattle.model.specs.Facts.{between}

-- the range of a variable after one claim more
abbrev pub range_after : Claim → ℕ → Range → Range
range_after (Leas u n) v r = cond (eqb u v) (between n r.hi) r
range_after (Most u n) v r = cond (eqb u v) (between r.lo n) r
range_after (Strp s) v r = r
range_after (Turn q) v r = r
