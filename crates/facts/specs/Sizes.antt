-- The sizes that keep the arithmetic of a goal within 64 bits, so that no sum or product is tested while links are tried.
use Rattle.std.specs.Prelude.{ℕ, ◌+◌, ◌*◌, ◌^◌, ◌≤◌, ◌<◌}
use Rattle.model.specs.declared.claims.Stripe.{Stripe}
use Rattle.model.specs.Limits.{greatest_scale, greatest_links}

-- the greatest plus or minus of a stripe that stands, 2 to the 47th: twice the greatest bound
abbrev pub greatest_part : ℕ
greatest_part = 140737488355328

-- the most that one link adds to a part of a goal: the greatest scale times the greatest part
abbrev pub greatest_step : ℕ
greatest_step = greatest_scale * greatest_part

-- a part of a goal never grows past this: one at the start and what three links add
abbrev pub greatest_sum : ℕ
greatest_sum = greatest_part + greatest_links * greatest_step

-- as a promise: every sum that a test of a goal compares, of a part of the goal and what is set beside it, stays below 2 to the 61st
abbrev pub SumsBelow : Type 0
SumsBelow = (p q : ℕ) → p ≤ greatest_sum → q ≤ greatest_part → p + q < 2 ^ 61

-- the stripes along an edge: those of a point and what its instruction adds
abbrev pub edge_stripes : ℕ
edge_stripes = 10

-- the parts of a stripe that stands, or of a goal at the start
pub record Small (s : Stripe) : Type 0 where
  pub plus : s.plus ≤ greatest_part
  pub minus : s.minus ≤ greatest_part

-- the scale of a goal is within its limits, and its parts leave room for n more links
pub record Room (n : ℕ) (g : Stripe) : Type 0 where
  pub scale : g.a ≤ greatest_scale
  pub plus : g.plus + n * greatest_step ≤ greatest_sum
  pub minus : g.minus + n * greatest_step ≤ greatest_sum
