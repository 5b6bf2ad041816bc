-- The ranges along an edge have high ends that are values of a register. Assumes nothing.
use mathlib.Core.Path.{◌≡◌, ap, sym, subst, ◌∙◌}
use mathlib.Core.Bool.{cond}
use mathlib.Core.List.{List}
use Prim.Native.Nat.{ℕ, ◌+◌, ◌*◌, ◌-◌, ◌^◌, ◌≤◌, ◌<◌, min, max}
use native.Mathlib.Nat.{le-max_right}
use native.Mathlib.Decide.{ℕ_discrete, dec_lt}
use native.Mathlib.Omega.{arith}
use lib.ListN.{length, set}
use lib.Seq.{get_or-set_same, get_or-set_other, set_out}
use lib.Dec.{leb, eqb}
use borrow.Author.Tests.{leb-true, eqb-true}
use Rattle.model.specs.declared.machine.Width.{Width}
use Rattle.model.specs.declared.machine.Width.TheVariants.{One, Two, Four}
use Rattle.model.specs.declared.machine.Operand.{Operand}
use Rattle.model.specs.declared.machine.Operand.TheVariants.{Variable, Number}
use Rattle.model.specs.declared.machine.Instruction.{Instruction}
use Rattle.model.specs.declared.machine.Instruction.TheVariants.{Stop, Setc, Copy, Addw, Subw, Mulw, Divf, Load, Stor, Jump, Bltu, Bequ, Divm}
use Rattle.model.specs.declared.machine.Edge.{Edge}
use Rattle.model.specs.declared.machine.Edge.TheVariants.{Next, Target}
use Rattle.model.specs.declared.claims.Range.{Range}
use Rattle.model.specs.Limits.{MAX}
use Rattle.model.specs.Facts.{between, exactly, register_range, range_of, hi}
use Rattle.model.specs.Machine.{bytes_of}
use Rattle.model.specs.Transfer.{nothing, operand_range, sum_fits, sum_range, difference_fits, difference_range, product_fits, product_range, nearest_range, quotient_range, below, at_least, at_most, overlap, without, has_one_value, changed, operand_changed, ranges_along}
use Rattle.model.proofs.Tests.{cond_cases}
use Rattle.model.proofs.Values.{div-small, nearest-small}
use Rattle.model.specs.Limited.{Limited}

-- every high end is a value of a register
abbrev pub High : List Range → Type 0
High rs = (v : ℕ) → hi rs v ≤ MAX

-- one range set, whose high end is a value of a register
high-set : (rs : List Range) (v : ℕ) (r : Range) → High rs → r.hi ≤ MAX → High (set rs v r)
high-set rs v r all new u = go (dec_lt v (length rs)) (ℕ_discrete u v)
  where
    go : Dec (v < length rs) → Dec (u ≡ v) → hi (set rs v r) u ≤ MAX
    go (yes h) (yes e) = subst (λ (q : Range). q.hi ≤ MAX) (sym (ap (λ (k : ℕ). range_of (set rs v r) k) e ∙ get_or-set_same rs v r (exactly 0) h)) new
    go (yes h) (no n) = subst (λ (q : Range). q.hi ≤ MAX) (sym (get_or-set_other rs v u r (exactly 0) n)) (all u)
    go (no h) e = subst (λ (l : List Range). hi l u ≤ MAX) (sym (set_out rs v r (omega arith))) (all u)

-- the high end of each rule
abbrev Top : Range → Type 0
Top r = r.hi ≤ MAX

module _ (r q : Range) (h : Top r) where
  sum_top : Top (cond (sum_fits r q) (sum_range r q) register_range)
  sum_top = cond_cases Top (sum_fits r q) (sum_range r q) register_range (λ e. leb-true (r.hi + q.hi) MAX e) (λ e. omega arith)

  difference-top : Top (cond (difference_fits r q) (difference_range r q) register_range)
  difference-top =
      cond_cases Top (difference_fits r q) (difference_range r q) register_range
      (λ e. cond_cases Top (leb q.lo r.hi) (between (r.lo - q.hi) (r.hi - q.lo)) nothing (λ t. omega arith) (λ t. omega arith)) (λ e. omega arith)

  product-top : Top (cond (product_fits r q) (product_range r q) register_range)
  product-top = cond_cases Top (product_fits r q) (product_range r q) register_range (λ e. leb-true (r.hi * q.hi) MAX e) (λ e. omega arith)

  nearest-top : Top (nearest_range r q)
  nearest-top =
      cond_cases Top (eqb q.hi 0) nothing _ (λ e. omega arith)
      (λ e. nearest-small r.hi (max q.lo 1) MAX (le-max_right q.lo 1) h)

  quotient-top : Top (quotient_range r q)
  quotient-top =
      cond_cases Top (eqb q.hi 0) nothing _ (λ e. omega arith)
      (λ e. div-small r.hi (max q.lo 1) MAX (le-max_right q.lo 1) h)

loaded-top : (w : Width) → 256 ^ bytes_of w - 1 ≤ MAX
loaded-top One = omega arith
loaded-top Two = omega arith
loaded-top Four = omega arith

below_top : (e : ℕ) (r : Range) → Top r → Top (below e r)
below_top e r h = cond_cases Top (eqb e 0) nothing (between r.lo (min r.hi (e - 1))) (λ t. omega arith) (λ t. omega arith)

without-top : (c : ℕ) (r : Range) → Top r → Top (without c r)
without-top c r h = cond_cases (λ (n : ℕ). n ≤ MAX) (eqb r.hi c) (c - 1) r.hi (λ t. omega (arith, eqb-true r.hi c t)) (λ t. h)

changed-high : (v : ℕ) (f : Range → Range) (rs : List Range) → ((r : Range) → Top r → Top (f r)) → High rs → High (changed v f rs)
changed-high v f rs keeps h = high-set rs v (f (range_of rs v)) h (keeps (range_of rs v) (h v))

operand-high : (o : Operand) (f : Range → Range) (rs : List Range) → ((r : Range) → Top r → Top (f r)) → High rs → High (operand_changed o f rs)
operand-high (Variable v) f rs keeps h = changed-high v f rs keeps h
operand-high (Number c) f rs keeps h = h

pub along-high : (e : Edge) (i : Instruction) (rs : List Range) → Limited i → High rs → High (ranges_along e i rs)
unfolding ranges_along
along-high e Stop rs t h = h
along-high e (Setc d c) rs t h = high-set rs d _ h t.1
along-high e (Copy d i) rs t h = high-set rs d _ h (h i)
along-high e (Addw d i o) rs t h = high-set rs d _ h (sum_top (range_of rs i) (operand_range rs o) (h i))
along-high e (Subw d i o) rs t h = high-set rs d _ h (difference-top (range_of rs i) (operand_range rs o) (h i))
along-high e (Mulw d i o) rs t h = high-set rs d _ h (product-top (range_of rs i) (operand_range rs o) (h i))
along-high e (Divf d i o) rs t h = high-set rs d _ h (nearest-top (range_of rs i) (operand_range rs o) (h i))
along-high e (Load d w b a i k) rs t h = high-set rs d _ h (loaded-top w)
along-high e (Stor v w a i k) rs t h = h
along-high e (Jump t) rs l h = h
along-high Next (Bltu i t o) rs l h =
    operand-high o (at_most (range_of rs i).hi) _ (λ r k. omega arith) (changed-high i (at_least (operand_range rs o).lo) rs (λ r k. k) h)
along-high (Target u) (Bltu i t o) rs l h =
    operand-high o (at_least ((range_of rs i).lo + 1)) _ (λ r k. k) (changed-high i (below (operand_range rs o).hi) rs (below_top (operand_range rs o).hi) h)
along-high Next (Bequ i t o) rs l h =
    cond_cases High (has_one_value (operand_range rs o)) (changed i (without (operand_range rs o).lo) rs) rs
    (λ e. changed-high i (without (operand_range rs o).lo) rs (without-top (operand_range rs o).lo) h) (λ e. h)
along-high (Target u) (Bequ i t o) rs l h =
    operand-high o (overlap (range_of rs i)) _ (λ r k. omega arith) (changed-high i (overlap (operand_range rs o)) rs (λ r k. omega arith) h)
along-high e (Divm q i r o) rs t h =
    high-set (set rs q (quotient_range (range_of rs i) (operand_range rs o))) r _
    (high-set rs q _ h (quotient-top (range_of rs i) (operand_range rs o) (h i)))
    (below_top (operand_range rs o).hi (between 0 (range_of rs i).hi) (h i))
