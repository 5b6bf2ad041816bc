-- What is known along an edge is met after a step along it: each instruction's rule. Assumes nothing.
use mathlib.Core.Path.{◌≡◌, refl, ap, sym, ◌∙◌}
use mathlib.Core.Logic.{◌≢◌}
use mathlib.Core.Bool.{Bool, true, false, ◌&&◌, ◌||◌, not, cond}
use mathlib.Core.List.{List, ◌∷◌}
use Prim.Native.Nat.{ℕ, ◌+◌, ◌*◌, ◌-◌, ◌^◌, ◌≤◌, ◌<◌}
use native.Mathlib.Nat.{add-zero, mul_comm, mod-le, mod-lt}
use native.Mathlib.Omega.{arith}
use native.Mathlib.Decide.{ℕ_discrete}
use lib.ListN.{length, set, length-set}
use lib.Dec.{eqb, leb}
use borrow.Author.Tests.{leb-true, leb-false, eqb-true, eqb-false, not-true}
use Rattle.model.specs.Types.{Width, Table, Operand, variable, number, Setc, Copy, Addw, Subw, Mulw, Divf, Load, Bltu, Bequ, Divm, Edge, Next, Target, Range, Stripe}
use Rattle.model.specs.Limits.{MAX, variables, blank_variable, greatest_scale, today}
use Rattle.model.specs.Facts.{exactly, Facts, range_of, value_at}
use Rattle.model.specs.Machine.{operand_at, bytes_of, sum, difference, product, quotient, nearest_quotient, remainder}
use Rattle.model.specs.Transfer.{nothing, operand_range, sum_fits, difference_fits, product_fits, below, at_least, at_most, overlap, without, has_one_value, changed, operand_changed, dropped, quotient_range, remainder_range, stripe, apart, sum_stripes, difference_stripes, product_stripes, less_stripes, not_less_stripes, equal_stripes, facts_along}
use Rattle.model.proofs.Tests.{and_right, or-false, cond_cases}
use Rattle.model.proofs.Meaning.{InRange, InRanges, AllHold, Met}
use Rattle.model.proofs.Ranges.{OnlyAt, in-set, in-changed, blank-zero}
use Rattle.model.proofs.Stripes.{same-hold, apart-holds, dropped-hold, by_number-hold}
use Rattle.model.proofs.Values.{div-ends, nearest-ends, mul-ends}

module _ (vs : List ℕ) (f : Facts) (h : Met (value_at vs) f) where
  pub in-operand : (o : Operand) → InRange (operand_at vs o) (operand_range f.ranges o)
  in-operand (variable v) = h.ranges v
  in-operand (number c) = omega arith

  -- instructions that write a register
  module _ (vs' : List ℕ) (d : ℕ) (inside : d < length f.ranges) (same : OnlyAt d (value_at vs) (value_at vs')) (zero' : value_at vs' blank_variable ≡ 0) where
    written : (r : Range) (ss : List Stripe) → InRange (value_at vs' d) r → AllHold (value_at vs') ss → Met (value_at vs') (record { ranges = set f.ranges d r; stripes = ss })
    written r ss new hold = record { ranges = in-set (value_at vs) (value_at vs') f.ranges d r inside same new h.ranges; stripes = hold }

    dropped-met : AllHold (value_at vs') (dropped d f.stripes)
    dropped-met = dropped-hold d (value_at vs) (value_at vs') same f.stripes h.stripes

    -- the range and the stripes by one test
    chosen : (b : Bool) (r q : Range) (ss ts : List Stripe)
        → (b ≡ true → InRange (value_at vs' d) r) → (b ≡ true → AllHold (value_at vs') ss)
        → (b ≡ false → InRange (value_at vs' d) q) → (b ≡ false → AllHold (value_at vs') ts)
        → Met (value_at vs') (record { ranges = set f.ranges d (cond b r q); stripes = cond b ss ts })
    chosen true r q ss ts a b c e = written r ss (a refl) (b refl)
    chosen false r q ss ts a b c e = written q ts (c refl) (e refl)

    pub setc-met : (e : Edge) (c : ℕ) → value_at vs' d ≡ c → Met (value_at vs') (facts_along today e (Setc d c) f)
    unfolding facts_along
    setc-met e c q = written (exactly c) (dropped d f.stripes) (omega arith) dropped-met

    pub copy_met : (e : Edge) (i : ℕ) → value_at vs' d ≡ value_at vs i → Met (value_at vs') (facts_along today e (Copy d i) f)
    unfolding facts_along
    copy_met e i q =
        let r = h.ranges i in
        written (range_of f.ranges i) _ (omega arith)
        (cond_cases (AllHold (value_at vs')) (eqb d i) f.stripes (apart d i 0 0 ∷ apart i d 0 0 ∷ dropped d f.stripes)
        (λ t. same-hold (value_at vs) (value_at vs') (all_same (eqb-true d i t)) f.stripes h.stripes)
        (λ t.
        let s : value_at vs' i ≡ value_at vs i = same i (λ p. eqb-false d i t (sym p)) in
        (apart-holds (value_at vs') _ _ _ _ zero' (omega arith), (apart-holds (value_at vs') _ _ _ _ zero' (omega arith), dropped-met))))
      where
        all_same : d ≡ i → (v : ℕ) → value_at vs' v ≡ value_at vs v
        all_same p v = go (ℕ_discrete v d)
          where
            go : Dec (v ≡ d) → value_at vs' v ≡ value_at vs v
            go (yes n) = ap (value_at vs') n ∙ q ∙ ap (value_at vs) (sym p ∙ sym n)
            go (no n) = same v n

    sum-hold : (i : ℕ) (o : Operand) → value_at vs' d ≡ value_at vs i + operand_at vs o → AllHold (value_at vs') (sum_stripes today d i o f.stripes)
    sum-hold i (number c) q = by_number-hold d (value_at vs) (value_at vs') same i c 0 f.stripes zero' (omega arith) h.stripes
    sum-hold i (variable v) q =
        cond_cases (AllHold (value_at vs')) (eqb d i || eqb d v) (dropped d f.stripes) (stripe d 1 i v 0 0 ∷ dropped d f.stripes) (λ t. dropped-met)
        (λ t.
        let (ni, nv) = or-false (eqb d i) (eqb d v) t in
        let si : value_at vs' i ≡ value_at vs i = same i (λ p. eqb-false d i ni (sym p)) in
        let sv : value_at vs' v ≡ value_at vs v = same v (λ p. eqb-false d v nv (sym p)) in
        (omega arith, dropped-met))

    difference-hold : (i : ℕ) (o : Operand) → value_at vs' d + operand_at vs o ≡ value_at vs i → AllHold (value_at vs') (difference_stripes today d i o f.stripes)
    difference-hold i (number c) q = by_number-hold d (value_at vs) (value_at vs') same i 0 c f.stripes zero' (omega arith) h.stripes
    difference-hold i (variable v) q =
        cond_cases (AllHold (value_at vs')) (eqb d i || eqb d v) (dropped d f.stripes) (stripe i 1 d v 0 0 ∷ dropped d f.stripes) (λ t. dropped-met)
        (λ t.
        let (ni, nv) = or-false (eqb d i) (eqb d v) t in
        let si : value_at vs' i ≡ value_at vs i = same i (λ p. eqb-false d i ni (sym p)) in
        let sv : value_at vs' v ≡ value_at vs v = same v (λ p. eqb-false d v nv (sym p)) in
        (omega arith, dropped-met))

    product-hold : (i : ℕ) (o : Operand) → value_at vs' d ≡ value_at vs i * operand_at vs o → AllHold (value_at vs') (product_stripes today d i o f.stripes)
    product-hold i (variable v) q = dropped-met
    product-hold i (number c) q =
        cond_cases (AllHold (value_at vs')) (leb 1 c && leb c greatest_scale && not (eqb d i)) (stripe d c i blank_variable 0 0 ∷ dropped d f.stripes) (dropped d f.stripes)
        (λ t.
        let s : value_at vs' i ≡ value_at vs i = same i (λ p. eqb-false d i (not-true _ (and_right (leb 1 c && leb c greatest_scale) _ t)) (sym p)) in
        let z : c * (value_at vs' i + value_at vs' blank_variable) ≡ value_at vs i * c = rw (zero', s, add-zero) (mul_comm c (value_at vs i)) in
        (omega arith, dropped-met))
        (λ t. dropped-met)

    pub addw-met : (e : Edge) (i : ℕ) (o : Operand) → value_at vs' d ≡ sum (value_at vs i) (operand_at vs o) → Met (value_at vs') (facts_along today e (Addw d i o) f)
    unfolding facts_along
    addw-met e i o q =
        let r = h.ranges i in
        let p = in-operand o in
        chosen (sum_fits (range_of f.ranges i) (operand_range f.ranges o)) _ _ _ _
        (λ t. omega (arith, leb-true)) (λ t. sum-hold i o (omega (arith, leb-true))) (λ t. omega arith) (λ t. dropped-met)

    pub subw-met : (e : Edge) (i : ℕ) (o : Operand) → value_at vs i ≤ MAX → value_at vs' d ≡ difference (value_at vs i) (operand_at vs o) → Met (value_at vs') (facts_along today e (Subw d i o) f)
    unfolding facts_along
    subw-met e i o small q =
        let r = h.ranges i in
        let p = in-operand o in
        chosen (difference_fits (range_of f.ranges i) (operand_range f.ranges o)) _ _ _ _
        (λ t.
        cond_cases (InRange (value_at vs' d)) (leb (operand_range f.ranges o).lo (range_of f.ranges i).hi) _ nothing
        (λ k. omega (arith, leb-true)) (λ k. absurd (omega (arith, leb-true, leb-false))))
        (λ t. difference-hold i o (omega (arith, leb-true))) (λ t. omega arith) (λ t. dropped-met)

    pub mulw-met : (e : Edge) (i : ℕ) (o : Operand) → value_at vs' d ≡ product (value_at vs i) (operand_at vs o) → Met (value_at vs') (facts_along today e (Mulw d i o) f)
    unfolding facts_along
    mulw-met e i o q =
        let r = h.ranges i in
        let p = in-operand o in
        let a = range_of f.ranges i in
        let b = operand_range f.ranges o in
        let ends = mul-ends a.lo a.hi (value_at vs i) b.lo b.hi (operand_at vs o) MAX r.0 r.1 p.0 p.1 in
        chosen (product_fits a b) _ _ _ _
        (λ t. omega (arith, ends (omega (arith, leb-true)))) (λ t. product-hold i o (omega (arith, ends (omega (arith, leb-true))))) (λ t. omega arith) (λ t. dropped-met)

    pub divf-met : (e : Edge) (i : ℕ) (o : Operand) → 0 < operand_at vs o → value_at vs' d ≡ nearest_quotient (value_at vs i) (operand_at vs o) → Met (value_at vs') (facts_along today e (Divf d i o) f)
    unfolding facts_along
    divf-met e i o pos q =
        let r = h.ranges i in
        let p = in-operand o in
        let a = range_of f.ranges i in
        let b = operand_range f.ranges o in
        let ends = nearest-ends a.lo a.hi (value_at vs i) b.lo b.hi (operand_at vs o) r.0 r.1 p.0 p.1 pos in
        written _ _
        (cond_cases (InRange (value_at vs' d)) (eqb b.hi 0) nothing _
        (λ t. absurd (omega (arith, eqb-true))) (λ t. omega (arith, ends)))
        dropped-met

    pub load-met : (e : Edge) (w : Width) (b : Table) (a i k : ℕ) → value_at vs' d < 256 ^ bytes_of w → Met (value_at vs') (facts_along today e (Load d w b a i k) f)
    unfolding facts_along
    load-met e w b a i k q = written _ _ (omega arith) dropped-met

  -- instructions that change no value
  module _ (long : length f.ranges ≡ variables) where
    zero-blank : value_at vs blank_variable ≡ 0
    zero-blank = blank-zero (value_at vs) f.ranges long h.ranges

    in-operand-changed : (o : Operand) (g : Range → Range) (rs : List Range) → ((r : Range) → InRange (operand_at vs o) r → InRange (operand_at vs o) (g r)) → InRanges (value_at vs) rs → InRanges (value_at vs) (operand_changed o g rs)
    in-operand-changed (variable v) g rs keeps k = in-changed (value_at vs) rs v g keeps k
    in-operand-changed (number c) g rs keeps k = k

    -- a branch: both ranges changed, each so that it keeps the value
    both-changed : (i : ℕ) (o : Operand) (p q : Range → Range) → ((r : Range) → InRange (value_at vs i) r → InRange (value_at vs i) (p r)) → ((r : Range) → InRange (operand_at vs o) r → InRange (operand_at vs o) (q r)) → InRanges (value_at vs) (operand_changed o q (changed i p f.ranges))
    both-changed i o p q keeps-i keeps-o = in-operand-changed o q (changed i p f.ranges) keeps-o (in-changed (value_at vs) f.ranges i p keeps-i h.ranges)

    module _ (i t : ℕ) (o : Operand) where
      less-hold : (o : Operand) → value_at vs i < operand_at vs o → AllHold (value_at vs) (less_stripes i o f.stripes)
      less-hold (variable v) q = (apart-holds (value_at vs) _ _ _ _ zero-blank (omega arith), h.stripes)
      less-hold (number c) q = h.stripes

      pub less-met : (u : ℕ) → value_at vs i < operand_at vs o → Met (value_at vs) (facts_along today (Target u) (Bltu i t o) f)
      unfolding facts_along
      less-met u q =
          let a = h.ranges i in
          let b = in-operand o in
          record {
            ranges =
                both-changed i o (below (operand_range f.ranges o).hi) (at_least ((range_of f.ranges i).lo + 1))
                (λ r k. cond_cases (InRange (value_at vs i)) (eqb (operand_range f.ranges o).hi 0) nothing _ (λ z. absurd (omega (arith, eqb-true))) (λ z. omega arith))
                (λ r k. omega arith);
            stripes = less-hold o q;
          }

      not-less-hold : (o : Operand) → operand_at vs o ≤ value_at vs i → AllHold (value_at vs) (not_less_stripes i o f.stripes)
      not-less-hold (variable v) q = (apart-holds (value_at vs) _ _ _ _ zero-blank (omega arith), h.stripes)
      not-less-hold (number c) q = h.stripes

      pub not-less-met : operand_at vs o ≤ value_at vs i → Met (value_at vs) (facts_along today Next (Bltu i t o) f)
      unfolding facts_along
      not-less-met q =
          let a = h.ranges i in
          let b = in-operand o in
          record {
            ranges = both-changed i o (at_least (operand_range f.ranges o).lo) (at_most (range_of f.ranges i).hi) (λ r k. omega arith) (λ r k. omega arith);
            stripes = not-less-hold o q;
          }

      equal-hold : (o : Operand) → value_at vs i ≡ operand_at vs o → AllHold (value_at vs) (equal_stripes i o f.stripes)
      equal-hold (variable v) q = (apart-holds (value_at vs) _ _ _ _ zero-blank (omega arith), (apart-holds (value_at vs) _ _ _ _ zero-blank (omega arith), h.stripes))
      equal-hold (number c) q = h.stripes

      pub equal-met : (u : ℕ) → value_at vs i ≡ operand_at vs o → Met (value_at vs) (facts_along today (Target u) (Bequ i t o) f)
      unfolding facts_along
      equal-met u q =
          let a = h.ranges i in
          let b = in-operand o in
          record {
            ranges = both-changed i o (overlap (operand_range f.ranges o)) (overlap (range_of f.ranges i)) (λ r k. omega arith) (λ r k. omega arith);
            stripes = equal-hold o q;
          }

      -- a value other than c stays in a range whose ends equal to c have moved
      without_in : (c n : ℕ) (r : Range) → (n ≡ c → ⊥) → InRange n r → InRange n (without c r)
      without_in c n r other k = (
        cond_cases (λ (e : ℕ). e ≤ n) (eqb r.lo c) (c + 1) r.lo (λ z. let p = eqb-true r.lo c z in let q : n ≢ c = other in omega arith) (λ z. k.0),
        cond_cases (λ (e : ℕ). n ≤ e) (eqb r.hi c) (c - 1) r.hi (λ z. let p = eqb-true r.hi c z in let q : n ≢ c = other in omega arith) (λ z. k.1),
      )

      pub unequal-met : (value_at vs i ≡ operand_at vs o → ⊥) → Met (value_at vs) (facts_along today Next (Bequ i t o) f)
      unfolding facts_along
      unequal-met q =
          let b = in-operand o in
          record {
            ranges =
                cond_cases (InRanges (value_at vs)) (has_one_value (operand_range f.ranges o)) (changed i (without (operand_range f.ranges o).lo) f.ranges) f.ranges
                (λ z.
                let c : (operand_range f.ranges o).lo ≡ (operand_range f.ranges o).hi = omega (arith, eqb-true) in
                in-changed (value_at vs) f.ranges i (without (operand_range f.ranges o).lo) (λ r k. without_in (operand_range f.ranges o).lo (value_at vs i) r (λ p. q (omega arith)) k) h.ranges)
                (λ z. h.ranges);
            stripes = h.stripes;
          }

-- DIVM, which writes two registers, one after the other
module _ (vs : List ℕ) (f : Facts) (h : Met (value_at vs) f) (vs₁ vs₂ : List ℕ) (q r : ℕ) where
  pub divm-met : q < length f.ranges → OnlyAt q (value_at vs) (value_at vs₁) → value_at vs₁ blank_variable ≡ 0
      → r < length f.ranges → OnlyAt r (value_at vs₁) (value_at vs₂) → value_at vs₂ blank_variable ≡ 0
      → (e : Edge) (i : ℕ) (o : Operand) → 0 < operand_at vs o
      → value_at vs₁ q ≡ quotient (value_at vs i) (operand_at vs o) → value_at vs₂ r ≡ remainder (value_at vs i) (operand_at vs o) → Met (value_at vs₂) (facts_along today e (Divm q i r o) f)
  unfolding facts_along
  divm-met inside-q same-q zero-q inside-r same-r zero-r e i o pos x y =
      let k = h.ranges i in
      let p = in-operand vs f h o in
      let a = range_of f.ranges i in
      let b = operand_range f.ranges o in
      let ends = div-ends a.lo a.hi (value_at vs i) b.lo b.hi (operand_at vs o) k.0 k.1 p.0 p.1 pos in
      let below-divisor : remainder (value_at vs i) (operand_at vs o) < operand_at vs o = mod-lt (value_at vs i) pos in
      let small : remainder (value_at vs i) (operand_at vs o) ≤ value_at vs i = mod-le (value_at vs i) (operand_at vs o) in
      let g : Facts = record { ranges = set f.ranges q (quotient_range a b); stripes = dropped q f.stripes } in
      let first : Met (value_at vs₁) g =
      written vs f h vs₁ q inside-q same-q zero-q _ _
      (cond_cases (InRange (value_at vs₁ q)) (eqb b.hi 0) nothing _ (λ t. absurd (omega (arith, eqb-true))) (λ t. omega (arith, ends)))
      (dropped-met vs f h vs₁ q inside-q same-q zero-q) in
      let inside : r < length g.ranges = rw (length-set f.ranges q (quotient_range a b)) inside-r in
      written vs₁ g first vs₂ r inside same-r zero-r (remainder_range a b) _
      (cond_cases (InRange (value_at vs₂ r)) (eqb b.hi 0) nothing _ (λ t. absurd (omega (arith, eqb-true))) (λ t. omega arith))
      (dropped-met vs₁ g first vs₂ r inside same-r zero-r)
