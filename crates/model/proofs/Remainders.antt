-- The step of a DIVM leaves the quotient and what is left over. Assumes nothing.
use mathlib.Core.Path.{◌≡◌, refl, ap, sym, subst, ◌∙◌}
use mathlib.Core.Bool.{Bool, true, false, cond, false≢true}
use mathlib.Core.List.{List}
use Prim.Native.Nat.{ℕ, ◌<◌}
use native.Mathlib.Nat.{mod-lt, div-add-mod', pos_of_ne-zero}
use native.Mathlib.Omega.{arith}
use native.Mathlib.Decide.{dec_lt}
use lib.ListN.{length, set, length-set, length-append, get_or-eq_default}
use lib.Seq.{get_or-set_same, get_or-set_other, set-append_left}
use lib.Dec.{eqb}
use borrow.Author.Tests.{eqb-false}
use Rattle.model.specs.Types.{Operand, Divm}
use Rattle.model.specs.Limits.{registers, variables}
use Rattle.model.specs.Facts.{value_at}
use Rattle.model.specs.Instructions.{goes_on}
use Rattle.model.specs.Listing.{Point, point_at}
use Rattle.model.specs.Machine.{Config, sizes_of, values, value_of, operand_value, quotient, remainder, wrote_both, next, error_state, step_of, instruction_at, DividedExactly, RemainderIsExact}
use Rattle.model.specs.Limited.{Limited, DivisionLimited}
use Rattle.model.proofs.Lists.{all-at}
use Rattle.model.proofs.Reading.{PointLimited, well-formed}

-- two registers written, one after the other
module _ (c : Config) (long : length c.registers ≡ registers) (q x r y : ℕ) (in-q : q < registers) (in-r : r < registers) where
  both_values : values (wrote_both c q x r y) ≡ set (set (values c) q x) r y
  both_values =
      let l = length-set c.registers q x in
      sym (set-append_left (set c.registers q x) (sizes_of c.tables) r y (omega arith))
      ∙ ap (λ (vs : List ℕ). set vs r y) (sym (set-append_left c.registers (sizes_of c.tables) q x (omega arith)))

  values-long : length (values c) ≡ variables
  values-long = simp length-append (omega arith)

  first-long : length (set (values c) q x) ≡ variables
  first-long = length-set (values c) q x ∙ values-long

  both-second : value_of (wrote_both c q x r y) r ≡ y
  both-second = let l = first-long in ap (λ (vs : List ℕ). value_at vs r) both_values ∙ get_or-set_same (set (values c) q x) r y 0 (omega arith)

  both_first : (q ≡ r → ⊥) → value_of (wrote_both c q x r y) q ≡ x
  both_first differ =
      let l = values-long in
      ap (λ (vs : List ℕ). value_at vs q) both_values ∙ get_or-set_other (set (values c) q x) r q y 0 differ ∙ get_or-set_same (values c) q x 0 (omega arith)

-- an instruction that is no STOP stands at a point of the listing
exists : (ps : List Point) (c : Config) → goes_on (instruction_at ps c) ≡ true → c.point < length ps
exists ps c e = go (dec_lt c.point (length ps))
  where
    go : Dec (c.point < length ps) → c.point < length ps
    go (yes h) = h
    go (no n) =
        let stop : goes_on (instruction_at ps c) ≡ false = ap (λ (p : Point). goes_on p.instruction) (get_or-eq_default ps _ (omega arith)) in
        absurd (false≢true (sym stop ∙ e))

module _ (c d : Config) (long : length c.registers ≡ registers) (q i r : ℕ) (o : Operand) (lim : DivisionLimited q i r o) where
  divided : 0 < operand_value c o → wrote_both c q (quotient (value_of c i) (operand_value c o)) r (remainder (value_of c i) (operand_value c o)) ≡ d → DividedExactly c d q i r o
  divided pos e =
      let x = quotient (value_of c i) (operand_value c o) in
      let y = remainder (value_of c i) (operand_value c o) in
      let in-q = lim.arithmetic.register in
      let first : value_of (wrote_both c q x r y) q ≡ x = both_first c long q x r y in-q lim.register lim.differ in
      let second : value_of (wrote_both c q x r y) r ≡ y = both-second c long q x r y in-q lim.register in
      subst (λ (d : Config). DividedExactly c d q i r o) e
      (record { dividend = rw (first, second) (sym (div-add-mod' (value_of c i) (operand_value c o))); below = rw second (mod-lt (value_of c i) pos) })

  step-divided : step_of (Divm q i r o) c ≡ next d → DividedExactly c d q i r o
  unfolding step_of
  step-divided e = go (eqb (operand_value c o) 0) refl e
    where
      go : (b : Bool) → eqb (operand_value c o) 0 ≡ b
          → cond b error_state (next (wrote_both c q (quotient (value_of c i) (operand_value c o)) r (remainder (value_of c i) (operand_value c o)))) ≡ next d → DividedExactly c d q i r o
      go true z e = let n : ◌≡◌ {A = ℕ} 0 1 = cc in absurd (omega arith)
      go false z e = divided (pos_of_ne-zero (eqb-false _ _ z)) cc

pub remainder-is-exact : RemainderIsExact
remainder-is-exact l ps read c d long q i r o here step =
    let inside : c.point < length ps = exists ps c (rw here refl) in
    let lim : PointLimited (point_at ps c.point) = all-at PointLimited ps _ c.point inside (well-formed l ps read).limited in
    step-divided c d long q i r o (subst Limited here lim.instruction) (rw here at step)
