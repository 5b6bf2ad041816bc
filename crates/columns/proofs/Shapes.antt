-- The shape and the digits of columns with one column more, and what they leave of the columns after. Assumes nothing.
use Prim.Native.Nat.{ℕ, zero, suc, ◌+◌, ◌*◌, ◌≤◌, ◌<◌}
use native.Mathlib.Numerals.{add-one}
use native.Mathlib.Omega.{arith}
use native.Mathlib.Decide.{ℕ_discrete}
use mathlib.Core.Path.{◌≡◌, refl, sym, ◌∙◌}
use mathlib.Core.Bool.{Bool, true, false, ◌&&◌, cond, false≢true}
use mathlib.Core.List.{List}
use lib.ListN.{get_or}
use lib.Dec.{leb, eqb}
use borrow.Author.Tests.{eqb-true, leb-true, le-leb, ne_eqb}
use Rattle.model.specs.declared.text.Shape.TheVariants.{Spaces, Zero, Digits, Sign, Signed, Wrong}
use Rattle.model.specs.declared.text.Field.TheVariants.{Blank, Number, Negative, Misshapen}
use Rattle.model.specs.Text.{space, is_digit, digit_of, next_shape, shape_of, digits_of, field_of}
use Rattle.model.proofs.Tests.{and_left, and_right}
use Rattle.model.proofs.Digits.{digit-byte}

-- a digit that may lead
abbrev leading : ℕ → Bool
leading b = leb 49 b && leb b 57

leading-byte : (b : ℕ) → leading b ≡ true → (49 ≤ b) × (b ≤ 57)
leading-byte b e = (leb-true 49 b (and_left (leb 49 b) (leb b 57) e), leb-true b 57 (and_right (leb 49 b) (leb b 57) e))

pub leading-digit : (b : ℕ) → leading b ≡ true → is_digit b ≡ true
unfolding is_digit
leading-digit b e =
    let (l, h) = leading-byte b e in
    let k : 48 ≤ b = omega arith in
    rw (le-leb 48 b k, le-leb b 57 h)

not-leading : (b : ℕ) → leading b ≡ false → (b ≡ 48 → ⊥) → is_digit b ≡ false
not-leading b e z = go (is_digit b) refl
  where
    leads : 49 ≤ b → b ≤ 57 → leading b ≡ true
    leads l h = rw (le-leb 49 b l, le-leb b 57 h)

    go : (t : Bool) → is_digit b ≡ t → t ≡ false
    go true d =
        let (l, h) = digit-byte b d in
        let k : 49 ≤ b = omega (arith, z) in
        absurd (false≢true (sym e ∙ leads k h))
    go false d = refl

and-both-of : (a b : Bool) → (a && b) ≡ true → (a ≡ true) × (b ≡ true)
and-both-of a b e = (and_left a b e, and_right a b e)

module _ (s : List ℕ) (at : ℕ) where
  -- the byte of column i
  abbrev byte_at : ℕ → ℕ
  byte_at i = get_or s (at + i) 0

  pub shape-step : (i : ℕ) → shape_of s at (i + 1) ≡ next_shape (shape_of s at i) (byte_at i)
  unfolding shape_of
  shape-step i = rw add-one

  pub digits_step : (i : ℕ) → digits_of s at (i + 1) ≡ digits_of s at i * 10 + digit_of (byte_at i)
  unfolding digits_of
  digits_step i = rw add-one

  -- the columns after wrong ones do not mend them
  wrong_stays : (i n : ℕ) → i ≤ n → shape_of s at i ≡ Wrong → shape_of s at n ≡ Wrong
  unfolding shape_of
  wrong_stays i zero h e = let q : i ≡ 0 = omega arith in rw q at e
  wrong_stays i (suc n) h e = go (ℕ_discrete i (suc n)) (λ k. wrong_stays i n k e)
    where
      go : Dec (i ≡ suc n) → (i ≤ n → shape_of s at n ≡ Wrong) → shape_of s at (suc n) ≡ Wrong
      go (yes q) f = rw q at e
      go (no q) f = rw (f (omega arith))

  pub misshapen : (i n : ℕ) → i ≤ n → shape_of s at i ≡ Wrong → field_of s at n ≡ Misshapen
  unfolding field_of
  misshapen i n h e = rw (wrong_stays i n h e)

  -- one digit more after digits
  pub digit-more : (t : Bool) (i : ℕ) → shape_of s at i ≡ cond t Signed Digits → is_digit (byte_at i) ≡ true → shape_of s at (i + 1) ≡ cond t Signed Digits
  unfolding next_shape
  digit-more true i e d = rw (shape-step i, e, d)
  digit-more false i e d = rw (shape-step i, e, d)

  -- any other byte after digits
  pub digits-broken : (t : Bool) (i n : ℕ) → i < n → shape_of s at i ≡ cond t Signed Digits → is_digit (byte_at i) ≡ false → field_of s at n ≡ Misshapen
  unfolding next_shape
  digits-broken t i n h e d = misshapen (i + 1) n (omega arith) (go t e)
    where
      go : (t : Bool) → shape_of s at i ≡ cond t Signed Digits → shape_of s at (i + 1) ≡ Wrong
      go true e = rw (shape-step i, e, d)
      go false e = rw (shape-step i, e, d)

  pub number_more : (v i : ℕ) → v ≡ digits_of s at i → v * 10 + digit_of (byte_at i) ≡ digits_of s at (i + 1)
  number_more v i e = rw (digits_step i, ← e)

  -- the number of the first digit
  pub number-first : (i : ℕ) → digits_of s at i ≡ 0 → digit_of (byte_at i) ≡ digits_of s at (i + 1)
  number-first i e = rw (digits_step i, e) (omega arith)

  -- digits to the last column
  pub digits_last : (t : Bool) (v i n : ℕ) → i ≡ n → shape_of s at i ≡ cond t Signed Digits → v ≡ digits_of s at i → cond t (Negative v) (Number v) ≡ field_of s at n
  unfolding field_of
  digits_last true v i n q e d = rw (← q, e, d)
  digits_last false v i n q e d = rw (← q, e, d)

  -- a space after spaces
  pub space-more : (i : ℕ) → shape_of s at i ≡ Spaces → digits_of s at i ≡ 0 → byte_at i ≡ space → (shape_of s at (i + 1) ≡ Spaces) × (digits_of s at (i + 1) ≡ 0)
  unfolding next_shape digit_of
  space-more i e z b = (rw (shape-step i, e, b), rw (digits_step i, z, b))

  pub blank : (i n : ℕ) → i ≡ n → shape_of s at i ≡ Spaces → field_of s at n ≡ Blank
  unfolding field_of
  blank i n q e = rw (← q, e)

  -- four spaces after spaces
  pub four-spaces : (i : ℕ) → shape_of s at i ≡ Spaces → digits_of s at i ≡ 0
      → (eqb (get_or s (at + i) 0) space && eqb (get_or s (at + i + 1) 0) space && eqb (get_or s (at + i + 2) 0) space && eqb (get_or s (at + i + 3) 0) space) ≡ true
      → (shape_of s at (i + 4) ≡ Spaces) × (digits_of s at (i + 4) ≡ 0)
  four-spaces i e z h =
      let (abc, d) = and-both-of _ _ h in
      let (ab, c) = and-both-of _ _ abc in
      let (a, b) = and-both-of _ _ ab in
      let p1 : at + i + 1 ≡ at + (i + 1) = omega arith in
      let p2 : at + i + 2 ≡ at + (i + 1 + 1) = omega arith in
      let p3 : at + i + 3 ≡ at + (i + 1 + 1 + 1) = omega arith in
      let all : i + 1 + 1 + 1 + 1 ≡ i + 4 = omega arith in
      let (e1, z1) = space-more i e z (eqb-true _ _ a) in
      let (e2, z2) = space-more (i + 1) e1 z1 (rw (← p1) (eqb-true _ _ b)) in
      let (e3, z3) = space-more (i + 1 + 1) e2 z2 (rw (← p2) (eqb-true _ _ c)) in
      let (e4, z4) = space-more (i + 1 + 1 + 1) e3 z3 (rw (← p3) (eqb-true _ _ d)) in
      (rw all at e4, rw all at z4)

  -- a minus after spaces
  pub minus-first : (i : ℕ) → shape_of s at i ≡ Spaces → digits_of s at i ≡ 0 → byte_at i ≡ 45 → (shape_of s at (i + 1) ≡ Sign) × (digits_of s at (i + 1) ≡ 0)
  unfolding next_shape digit_of
  minus-first i e z b = (rw (shape-step i, e, b), rw (digits_step i, z, b))

  zero-first : (i : ℕ) → shape_of s at i ≡ Spaces → byte_at i ≡ 48 → shape_of s at (i + 1) ≡ Zero
  unfolding next_shape
  zero-first i e b = rw (shape-step i, e, b)

  -- a 0 in the last column
  pub zero-last : (i n : ℕ) → i + 1 ≡ n → shape_of s at i ≡ Spaces → digits_of s at i ≡ 0 → byte_at i ≡ 48 → field_of s at n ≡ Number 0
  unfolding field_of digit_of
  zero-last i n q e z b = rw (← q, zero-first i e b, digits_step i, z, b)

  -- a 0 that leads
  pub zero-leads : (i n : ℕ) → i + 1 < n → shape_of s at i ≡ Spaces → byte_at i ≡ 48 → field_of s at n ≡ Misshapen
  unfolding next_shape
  zero-leads i n h e b = misshapen (i + 1 + 1) n (omega arith) (rw (shape-step (i + 1), zero-first i e b))

  -- another digit after spaces
  pub digit-first : (i : ℕ) → shape_of s at i ≡ Spaces → leading (byte_at i) ≡ true → shape_of s at (i + 1) ≡ Digits
  unfolding next_shape
  digit-first i e d =
      let (l, h) = leading-byte (byte_at i) d in
      rw (shape-step i, e, ne_eqb (byte_at i) 32 (λ q. omega (arith, q)), ne_eqb (byte_at i) 45 (λ q. omega (arith, q)), ne_eqb (byte_at i) 48 (λ q. omega (arith, q)), leading-digit (byte_at i) d)

  -- any other byte after spaces
  pub other-first : (i n : ℕ) → i < n → shape_of s at i ≡ Spaces → eqb (byte_at i) space ≡ false → leading (byte_at i) ≡ false → (byte_at i ≡ 45 → ⊥) → (byte_at i ≡ 48 → ⊥) → field_of s at n ≡ Misshapen
  unfolding next_shape
  other-first i n h e p d m z = misshapen (i + 1) n (omega arith) wrong
    where
      wrong : shape_of s at (i + 1) ≡ Wrong
      wrong = rw (shape-step i, e, p, ne_eqb _ _ m, ne_eqb _ _ z, not-leading _ d z)

  -- a minus alone
  pub sign-last : (i n : ℕ) → i ≡ n → shape_of s at i ≡ Sign → field_of s at n ≡ Misshapen
  unfolding field_of
  sign-last i n q e = rw (← q, e)

  -- a digit other than 0 after a minus
  pub sign-digit : (i : ℕ) → shape_of s at i ≡ Sign → leading (byte_at i) ≡ true → shape_of s at (i + 1) ≡ Signed
  unfolding next_shape
  sign-digit i e d =
      let (l, h) = leading-byte (byte_at i) d in
      rw (shape-step i, e, ne_eqb (byte_at i) 48 (λ q. omega (arith, q)), leading-digit (byte_at i) d)

  -- any other byte after a minus
  pub sign-other : (i n : ℕ) → i < n → shape_of s at i ≡ Sign → leading (byte_at i) ≡ false → field_of s at n ≡ Misshapen
  unfolding next_shape
  sign-other i n h e d = misshapen (i + 1) n (omega arith) (wrong (ℕ_discrete (byte_at i) 48))
    where
      wrong : Dec (byte_at i ≡ 48) → shape_of s at (i + 1) ≡ Wrong
      wrong (yes z) = rw (shape-step i, e, z)
      wrong (no z) = rw (shape-step i, e, ne_eqb _ _ z, not-leading _ d z)
