-- Four bytes are the same where the numbers that they give are. Assumes nothing.
use Rattle.std.proofs.Common.{◌≡◌, ℕ, ◌+◌, ◌*◌, ◌<◌, Bool, true, false, ◌&&◌, List, refl, arith, eqb, get_or}
use borrow.Author.Tests.{eqb-true, eqb-false, eq-eqb, ne_eqb}
use Rattle.std.specs.Int.{w32, from_le_bytes}
use Rattle.model.specs.Words.{begins}

-- the number that four bytes give, the first of them least
abbrev joined : ℕ → ℕ → ℕ → ℕ → ℕ
joined a b c d = a + b * 256 + c * 65536 + d * 16777216

joined_same : (a b c d e f g h : ℕ) → a < 256 → b < 256 → c < 256 → e < 256 → f < 256 → g < 256
    → eqb (joined a b c d) (joined e f g h) ≡ (eqb a e && eqb b f && eqb c g && eqb d h)
joined_same a b c d e f g h la lb lc le lf lg = go (eqb a e) (eqb b f) (eqb c g) (eqb d h) refl refl refl refl
  where
    go : (p q r s : Bool) → eqb a e ≡ p → eqb b f ≡ q → eqb c g ≡ r → eqb d h ≡ s
        → eqb (joined a b c d) (joined e f g h) ≡ (p && q && r && s)
    go true true true true w x y z = eq-eqb (joined a b c d) (joined e f g h) (omega (arith, eqb-true a e w, eqb-true b f x, eqb-true c g y, eqb-true d h z))
    go true true true false w x y z = ne_eqb (joined a b c d) (joined e f g h) (λ m. eqb-false d h z (omega (arith, m)))
    go true true false s w x y z = ne_eqb (joined a b c d) (joined e f g h) (λ m. eqb-false c g y (omega (arith, m)))
    go true false r s w x y z = ne_eqb (joined a b c d) (joined e f g h) (λ m. eqb-false b f x (omega (arith, m)))
    go false q r s w x y z = ne_eqb (joined a b c d) (joined e f g h) (λ m. eqb-false a e w (omega (arith, m)))

pub number_same : (a b : List ℕ) → ((i : ℕ) → get_or a i 0 < 256) → ((i : ℕ) → get_or b i 0 < 256) → eqb (from_le_bytes w32 a) (from_le_bytes w32 b) ≡ begins a b
unfolding begins
number_same a b f g = joined_same _ _ _ _ _ _ _ _ (f 0) (f 1) (f 2) (g 0) (g 1) (g 2)
