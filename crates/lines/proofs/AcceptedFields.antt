-- What an accepted line leaves: fields in shape and within their limits, and registers that differ. Assumes nothing.
use Rattle.std.proofs.Common.{◌≡◌, ℕ, Bool, true, false, cond, List, refl, arith}
use Rattle.model.specs.declared.text.Field.{Field}
use Rattle.model.specs.declared.text.Word.{Word}
use Rattle.std.specs.Prelude.{Some, Err}
use Rattle.model.specs.declared.answers.Refusal.TheVariants.{FieldShape, NumberLimits, SameRegister}
use Rattle.model.specs.Types.{accepted}
use Rattle.model.specs.Limits.{today}
use Rattle.model.specs.Lines.{in_shape, in_limits, registers_differ, judged}

pub fields-accepted : (place : ℕ) (w : Word) (fs : List Field) → judged today place (Some w) fs ≡ accepted → (in_shape w fs ≡ true) × (in_limits today w fs ≡ true) × (registers_differ w fs ≡ true)
unfolding judged
fields-accepted place w fs e = go (in_shape w fs) (in_limits today w fs) (registers_differ w fs) e
  where
    go : (a b c : Bool) → cond a (cond b (cond c accepted (Err (SameRegister place))) (Err (NumberLimits place))) (Err (FieldShape place)) ≡ accepted
        → (a ≡ true) × (b ≡ true) × (c ≡ true)
    go true true true e = (refl, refl, refl)
    go true true false e = let z : ◌≡◌ {A = ℕ} 0 1 = cc in absurd (omega arith)
    go true false c e = let z : ◌≡◌ {A = ℕ} 0 1 = cc in absurd (omega arith)
    go false b c e = let z : ◌≡◌ {A = ℕ} 0 1 = cc in absurd (omega arith)
