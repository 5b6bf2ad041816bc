-- The state of a text by its length, its first line and the lines of its registers, and the text of a state. Assumes nothing.
use Rattle.std.proofs.Common.{◌≡◌, ℕ, zero, suc, ◌+◌, ◌≤◌, List, length, get_or, replicate, refl, ap, add-one, arith}
use Rattle.std.specs.Prelude.{None}
use native.Mathlib.Decide.{ℕ_discrete}
use borrow.Author.Tests.{eq-eqb, ne_eqb}
use Rattle.model.specs.Limits as Limits
use Rattle.model.specs.declared.machine.State.{State}
use Rattle.model.specs.Text.{space}
use Rattle.model.specs.Listing.{line_at}
use Rattle.saved.specs.States.{target_on, setting_on, with_setting, registers_to, state_from, saved_in, point_set, register_set, registers_set, text_of}

module _ (t : List ℕ) where
  -- a text of another length is no state
  pub saved-short : (length t ≡ 680 → ⊥) → saved_in t ≡ None
  unfolding saved_in
  saved-short h = rw (ne_eqb _ _ h)

  -- any other text is told by its lines
  pub saved-whole : length t ≡ 680 → saved_in t ≡ state_from (target_on (line_at t 0)) (registers_to t Limits.registers)
  unfolding saved_in
  saved-whole h = rw (eq-eqb _ _ h)

  -- one line more, as the code counts
  pub registers-next : (v : ℕ) → registers_to t (v + 1) ≡ with_setting (registers_to t v) v (setting_on (line_at t (v + 1)) v)
  unfolding registers_to
  registers-next v = ap (registers_to t) (add-one v)

  -- the lines after one without its register do not matter
  pub none-stays : (n m : ℕ) → n ≤ m → registers_to t n ≡ None → registers_to t m ≡ None
  unfolding registers_to
  none-stays n zero h e = let q : n ≡ 0 = omega arith in rw q at e
  none-stays n (suc m) h e = go (ℕ_discrete n (suc m)) (λ k. none-stays n m k e)
    where
      go : Dec (n ≡ suc m) → (n ≤ m → registers_to t m ≡ None) → registers_to t (suc m) ≡ None
      go (yes q) f = rw q at e
      go (no q) f = rw (f (omega arith))

pub text-is : (s : State) → text_of s ≡ registers_set (point_set (replicate 680 space) s.point) s.registers Limits.registers
unfolding text_of
text-is s = refl

pub registers-set-next : (t rs : List ℕ) (v : ℕ) → registers_set t rs (v + 1) ≡ register_set (registers_set t rs v) v (get_or rs v 0)
unfolding registers_set
registers-set-next t rs v = ap (registers_set t rs) (add-one v)
