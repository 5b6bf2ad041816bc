-- What an instruction does not write stays, and its step leads to the next point or to a target. Assumes nothing.
use mathlib.Core.Path.{◌≡◌, refl, ◌∙◌}
use mathlib.Core.Bool.{Bool, true, false, ◌&&◌, ◌||◌, cond}
use mathlib.Core.List.{List, [], ◌∷◌}
use Prim.Native.Nat.{ℕ, ◌+◌}
use lib.ListN.{length, get_or, set}
use lib.Seq.{get_or-set_other}
use lib.Dec.{leb, ltb, eqb}
use borrow.Author.Tests.{eqb-false, eq-eqb}
use Rattle.model.specs.Types.{Width, Instruction, Stop, Setc, Copy, Addw, Subw, Mulw, Divf, Load, Stor, Jump, Bltu, Bequ, Divm}
use Rattle.model.specs.Lists.{some, among}
use Rattle.model.specs.Instructions.{writes, targets, goes_on}
use Rattle.model.specs.Machine.{Config, value_of, operand_value, bytes_of, table_of, read_bytes, write_bytes, address, wrote, wrote_both, stored, Step, next, stopped, error_state, inside, step_of}
use Rattle.model.proofs.Tests.{cond_cases, or-false, or-true}

-- what a step leaves of the registers that it does not write
abbrev Leaves : Instruction → Config → Step → Type 0
Leaves i c (next d) = (r : ℕ) → among r (writes i) ≡ false → get_or d.registers r 0 ≡ get_or c.registers r 0
Leaves i c stopped = Unit {0}
Leaves i c error_state = Unit {0}

wrote-leaves : (c : Config) (d x r : ℕ) → among r (d ∷ []) ≡ false → get_or (wrote c d x).registers r 0 ≡ get_or c.registers r 0
unfolding some
wrote-leaves c d x r e = get_or-set_other c.registers d r x 0 (eqb-false r d (or-false (eqb r d) false e).0)

both-leaves : (c : Config) (q x r y k : ℕ) → among k (q ∷ r ∷ []) ≡ false → get_or (wrote_both c q x r y).registers k 0 ≡ get_or c.registers k 0
unfolding some
both-leaves c q x r y k e =
    let (first, rest) = or-false (eqb k q) (eqb k r || false) e in
    get_or-set_other (set c.registers q x) r k y 0 (eqb-false k r (or-false (eqb k r) false rest).0) ∙ get_or-set_other c.registers q k x 0 (eqb-false k q first)

inside-leaves : (i : Instruction) (a : ℕ) (w : Width) (l : List ℕ) (c d : Config) → Leaves i c (next d) → Leaves i c (inside a w l d)
inside-leaves i a w l c d h = cond_cases (Leaves i c) (leb (a + bytes_of w) (length l)) (next d) error_state (λ z. h) (λ z. tt)

-- a register that an instruction does not write keeps its value
pub unwritten-kept : (i : Instruction) (c : Config) → Leaves i c (step_of i c)
unfolding step_of
unwritten-kept Stop c = tt
unwritten-kept (Setc d x) c = λ r e. wrote-leaves c d _ r e
unwritten-kept (Copy d i) c = λ r e. wrote-leaves c d _ r e
unwritten-kept (Addw d i o) c = λ r e. wrote-leaves c d _ r e
unwritten-kept (Subw d i o) c = λ r e. wrote-leaves c d _ r e
unwritten-kept (Mulw d i o) c = λ r e. wrote-leaves c d _ r e
unwritten-kept (Divf d i o) c =
    cond_cases (Leaves (Divf d i o) c) (eqb (operand_value c o) 0) error_state _ (λ z. tt) (λ z r e. wrote-leaves c d _ r e)
unwritten-kept (Load d w b a i k) c =
    inside-leaves (Load d w b a i k) (address a (value_of c i) k) w (table_of b c.tables) c (wrote c d (read_bytes (bytes_of w) (table_of b c.tables) (address a (value_of c i) k))) (λ r e. wrote-leaves c d _ r e)
unwritten-kept (Stor v w a i k) c =
    inside-leaves (Stor v w a i k) (address a (value_of c i) k) w c.tables.results c (stored c (write_bytes (bytes_of w) c.tables.results (address a (value_of c i) k) (value_of c v))) (λ r e. refl)
unwritten-kept (Jump t) c = λ r e. refl
unwritten-kept (Bltu i t o) c = λ r e. refl
unwritten-kept (Bequ i t o) c = λ r e. refl
unwritten-kept (Divm q i r o) c =
    cond_cases (Leaves (Divm q i r o) c) (eqb (operand_value c o) 0) error_state _ (λ z. tt) (λ z k e. both-leaves c q _ r _ k e)

-- the point is a target, or the next one of an instruction that goes on
abbrev pub is_successor : Instruction → ℕ → ℕ → Bool
is_successor i p q = among q (targets i) || (goes_on i && eqb q (p + 1))

abbrev Leads : Instruction → Config → Step → Type 0
Leads i c (next d) = is_successor i c.point d.point ≡ true
Leads i c stopped = Unit {0}
Leads i c error_state = Unit {0}

same_point : (p : ℕ) → eqb p p ≡ true
same_point p = eq-eqb p p refl

inside-leads : (i : Instruction) (a : ℕ) (w : Width) (l : List ℕ) (c d : Config) → Leads i c (next d) → Leads i c (inside a w l d)
inside-leads i a w l c d h = cond_cases (Leads i c) (leb (a + bytes_of w) (length l)) (next d) error_state (λ z. h) (λ z. tt)

branch_leads : (b : Bool) (t p : ℕ) → (among (cond b t (p + 1)) (t ∷ []) || (true && eqb (cond b t (p + 1)) (p + 1))) ≡ true
unfolding some
branch_leads true t p = rw (same_point t)
branch_leads false t p = or-true (eqb (p + 1) t || false) (same_point (p + 1))

-- a step leads to the next point, where the instruction goes on, or to a target
pub leads : (i : Instruction) (c : Config) → Leads i c (step_of i c)
unfolding step_of some
leads Stop c = tt
leads (Setc d x) c = same_point (c.point + 1)
leads (Copy d i) c = same_point (c.point + 1)
leads (Addw d i o) c = same_point (c.point + 1)
leads (Subw d i o) c = same_point (c.point + 1)
leads (Mulw d i o) c = same_point (c.point + 1)
leads (Divf d i o) c =
    cond_cases (Leads (Divf d i o) c) (eqb (operand_value c o) 0) error_state _ (λ z. tt) (λ z. same_point (c.point + 1))
leads (Load d w b a i k) c =
    inside-leads (Load d w b a i k) (address a (value_of c i) k) w (table_of b c.tables) c (wrote c d (read_bytes (bytes_of w) (table_of b c.tables) (address a (value_of c i) k))) (same_point (c.point + 1))
leads (Stor v w a i k) c =
    inside-leads (Stor v w a i k) (address a (value_of c i) k) w c.tables.results c (stored c (write_bytes (bytes_of w) c.tables.results (address a (value_of c i) k) (value_of c v))) (same_point (c.point + 1))
leads (Jump t) c = rw (same_point t)
leads (Bltu i t o) c = branch_leads (ltb (value_of c i) (operand_value c o)) t c.point
leads (Bequ i t o) c = branch_leads (eqb (value_of c i) (operand_value c o)) t c.point
leads (Divm q i r o) c =
    cond_cases (Leads (Divm q i r o) c) (eqb (operand_value c o) 0) error_state _ (λ z. tt) (λ z. same_point (c.point + 1))
