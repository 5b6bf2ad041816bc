-- A run of a passed listing makes the steps that it reports. Assumes nothing.
use mathlib.Core.Path.{◌≡◌, refl, ap, sym, ◌∙◌}
use mathlib.Core.Bool.{true, false, false≢true}
use mathlib.Core.List.{List}
use Prim.Native.Nat.{ℕ, zero, suc, ◌+◌, ◌≤◌, ◌<◌}
use native.Mathlib.Nat.{not-suc-le-zero}
use native.Mathlib.Numerals.{add-one}
use native.Mathlib.Omega.{arith}
use native.Mathlib.Decide.{ℕ_discrete}
use lib.ListN.{length}
use lib.Dec.{eqb, leb}
use Rattle.model.specs.Types.{Width, Instruction, Stop, Setc, Copy, Addw, Subw, Mulw, Divf, Load, Stor, Jump, Bltu, Bequ, Divm}
use Rattle.model.specs.Listing.{Point}
use Rattle.model.specs.Machine.{Config, value_of, operand_value, bytes_of, table_of, read_bytes, write_bytes, address, wrote, stored, inside, instruction_at, Step, next, stopped, error_state, step_of, step_at, at, settled, onward, steps}
use Rattle.model.specs.Instructions.{is_stop}
use Rattle.model.specs.Run.{Progress, advanced, run_for, at_stop}
use Rattle.model.proofs.Tests.{cond_cases}
use Rattle.model.proofs.OneStep.{Good, StepGood}
use Rattle.model.proofs.Steps.{Passes, step_kept}

-- a step is made from every instruction but STOP
abbrev pub Made : Instruction → Step → Type 0
Made i (next c) = is_stop i ≡ false
Made i stopped = is_stop i ≡ true
Made i error_state = Unit {0}

made_inside : (i : Instruction) (a : ℕ) (w : Width) (l : List ℕ) (c : Config) → is_stop i ≡ false → Made i (inside a w l c)
made_inside i a w l c e = cond_cases (Made i) (leb (a + bytes_of w) (length l)) (next c) error_state (λ z. e) (λ z. tt)

pub made : (i : Instruction) (c : Config) → Made i (step_of i c)
unfolding step_of
made Stop c = refl
made (Setc d x) c = refl
made (Copy d i) c = refl
made (Addw d i o) c = refl
made (Subw d i o) c = refl
made (Mulw d i o) c = refl
made (Divf d i o) c =
    cond_cases (Made (Divf d i o)) (eqb (operand_value c o) 0) error_state _ (λ z. tt) (λ z. refl)
made (Load d w b a i k) c =
    made_inside (Load d w b a i k) (address a (value_of c i) k) w (table_of b c.tables) (wrote c d (read_bytes (bytes_of w) (table_of b c.tables) (address a (value_of c i) k))) refl
made (Stor v w a i k) c =
    made_inside (Stor v w a i k) (address a (value_of c i) k) w c.tables.results (stored c (write_bytes (bytes_of w) c.tables.results (address a (value_of c i) k) (value_of c v))) refl
made (Jump t) c = refl
made (Bltu i t o) c = refl
made (Bequ i t o) c = refl
made (Divm q i r o) c =
    cond_cases (Made (Divm q i r o)) (eqb (operand_value c o) 0) error_state _ (λ z. tt) (λ z. refl)

pub at_same : {c d : Config} → at c ≡ at d → c ≡ d
at_same e = cc

module _ (ps : List Point) (passes : Passes ps) (sizes : List ℕ) (c₀ : Config) where
  -- what a run with the budget b has made
  pub record Ran (b : ℕ) (p : Progress) : Type 0 where
    pub few : p.steps ≤ b
    pub led : steps ps p.steps (at c₀) ≡ at p.config
    pub good : Good ps sizes p.config
    pub going : (j : ℕ) → j < p.steps → (c : Config) → steps ps j (at c₀) ≡ at c → at_stop ps c ≡ false
    pub spent : at_stop ps p.config ≡ false → p.steps ≡ b

  ran-more : (b : ℕ) (p : Progress) → Ran b p → (s : Step) → step_at ps p.config ≡ s → StepGood ps sizes p.config.tables.trays s → Made (instruction_at ps p.config) s → Ran (suc b) (advanced p s)
  unfolding steps
  ran-more b p r (next c) e h t = record {
    few = let f = r.few in omega arith;
    led = rw add-one (ap (onward ps) r.led ∙ ap (settled p.config) e);
    good = h.0;
    going = λ j i d q. go j i d q (ℕ_discrete j p.steps);
    spent = λ z. let s = r.spent t in omega arith;
  }
    where
      go : (j : ℕ) → j < p.steps + 1 → (d : Config) → steps ps j (at c₀) ≡ at d → Dec (j ≡ p.steps) → at_stop ps d ≡ false
      go j i d q (yes x) =
          let same : d ≡ p.config = at_same (sym q ∙ ap (λ (k : ℕ). steps ps k (at c₀)) x ∙ r.led) in
          rw same t
      go j i d q (no x) = r.going j (omega arith) d q
  ran-more b p r stopped e h t = record { few = let f = r.few in omega arith; led = r.led; good = r.good; going = r.going; spent = λ z. absurd (false≢true (sym z ∙ t)) }
  ran-more b p r error_state e h t = absurd h

  pub ran : Good ps sizes c₀ → (b : ℕ) → Ran b (run_for ps b c₀)
  unfolding run_for steps
  ran g zero = record { few = omega arith; led = refl; good = g; going = λ j i c e. absurd (not-suc-le-zero i); spent = λ z. refl }
  ran g (suc b) =
      let r = ran g b in
      let p = run_for ps b c₀ in
      ran-more b p r (step_at ps p.config) refl (step_kept ps passes sizes p.config r.good) (made (instruction_at ps p.config) p.config)
