-- What each instruction makes of the values of all variables is the machine's step. Assumes nothing.
use Rattle.std.proofs.Common.{◌≡◌, ℕ, ◌+◌, ◌<◌, ◌≤◌, Bool, cond, eqb, ltb, List, [], ◌∷◌, length, take, set, sym, refl, ap, ◌∙◌, subst, arith, length-append, length-take, eq-eqb, ne_eqb, le-leb}
use native.Mathlib.Decide.{ℕ_discrete, dec_le}
use lib.Seq.{take-set-lt, set-append_left}
use borrow.Author.Tests.{lt-leb}
use Rattle.model.specs.declared.machine.Width.{Width}
use Rattle.model.specs.declared.machine.Table.{Table}
use Rattle.model.specs.declared.machine.Table.TheVariants.{Trays, Results}
use Rattle.model.specs.declared.machine.Operand.{Operand}
use Rattle.model.specs.declared.machine.Instruction.{Instruction}
use Rattle.model.specs.declared.machine.Instruction.TheVariants.{Stop, Setc, Copy, Addw, Subw, Mulw, Divf, Load, Stor, Jump, Bltu, Bequ, Divm}
use Rattle.model.specs.Limits.{registers, tables}
use Rattle.model.specs.Facts.{value_at}
use Rattle.model.specs.Machine.{Tables, lent, table_of, sizes_of, Config, values_from, operand_at, bytes_of, read_bytes, write_bytes, sum, difference, product, quotient, nearest_quotient, remainder, address, wrote, wrote_both, went, stored, next, error_state, inside, step_of, at, settled}
use Rattle.model.proofs.Values.{write-long}
use Rattle.steps.specs.Stepped.{config, ValuesOver, Written, Steppable, Stepped}

-- a table is no longer than both may be
pub table-short : (b : Table) (ts rs : List ℕ) (n : ℕ) → length ts < n → length rs < n → length (table_of b (lent ts rs)) < n
table-short Trays ts rs n t r = t
table-short Results ts rs n t r = r

-- a division is an error where the divisor is 0
positive : (n : ℕ) (c : Config) → (cond (eqb n 0) error_state (next c) ≡ error_state → ⊥) → 0 < n
positive n c safe = go (ℕ_discrete n 0)
  where
    go : Dec (n ≡ 0) → 0 < n
    go (yes e) = absurd (safe (rw (eq-eqb _ _ e)))
    go (no e) = omega arith

divided : (n : ℕ) (c : Config) → 0 < n → cond (eqb n 0) error_state (next c) ≡ next c
divided n c pos = rw (ne_eqb n 0 (λ e. omega arith))

module _ (p : ℕ) (vs : List ℕ) (t : Tables) (over : ValuesOver vs t) where
  -- a register is written
  module _ (d x : ℕ) (in-d : d < registers) where
    put-config : config (p + 1) (set vs d x) t ≡ wrote (config p vs t) d x
    put-config = ap (λ (l : List ℕ). record { point = p + 1; registers = l; tables = t }) (take-set-lt registers vs d x in-d)

    put-over : ValuesOver (set vs d x) t
    put-over =
        let long : length vs ≡ length (take registers vs) + tables = ap length over ∙ length-append (take registers vs) _ in
        ap (λ (l : List ℕ). set l d x) over ∙ set-append_left (take registers vs) _ d x (omega (arith, length-take registers vs))
        ∙ ap (λ (l : List ℕ). values_from l (sizes_of t)) (sym (take-set-lt registers vs d x in-d))

    written-stepped : (i : Instruction) → step_of i (config p vs t) ≡ next (wrote (config p vs t) d x)
        → {y p' : ℕ} {vs' : List ℕ} → Written p d y vs p' vs' → y ≡ x → Stepped i p vs t p' vs' t
    written-stepped i e w f = rw (w.point, w.values, f) (record { led = sym (ap (settled (config p vs t)) e ∙ ap at (sym put-config)); values = put-over })

  -- another point
  went-stepped : (i : Instruction) (q : ℕ) → step_of i (config p vs t) ≡ next (went (config p vs t) q) → Stepped i p vs t q vs t
  went-stepped i q e = record { led = sym (ap (settled (config p vs t)) e); values = over }

  pub stop-stepped : Stepped Stop p vs t p vs t
  unfolding step_of
  stop-stepped = record { led = refl; values = over }

  pub setc-stepped : (d x : ℕ) → d < registers → {y p' : ℕ} {vs' : List ℕ} → Written p d y vs p' vs' → y ≡ x → Stepped (Setc d x) p vs t p' vs' t
  unfolding step_of
  setc-stepped d x h = written-stepped d _ h (Setc d x) refl

  pub copy-stepped : (d i : ℕ) → d < registers → {y p' : ℕ} {vs' : List ℕ} → Written p d y vs p' vs' → y ≡ (value_at vs i) → Stepped (Copy d i) p vs t p' vs' t
  unfolding step_of
  copy-stepped d i h = written-stepped d _ h (Copy d i) (ap (λ (us : List ℕ). next (wrote (config p vs t) d (value_at us i))) (sym over))

  pub addw-stepped : (d i : ℕ) (o : Operand) → d < registers → {y p' : ℕ} {vs' : List ℕ} → Written p d y vs p' vs' → y ≡ (sum (value_at vs i) (operand_at vs o)) → Stepped (Addw d i o) p vs t p' vs' t
  unfolding step_of
  addw-stepped d i o h = written-stepped d _ h (Addw d i o) (ap (λ (us : List ℕ). next (wrote (config p vs t) d (sum (value_at us i) (operand_at us o)))) (sym over))

  pub subw-stepped : (d i : ℕ) (o : Operand) → d < registers → {y p' : ℕ} {vs' : List ℕ} → Written p d y vs p' vs' → y ≡ (difference (value_at vs i) (operand_at vs o)) → Stepped (Subw d i o) p vs t p' vs' t
  unfolding step_of
  subw-stepped d i o h = written-stepped d _ h (Subw d i o) (ap (λ (us : List ℕ). next (wrote (config p vs t) d (difference (value_at us i) (operand_at us o)))) (sym over))

  pub mulw-stepped : (d i : ℕ) (o : Operand) → d < registers → {y p' : ℕ} {vs' : List ℕ} → Written p d y vs p' vs' → y ≡ (product (value_at vs i) (operand_at vs o)) → Stepped (Mulw d i o) p vs t p' vs' t
  unfolding step_of
  mulw-stepped d i o h = written-stepped d _ h (Mulw d i o) (ap (λ (us : List ℕ). next (wrote (config p vs t) d (product (value_at us i) (operand_at us o)))) (sym over))

  -- DIVF
  module _ (d i : ℕ) (o : Operand) where
    divf-step : step_of (Divf d i o) (config p vs t) ≡ cond (eqb (operand_at vs o) 0) error_state (next (wrote (config p vs t) d (nearest_quotient (value_at vs i) (operand_at vs o))))
    unfolding step_of
    divf-step = ap (λ (us : List ℕ). cond (eqb (operand_at us o) 0) error_state (next (wrote (config p vs t) d (nearest_quotient (value_at us i) (operand_at us o))))) (sym over)

    pub divisor : (step_of (Divf d i o) (config p vs t) ≡ error_state → ⊥) → 0 < operand_at vs o
    divisor safe = positive (operand_at vs o) _ (λ e. safe (divf-step ∙ e))

    pub divf-stepped : d < registers → 0 < operand_at vs o
        → {y p' : ℕ} {vs' : List ℕ} → Written p d y vs p' vs' → y ≡ nearest_quotient (value_at vs i) (operand_at vs o) → Stepped (Divf d i o) p vs t p' vs' t
    divf-stepped h pos = written-stepped d _ h (Divf d i o) (divf-step ∙ divided (operand_at vs o) _ pos)

  -- an access outside its table is an error
  inside-room : (a : ℕ) (w : Width) (l : List ℕ) (c : Config) → (inside a w l c ≡ error_state → ⊥) → a + bytes_of w ≤ length l
  inside-room a w l c safe = go (dec_le (a + bytes_of w) (length l))
    where
      go : Dec (a + bytes_of w ≤ length l) → a + bytes_of w ≤ length l
      go (yes h) = h
      go (no h) = absurd (safe (rw (lt-leb (a + bytes_of w) (length l) (omega arith))))

  module _ (d : ℕ) (w : Width) (b : Table) (a i k : ℕ) where
    load_step : step_of (Load d w b a i k) (config p vs t) ≡ inside (address a (value_at vs i) k) w (table_of b t) (wrote (config p vs t) d (read_bytes (bytes_of w) (table_of b t) (address a (value_at vs i) k)))
    unfolding step_of
    load_step = ap (λ (us : List ℕ). inside (address a (value_at us i) k) w (table_of b t) (wrote (config p vs t) d (read_bytes (bytes_of w) (table_of b t) (address a (value_at us i) k)))) (sym over)

    pub load-room : (step_of (Load d w b a i k) (config p vs t) ≡ error_state → ⊥) → address a (value_at vs i) k + bytes_of w ≤ length (table_of b t)
    load-room safe = inside-room (address a (value_at vs i) k) w (table_of b t) _ (λ e. safe (load_step ∙ e))

    pub load-stepped : d < registers → address a (value_at vs i) k + bytes_of w ≤ length (table_of b t)
        → {y p' : ℕ} {vs' : List ℕ} → Written p d y vs p' vs' → y ≡ read_bytes (bytes_of w) (table_of b t) (address a (value_at vs i) k)
        → Stepped (Load d w b a i k) p vs t p' vs' t
    load-stepped h room = written-stepped d _ h (Load d w b a i k) (load_step ∙ rw (le-leb _ _ room))

  module _ (v : ℕ) (w : Width) (a i k : ℕ) where
    stor-step : step_of (Stor v w a i k) (config p vs t) ≡ inside (address a (value_at vs i) k) w t.results (stored (config p vs t) (write_bytes (bytes_of w) t.results (address a (value_at vs i) k) (value_at vs v)))
    unfolding step_of
    stor-step = ap (λ (us : List ℕ). inside (address a (value_at us i) k) w t.results (stored (config p vs t) (write_bytes (bytes_of w) t.results (address a (value_at us i) k) (value_at us v)))) (sym over)

    pub stor-room : (step_of (Stor v w a i k) (config p vs t) ≡ error_state → ⊥) → address a (value_at vs i) k + bytes_of w ≤ length t.results
    stor-room safe = inside-room (address a (value_at vs i) k) w t.results _ (λ e. safe (stor-step ∙ e))

    pub stor-stepped : address a (value_at vs i) k + bytes_of w ≤ length t.results
        → Stepped (Stor v w a i k) p vs t (p + 1) vs (lent t.trays (write_bytes (bytes_of w) t.results (address a (value_at vs i) k) (value_at vs v)))
    stor-stepped room = record {
      led =
          let e : step_of (Stor v w a i k) (config p vs t) ≡ next (stored (config p vs t) (write_bytes (bytes_of w) t.results (address a (value_at vs i) k) (value_at vs v))) = stor-step ∙ rw (le-leb _ _ room) in
          sym (ap (settled (config p vs t)) e);
      values = over ∙ ap (λ (n : ℕ). values_from (take registers vs) (length t.trays ∷ n ∷ [])) (sym (write-long (bytes_of w) t.results (address a (value_at vs i) k) (value_at vs v)));
    }

  pub jump-stepped : (u : ℕ) → Stepped (Jump u) p vs t u vs t
  unfolding step_of
  jump-stepped u = went-stepped (Jump u) u refl

  -- the target where a test holds, else the next point
  branch-stepped : (i : Instruction) (u : ℕ) {x y : Bool} → step_of i (config p vs t) ≡ next (went (config p vs t) (cond x u (p + 1)))
      → y ≡ x → {q : ℕ} → q ≡ cond y u (p + 1) → Stepped i p vs t q vs t
  branch-stepped i u e f g = rw (g, f) (went-stepped i _ e)

  pub bltu-stepped : (i u : ℕ) (o : Operand) {x : Bool} → x ≡ ltb (value_at vs i) (operand_at vs o) → {q : ℕ} → q ≡ cond x u (p + 1) → Stepped (Bltu i u o) p vs t q vs t
  unfolding step_of
  bltu-stepped i u o = branch-stepped (Bltu i u o) u (ap (λ (us : List ℕ). next (went (config p vs t) (cond (ltb (value_at us i) (operand_at us o)) u (p + 1)))) (sym over))

  pub bequ-stepped : (i u : ℕ) (o : Operand) {x : Bool} → x ≡ eqb (value_at vs i) (operand_at vs o) → {q : ℕ} → q ≡ cond x u (p + 1) → Stepped (Bequ i u o) p vs t q vs t
  unfolding step_of
  bequ-stepped i u o = branch-stepped (Bequ i u o) u (ap (λ (us : List ℕ). next (went (config p vs t) (cond (eqb (value_at us i) (operand_at us o)) u (p + 1)))) (sym over))

-- DIVM, which writes two registers
module _ (p : ℕ) (vs : List ℕ) (t : Tables) (over : ValuesOver vs t) (q i r : ℕ) (o : Operand) where
  divm-step : step_of (Divm q i r o) (config p vs t) ≡ cond (eqb (operand_at vs o) 0) error_state (next (wrote_both (config p vs t) q (quotient (value_at vs i) (operand_at vs o)) r (remainder (value_at vs i) (operand_at vs o))))
  unfolding step_of
  divm-step = ap (λ (us : List ℕ). cond (eqb (operand_at us o) 0) error_state (next (wrote_both (config p vs t) q (quotient (value_at us i) (operand_at us o)) r (remainder (value_at us i) (operand_at us o))))) (sym over)

  pub divm-divisor : (step_of (Divm q i r o) (config p vs t) ≡ error_state → ⊥) → 0 < operand_at vs o
  divm-divisor safe = positive (operand_at vs o) _ (λ e. safe (divm-step ∙ e))

  pub divm-stepped : q < registers → r < registers → 0 < operand_at vs o
      → Stepped (Divm q i r o) p vs t (p + 1) (set (set vs q (quotient (value_at vs i) (operand_at vs o))) r (remainder (value_at vs i) (operand_at vs o))) t
  divm-stepped in-q in-r pos =
      let x = quotient (value_at vs i) (operand_at vs o) in
      let y = remainder (value_at vs i) (operand_at vs o) in
      let both : config (p + 1) (set (set vs q x) r y) t ≡ wrote_both (config p vs t) q x r y =
      ap (λ (l : List ℕ). record { point = p + 1; registers = l; tables = t }) (take-set-lt registers (set vs q x) r y in-r ∙ ap (λ (l : List ℕ). set l r y) (take-set-lt registers vs q x in-q)) in
      record {
        led = sym (ap (settled (config p vs t)) (divm-step ∙ divided (operand_at vs o) _ pos) ∙ ap at (sym both));
        values = put-over p (set vs q x) t (put-over p vs t over q x in-q) r y in-r;
      }

-- an instruction that equals another steps as it does
pub steppable-as : {i j : Instruction} {p : ℕ} {vs : List ℕ} {t : Tables} → i ≡ j → Steppable i p vs t → Steppable j p vs t
steppable-as {i} {j} {p} {vs} {t} e h = subst (λ (x : Instruction). Steppable x p vs t) e h

pub stepped-as : {i j : Instruction} {p : ℕ} {vs : List ℕ} {t : Tables} {p' : ℕ} {vs' : List ℕ} {t' : Tables} → i ≡ j → Stepped j p vs t p' vs' t' → Stepped i p vs t p' vs' t'
stepped-as {i} {j} {p} {vs} {t} {p'} {vs'} {t'} e h = subst (λ (x : Instruction). Stepped x p vs t p' vs' t') (sym e) h
