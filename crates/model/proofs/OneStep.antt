-- One step from a configuration that meets the claims of its point: no error, and the claims of the next point are met. Assumes nothing.
use mathlib.Core.Path.{◌≡◌, refl, ap, sym, subst, ◌∙◌}
use mathlib.Core.Bool.{true, cond}
use mathlib.Core.List.{List, [], ◌∷◌}
use Prim.Native.Nat.{ℕ, ◌+◌, ◌*◌, ◌^◌, ◌≤◌, ◌<◌}
use native.Mathlib.Nat.{add-zero, mul-le-mul_left, le_trans, mod-le}
use native.Mathlib.Omega.{arith}
use native.Mathlib.Decide.{ℕ_discrete}
use lib.ListN.{length, get_or, set, length-set, length-append}
use lib.Seq.{get_or-set_same, get_or-set_other, set-append_left, get_or-append-add}
use lib.Dec.{ltb, leb, eqb}
use borrow.Author.Tests.{ltb-true, ltb-false, leb-true, leb-false, eqb-true, eqb-false}
use Rattle.model.specs.Types.{Width, One, Two, Four, Table, Trays, Results, Operand, Instruction, Stop, Setc, Copy, Addw, Subw, Mulw, Divf, Load, Stor, Jump, Bltu, Bequ, Divm, Edge, Next, Target, Claim, accepted, Err, NoSuchTarget, DivisorMayBeZero, AccessMayLeave, ClaimMayFail}
use Rattle.model.specs.Limits.{registers, variables, blank_variable, MAX, modulus, greatest_links, today}
use Rattle.model.specs.Facts.{Facts, lo, hi, facts_of, value_at}
use Rattle.model.specs.Instructions.{targets, goes_on}
use Rattle.model.specs.Listing.{Point, first_line, point_at, targets_exist}
use Rattle.model.specs.Machine.{Tables, lent, table_of, table_number, sizes_of, size_variable, Config, values_from, values, value_of, operand_value, bytes_of, read_bytes, write_bytes, sum, difference, product, quotient, nearest_quotient, remainder, address, wrote, wrote_both, went, stored, Step, next, stopped, error_state, inside, step_of}
use Rattle.model.specs.Transfer.{stripe, facts_along}
use Rattle.model.specs.Follows.{lost_along}
use Rattle.model.specs.Check.{divisor_safe, access_safe, safety_judged, claims_judged, owed_judged}
use Rattle.model.specs.Safety.{Sized}
use Rattle.model.proofs.Tests.{or_cases, cond_cases}
use Rattle.model.proofs.Lists.{All, all-at}
use Rattle.model.proofs.Meaning.{Holds, Met}
use Rattle.model.proofs.Follows.{follows-holds, none-lost-along}
use Rattle.model.proofs.Facts.{facts-long, Bounded, top, top-register, blank-value, small-value, met-facts}
use Rattle.model.proofs.Ranges.{OnlyAt}
use Rattle.model.proofs.Values.{div-small, nearest-small, read_below, write-long, write_byte}
use Rattle.model.proofs.Transfer.{in-operand, setc-met, copy_met, addw-met, subw-met, mulw-met, divf-met, load-met, less-met, not-less-met, equal-met, unequal-met, divm-met}
use Rattle.model.specs.Limited.{Limited}
use Rattle.model.proofs.Reading.{both-accepted, test-passed, PointLimited}

-- a configuration of the machine's types: sixteen registers, tables of these sizes, no value above the unclaimed end of its variable
pub record Typed (sizes : List ℕ) (c : Config) : Type 0 where
  pub registers : length c.registers ≡ registers
  pub tables : Sized sizes c.tables
  pub bounded : Bounded (value_of c)

-- a register written
module _ (sizes : List ℕ) (c : Config) (t : Typed sizes c) (d x : ℕ) (inside-d : d < registers) where
  wrote-values : values (wrote c d x) ≡ set (values c) d x
  wrote-values = let r = t.registers in sym (set-append_left c.registers _ d x (omega arith))

  values-long : length (values c) ≡ variables
  values-long = let r = t.registers in simp length-append (omega arith)

  wrote_value : value_of (wrote c d x) d ≡ x
  wrote_value = let l = values-long in ap (λ (vs : List ℕ). value_at vs d) wrote-values ∙ get_or-set_same (values c) d x 0 (omega arith)

  wrote-same : OnlyAt d (value_of c) (value_of (wrote c d x))
  wrote-same v o = ap (λ (vs : List ℕ). value_at vs v) wrote-values ∙ get_or-set_other (values c) d v x 0 o

  wrote-typed : x ≤ MAX → Typed sizes (wrote c d x)
  wrote-typed small = record { registers = length-set c.registers d x ∙ t.registers; tables = t.tables; bounded = λ v. go v (ℕ_discrete v d) }
    where
      go : (v : ℕ) → Dec (v ≡ d) → value_of (wrote c d x) v ≤ top v
      go v (yes e) = rw e (omega (arith, wrote_value, top-register d inside-d))
      go v (no o) = rw (wrote-same v o) (t.bounded v)

size-at : (t : Tables) (b : Table) → get_or (sizes_of t) (table_number b) 0 ≡ length (table_of b t)
size-at t Trays = refl
size-at t Results = refl

-- the size of a table is the value of its variable
module _ (sizes : List ℕ) (c : Config) (t : Typed sizes c) where
  pub size-value : (b : Table) → value_of c (size_variable b) ≡ length (table_of b c.tables)
  size-value b =
      let e : get_or (values c) (length c.registers + table_number b) 0 ≡ get_or (sizes_of c.tables) (table_number b) 0 = get_or-append-add c.registers _ (table_number b) 0 in
      rw t.registers at e ∙ size-at c.tables b

  -- an access that is safe by the facts lies inside its table
  access-inside : (f : Facts) → Met (value_of c) f → (b : Table) (w : Width) (a i k : ℕ) → access_safe f b w a i k ≡ true → address a (value_of c i) k + bytes_of w ≤ length (table_of b c.tables)
  access-inside f h b w a i k e =
      let size = size-value b in
      let zero-blank = blank-value (value_of c) t.bounded in
      or_cases (leb (a * hi f.ranges i + k + bytes_of w) (lo f.ranges (size_variable b))) _ e
      (λ q.
      let r = h.ranges i in
      let s = h.ranges (size_variable b) in
      omega (arith, leb-true, mul-le-mul_left a r.1))
      (λ q.
      let g : Holds (value_of c) (stripe (size_variable b) a i blank_variable (k + bytes_of w) 0) = follows-holds (value_of c) f h greatest_links _ q in
      let z : a * (value_of c i + value_of c blank_variable) ≡ a * value_of c i = rw (zero-blank, add-zero) in
      omega arith)

-- a configuration that meets the claims of its point
pub record Good (ps : List Point) (sizes : List ℕ) (c : Config) : Type 0 where
  pub exists : c.point < length ps
  pub typed : Typed sizes c
  pub met : Met (value_of c) (facts_of (point_at ps c.point).claims)

-- a step that is no error, leads to such a configuration, and leaves the trays as they are
abbrev pub StepGood : List Point → List ℕ → List ℕ → Step → Type 0
StepGood ps sizes ts (next c) = Good ps sizes c × (c.tables.trays ≡ ts)
StepGood ps sizes ts stopped = Unit {0}
StepGood ps sizes ts error_state = ⊥

-- bytes stored in the results leave every other table as it is
stored_bytes : (t : Tables) (rs : List ℕ) → ((b : Table) (i : ℕ) → get_or (table_of b t) i 0 < 256) → ((i : ℕ) → get_or rs i 0 < 256) → (b : Table) (i : ℕ) → get_or (table_of b (lent t.trays rs)) i 0 < 256
stored_bytes t rs byte new Trays i = byte Trays i
stored_bytes t rs byte new Results i = new i

width_small : (w : Width) → 256 ^ bytes_of w ≤ modulus
width_small One = omega arith
width_small Two = omega arith
width_small Four = omega arith

module _ (ps : List Point) (limited : All PointLimited ps) (sizes : List ℕ) where
  -- the claims of a point follow along an edge to it, so that they are met there
  arrive : (l : ℕ) (f : Facts) (c' : Config) → c'.point < length ps → Typed sizes c' → Met (value_of c') f → claims_judged l f (point_at ps c'.point) ≡ accepted → Good ps sizes c'
  arrive l f c' inside-c t h e =
      let q = point_at ps c'.point in
      let lim : PointLimited q = all-at PointLimited ps _ c'.point inside-c limited in
      let none : lost_along f (first_line q) q.claims ≡ 0 = eqb-true _ _ (test-passed (eqb (lost_along f (first_line q) q.claims) 0) (ClaimMayFail l (lost_along f (first_line q) q.claims)) e) in
      record {
        exists = inside-c;
        typed = t;
        met = met-facts (value_of c') q.claims t.bounded (none-lost-along (value_of c') f h (first_line q) q.claims (omega (arith, lim.before)) none);
      }

  -- a step from a point with the claims cs on the line l
  module _ (c : Config) (t : Typed sizes c) (l : ℕ) (cs : List Claim) (h : Met (value_of c) (facts_of cs)) where
    -- a register is written
    write-good : (i : Instruction) (d x : ℕ) → d < registers → x ≤ MAX → c.point + 1 < length ps → Met (value_of (wrote c d x)) (facts_along today Next i (facts_of cs))
        → claims_judged l (facts_along today Next i (facts_of cs)) (point_at ps (c.point + 1)) ≡ accepted → StepGood ps sizes c.tables.trays (next (wrote c d x))
    write-good i d x in-d small on k e = (arrive l (facts_along today Next i (facts_of cs)) (wrote c d x) on (wrote-typed sizes c t d x in-d small) k e, refl)

    -- no value changes
    go-good : (i : Instruction) (e : Edge) (p : ℕ) → p < length ps → Met (value_of c) (facts_along today e i (facts_of cs))
        → claims_judged l (facts_along today e i (facts_of cs)) (point_at ps p) ≡ accepted → StepGood ps sizes c.tables.trays (next (went c p))
    go-good i e p on k j =
        (arrive l (facts_along today e i (facts_of cs)) (went c p) on (record { registers = t.registers; tables = t.tables; bounded = t.bounded }) k j, refl)

    module _ (d : ℕ) (in-d : d < registers) where
      in-ranges : d < length (facts_of cs).ranges
      in-ranges = omega (arith, facts-long cs)

      blank-after : (x : ℕ) → x ≤ MAX → value_of (wrote c d x) blank_variable ≡ 0
      blank-after x small = blank-value (value_of (wrote c d x)) (wrote-typed sizes c t d x in-d small).bounded

    -- DIVF: a divisor that is safe by the facts is not 0
    divf-good : (d i : ℕ) (o : Operand) → d < registers → c.point + 1 < length ps → divisor_safe (facts_of cs) o ≡ true
        → claims_judged l (facts_along today Next (Divf d i o) (facts_of cs)) (point_at ps (c.point + 1)) ≡ accepted → StepGood ps sizes c.tables.trays (step_of (Divf d i o) c)
    unfolding step_of
    divf-good d i o in-d on safe e =
        let x = nearest_quotient (value_of c i) (operand_value c o) in
        let r = in-operand (values c) (facts_of cs) h o in
        let pos : 0 < operand_value c o = omega (arith, leb-true) in
        let small : x ≤ MAX = nearest-small (value_of c i) (operand_value c o) MAX pos (small-value (value_of c) t.bounded i) in
        cond_cases (StepGood ps sizes c.tables.trays) (eqb (operand_value c o) 0) error_state (next (wrote c d x))
        (λ z. omega (arith, eqb-true))
        (λ z.
        write-good (Divf d i o) d x in-d small on
        (divf-met (values c) (facts_of cs) h (values (wrote c d x)) d (in-ranges d in-d) (wrote-same sizes c t d x in-d) (blank-after d in-d x small) Next i o pos (wrote_value sizes c t d x in-d))
        e)

    -- DIVM: the same, with the remainder written after the quotient
    divm-good : (q i r : ℕ) (o : Operand) → q < registers → r < registers → c.point + 1 < length ps → divisor_safe (facts_of cs) o ≡ true
        → claims_judged l (facts_along today Next (Divm q i r o) (facts_of cs)) (point_at ps (c.point + 1)) ≡ accepted → StepGood ps sizes c.tables.trays (step_of (Divm q i r o) c)
    unfolding step_of
    divm-good q i r o in-q in-r on safe e =
        let x = quotient (value_of c i) (operand_value c o) in
        let y = remainder (value_of c i) (operand_value c o) in
        let d = wrote c q x in
        let p = in-operand (values c) (facts_of cs) h o in
        let pos : 0 < operand_value c o = omega (arith, leb-true) in
        let small : value_of c i ≤ MAX = small-value (value_of c) t.bounded i in
        let few : x ≤ MAX = div-small (value_of c i) (operand_value c o) MAX pos small in
        let left : y ≤ MAX = le_trans (mod-le (value_of c i) (operand_value c o)) small in
        let first : Typed sizes d = wrote-typed sizes c t q x in-q few in
        let second : Typed sizes (wrote d r y) = wrote-typed sizes d first r y in-r left in
        cond_cases (StepGood ps sizes c.tables.trays) (eqb (operand_value c o) 0) error_state (next (wrote_both c q x r y))
        (λ z. omega (arith, eqb-true))
        (λ z. (
          arrive l (facts_along today Next (Divm q i r o) (facts_of cs)) (wrote_both c q x r y) on
              (record { registers = second.registers; tables = second.tables; bounded = second.bounded })
              (divm-met (values c) (facts_of cs) h (values d) (values (wrote d r y)) q r
              (in-ranges q in-q) (wrote-same sizes c t q x in-q) (blank-value (value_of d) first.bounded)
              (in-ranges r in-r) (wrote-same sizes d first r y in-r) (blank-value (value_of (wrote d r y)) second.bounded)
              Next i o pos (wrote_value sizes c t q x in-q) (wrote_value sizes d first r y in-r))
              e,
          refl,
        ))

    -- an access that is safe by the facts is made
    access-good : (b : Table) (w : Width) (a i k : ℕ) (c' : Config) → access_safe (facts_of cs) b w a i k ≡ true → StepGood ps sizes c.tables.trays (next c')
        → StepGood ps sizes c.tables.trays (inside (address a (value_of c i) k) w (table_of b c.tables) c')
    access-good b w a i k c' safe g =
        let room = access-inside sizes c t (facts_of cs) h b w a i k safe in
        cond_cases (StepGood ps sizes c.tables.trays) (leb (address a (value_of c i) k + bytes_of w) (length (table_of b c.tables))) (next c') error_state
        (λ z. g) (λ z. omega (arith, leb-false))

    load-good : (d : ℕ) (w : Width) (b : Table) (a i k : ℕ) → d < registers → c.point + 1 < length ps
        → claims_judged l (facts_along today Next (Load d w b a i k) (facts_of cs)) (point_at ps (c.point + 1)) ≡ accepted
        → StepGood ps sizes c.tables.trays (next (wrote c d (read_bytes (bytes_of w) (table_of b c.tables) (address a (value_of c i) k))))
    load-good d w b a i k in-d on e =
        let x = read_bytes (bytes_of w) (table_of b c.tables) (address a (value_of c i) k) in
        let few : x < 256 ^ bytes_of w = read_below (table_of b c.tables) (t.tables.byte b) (bytes_of w) (address a (value_of c i) k) in
        let small : x ≤ MAX = omega (arith, width_small w) in
        let new = wrote_value sizes c t d x in-d in
        write-good (Load d w b a i k) d x in-d small on
        (load-met (values c) (facts_of cs) h (values (wrote c d x)) d (in-ranges d in-d) (wrote-same sizes c t d x in-d) (blank-after d in-d x small) Next w b a i k (rw new few))
        e

    -- a store keeps the size of the results, and with it every value
    stor-good : (v : ℕ) (w : Width) (a i k : ℕ) → c.point + 1 < length ps
        → claims_judged l (facts_along today Next (Stor v w a i k) (facts_of cs)) (point_at ps (c.point + 1)) ≡ accepted
        → StepGood ps sizes c.tables.trays (next (stored c (write_bytes (bytes_of w) c.tables.results (address a (value_of c i) k) (value_of c v))))
    unfolding facts_along
    stor-good v w a i k on e =
        let rs = write_bytes (bytes_of w) c.tables.results (address a (value_of c i) k) (value_of c v) in
        let long : length rs ≡ length c.tables.results = write-long (bytes_of w) c.tables.results (address a (value_of c i) k) (value_of c v) in
        let fixed : sizes_of c.tables ≡ sizes_of (lent c.tables.trays rs) = ap (λ (n : ℕ). length c.tables.trays ∷ n ∷ []) (sym long) in
        let same : values c ≡ values (stored c rs) = ap (values_from c.registers) fixed in
        let typed : Typed sizes (stored c rs) = record {
          registers = t.registers;
          tables = record { size = sym fixed ∙ t.tables.size; byte = stored_bytes c.tables rs t.tables.byte (write_byte (bytes_of w) c.tables.results (address a (value_of c i) k) (value_of c v) (t.tables.byte Results)) };
          bounded = subst (λ (vs : List ℕ). Bounded (value_at vs)) same t.bounded;
        } in
        (arrive l (facts_of cs) (stored c rs) on typed (subst (λ (vs : List ℕ). Met (value_at vs) (facts_of cs)) same h) e, refl)

    bltu-good : (i u : ℕ) (o : Operand) → c.point + 1 < length ps → u < length ps
        → claims_judged l (facts_along today Next (Bltu i u o) (facts_of cs)) (point_at ps (c.point + 1)) ≡ accepted
        → claims_judged l (facts_along today (Target u) (Bltu i u o) (facts_of cs)) (point_at ps u) ≡ accepted
        → StepGood ps sizes c.tables.trays (step_of (Bltu i u o) c)
    unfolding step_of
    bltu-good i u o on there e e' =
        cond_cases (λ (p : ℕ). StepGood ps sizes c.tables.trays (next (went c p))) (ltb (value_of c i) (operand_value c o)) u (c.point + 1)
        (λ z. go-good (Bltu i u o) (Target u) u there (less-met (values c) (facts_of cs) h (facts-long cs) i u o u (ltb-true _ _ z)) e')
        (λ z. go-good (Bltu i u o) Next (c.point + 1) on (not-less-met (values c) (facts_of cs) h (facts-long cs) i u o (ltb-false _ _ z)) e)

    bequ-good : (i u : ℕ) (o : Operand) → c.point + 1 < length ps → u < length ps
        → claims_judged l (facts_along today Next (Bequ i u o) (facts_of cs)) (point_at ps (c.point + 1)) ≡ accepted
        → claims_judged l (facts_along today (Target u) (Bequ i u o) (facts_of cs)) (point_at ps u) ≡ accepted
        → StepGood ps sizes c.tables.trays (step_of (Bequ i u o) c)
    unfolding step_of
    bequ-good i u o on there e e' =
        cond_cases (λ (p : ℕ). StepGood ps sizes c.tables.trays (next (went c p))) (eqb (value_of c i) (operand_value c o)) u (c.point + 1)
        (λ z. go-good (Bequ i u o) (Target u) u there (equal-met (values c) (facts_of cs) h (facts-long cs) i u o u (eqb-true _ _ z)) e')
        (λ z. go-good (Bequ i u o) Next (c.point + 1) on (unequal-met (values c) (facts_of cs) h (facts-long cs) i u o (eqb-false _ _ z)) e)

    jump-good : (u : ℕ) → u < length ps → claims_judged l (facts_along today (Target u) (Jump u) (facts_of cs)) (point_at ps u) ≡ accepted → StepGood ps sizes c.tables.trays (next (went c u))
    unfolding facts_along
    jump-good u there e = go-good (Jump u) (Target u) u there h e

    target-exists : (u : ℕ) → targets_exist (length ps) l (u ∷ []) ≡ accepted → u < length ps
    target-exists u e = ltb-true u (length ps) (test-passed (ltb u (length ps)) (NoSuchTarget l) (both-accepted _ _ e).0)

    pub step-good : (i : Instruction) → Limited i → (goes_on i ≡ true → c.point + 1 < length ps) → targets_exist (length ps) l (targets i) ≡ accepted
        → owed_judged today ps c.point (record { line = l; claims = cs; instruction = i }) ≡ accepted → StepGood ps sizes c.tables.trays (step_of i c)
    unfolding step_of owed_judged safety_judged
    step-good Stop lim on reach owed = tt
    step-good (Setc d x) lim on reach owed =
        write-good (Setc d x) d x lim.0 lim.1 (on refl)
        (setc-met (values c) (facts_of cs) h (values (wrote c d x)) d (in-ranges d lim.0) (wrote-same sizes c t d x lim.0) (blank-after d lim.0 x lim.1) Next x (wrote_value sizes c t d x lim.0))
        (both-accepted _ _ owed).0
    step-good (Copy d i) lim on reach owed =
        let x = value_of c i in
        let small = small-value (value_of c) t.bounded i in
        write-good (Copy d i) d x lim.0 small (on refl)
        (copy_met (values c) (facts_of cs) h (values (wrote c d x)) d (in-ranges d lim.0) (wrote-same sizes c t d x lim.0) (blank-after d lim.0 x small) Next i (wrote_value sizes c t d x lim.0))
        (both-accepted _ _ owed).0
    step-good (Addw d i o) lim on reach owed =
        let x = sum (value_of c i) (operand_value c o) in
        let small : x ≤ MAX = omega arith in
        let in-d = lim.register in
        write-good (Addw d i o) d x in-d small (on refl)
        (addw-met (values c) (facts_of cs) h (values (wrote c d x)) d (in-ranges d in-d) (wrote-same sizes c t d x in-d) (blank-after d in-d x small) Next i o (wrote_value sizes c t d x in-d))
        (both-accepted _ _ owed).0
    step-good (Subw d i o) lim on reach owed =
        let x = difference (value_of c i) (operand_value c o) in
        let small : x ≤ MAX = omega arith in
        let in-d = lim.register in
        write-good (Subw d i o) d x in-d small (on refl)
        (subw-met (values c) (facts_of cs) h (values (wrote c d x)) d (in-ranges d in-d) (wrote-same sizes c t d x in-d) (blank-after d in-d x small) Next i o (small-value (value_of c) t.bounded i) (wrote_value sizes c t d x in-d))
        (both-accepted _ _ owed).0
    step-good (Mulw d i o) lim on reach owed =
        let x = product (value_of c i) (operand_value c o) in
        let small : x ≤ MAX = omega arith in
        let in-d = lim.register in
        write-good (Mulw d i o) d x in-d small (on refl)
        (mulw-met (values c) (facts_of cs) h (values (wrote c d x)) d (in-ranges d in-d) (wrote-same sizes c t d x in-d) (blank-after d in-d x small) Next i o (wrote_value sizes c t d x in-d))
        (both-accepted _ _ owed).0
    step-good (Divf d i o) lim on reach owed =
        let (safe, rest) = both-accepted (cond (divisor_safe (facts_of cs) o) accepted (Err (DivisorMayBeZero l))) _ owed in
        divf-good d i o lim.register (on refl) (test-passed _ _ safe) (both-accepted _ _ rest).0
    step-good (Load d w b a i k) lim on reach owed =
        let (safe, rest) = both-accepted (cond (access_safe (facts_of cs) b w a i k) accepted (Err (AccessMayLeave l))) _ owed in
        access-good b w a i k _ (test-passed _ _ safe) (load-good d w b a i k lim.0 (on refl) (both-accepted _ _ rest).0)
    step-good (Stor v w a i k) lim on reach owed =
        let (safe, rest) = both-accepted (cond (access_safe (facts_of cs) Results w a i k) accepted (Err (AccessMayLeave l))) _ owed in
        access-good Results w a i k _ (test-passed _ _ safe) (stor-good v w a i k (on refl) (both-accepted _ _ rest).0)
    step-good (Jump u) lim on reach owed = jump-good u (target-exists u reach) (both-accepted _ _ owed).0
    step-good (Bltu i u o) lim on reach owed =
        let (first, rest) = both-accepted (claims_judged l (facts_along today Next (Bltu i u o) (facts_of cs)) (point_at ps (c.point + 1))) _ owed in
        bltu-good i u o (on refl) (target-exists u reach) first (both-accepted _ _ rest).0
    step-good (Bequ i u o) lim on reach owed =
        let (first, rest) = both-accepted (claims_judged l (facts_along today Next (Bequ i u o) (facts_of cs)) (point_at ps (c.point + 1))) _ owed in
        bequ-good i u o (on refl) (target-exists u reach) first (both-accepted _ _ rest).0
    step-good (Divm q i r o) lim on reach owed =
        let (safe, rest) = both-accepted (cond (divisor_safe (facts_of cs) o) accepted (Err (DivisorMayBeZero l))) _ owed in
        divm-good q i r o lim.arithmetic.register lim.register (on refl) (test-passed _ _ safe) (both-accepted _ _ rest).0
