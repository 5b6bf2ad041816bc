-- What rows hold, and the claims of rows that follow each other. Assumes nothing.
use mathlib.Core.Path.{◌≡◌, refl, ap, ap₂, ◌∙◌}
use mathlib.Core.Bool.{true}
use mathlib.Core.List.{List, [], ◌∷◌, ◌++◌}
use Prim.Native.Nat.{ℕ, zero, suc, ◌+◌, ◌≤◌}
use native.Mathlib.Omega.{arith}
use native.Mathlib.Numerals.{add-one}
use lib.ListN.{length, set, length-append}
use lib.Seq.{get_or-set_other}
use Rattle.model.specs.declared.text.Word.{Word}
use Rattle.model.specs.declared.text.Word.TheVariants.{Stop as STOP, Setc as SETC, Copy as COPY, Addw as ADDW, Subw as SUBW, Mulw as MULW, Divf as DIVF, Load as LOAD, Stor as STOR, Jump as JUMP, Bltu as BLTU, Bequ as BEQU, Leas as LEAS, Most as MOST, Strp as STRP, Divm as DIVM, Turn as TURN}
use Rattle.model.specs.declared.machine.Instruction.{Instruction}
use Rattle.model.specs.declared.claims.Claim.{Claim}
use Rattle.model.specs.declared.claims.Line.TheVariants.{Claim as claim_line, Instruction as instruction_line}
use Rattle.model.specs.Writing.{is_taken}
use Rattle.line_rows.specs.declared.rows.Row.{Row}
use Rattle.line_rows.specs.Rows.{blank, row_at}
use Rattle.decoded.specs.Decoded.{line_of, line_of_row, instruction_in, instruction_from, claim_in, claim_from, claims_from}

-- where a row holds a claim, it is this one
pub claim-held : (r : Row) (x : Claim) → line_of_row r ≡ claim_line x → claim_from r ≡ x
claim-held r x e = ap (claim_in r) e

-- where a row holds an instruction, it is this one
pub instruction-held : (r : Row) (i : Instruction) → line_of_row r ≡ instruction_line i → instruction_from r ≡ i
instruction-held r i e = ap (instruction_in r) e

-- a row holds a claim or an instruction
taken : (w : Word) (r : Row) → is_taken (line_of w r) ≡ true
taken STOP r = refl
taken SETC r = refl
taken COPY r = refl
taken ADDW r = refl
taken SUBW r = refl
taken MULW r = refl
taken DIVF r = refl
taken LOAD r = refl
taken STOR r = refl
taken JUMP r = refl
taken BLTU r = refl
taken BEQU r = refl
taken LEAS r = refl
taken MOST r = refl
taken STRP r = refl
taken DIVM r = refl
taken TURN r = refl

pub row-taken : (r : Row) → is_taken (line_of_row r) ≡ true
row-taken r = taken r.word r

module _ (rows : List Row) (from : ℕ) where
  pub claims-none : claims_from rows from 0 ≡ []
  unfolding claims_from
  claims-none = refl

  -- one row more
  pub claims-next : (n : ℕ) → claims_from rows from (suc n) ≡ claims_from rows from n ++ (claim_from (row_at rows (from + n)) ∷ [])
  unfolding claims_from
  claims-next n = refl

  -- a claim for each row
  pub claims-count : (n : ℕ) → length (claims_from rows from n) ≡ n
  unfolding claims_from
  claims-count zero = refl
  claims-count (suc n) = length-append (claims_from rows from n) _ ∙ ap (λ (m : ℕ). m + 1) (claims-count n) ∙ add-one n

  -- a row that is written behind them changes none
  pub claims-kept : (k : ℕ) (r : Row) (n : ℕ) → from + n ≤ k → claims_from (set rows k r) from n ≡ claims_from rows from n
  unfolding claims_from
  claims-kept k r zero h = refl
  claims-kept k r (suc n) h =
      ap₂ (λ (cs : List Claim) (x : Row). cs ++ (claim_from x ∷ [])) (claims-kept k r n (omega arith)) (get_or-set_other rows k (from + n) r blank (λ e. omega arith))
