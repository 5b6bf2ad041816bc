-- A state as text: 17 lines of 40 bytes in a listing's own form, a JUMP to the point and then a SETC for each register, in order.
-- Every line is judged by 2 to 5 and 19, as a line of a listing is; a text that is anything else is no state.
use Rattle.std.specs.Prelude.{ℕ, zero, suc, ◌+◌, ◌<◌, ◌≤◌, ◌≡◌, Bool, ◌&&◌, not, cond, List, [], ◌∷◌, Option, Some, None, length, get_or, set, replicate, eqb}
use Rattle.model.specs.declared.text.Field.{Field}
use Rattle.model.specs.declared.text.Field.TheVariants.{Blank, Number}
use Rattle.model.specs.declared.text.Word.{Word}
use Rattle.model.specs.declared.text.Word.TheVariants.{Setc as SETC, Jump as JUMP}
use Rattle.model.specs.declared.machine.State.{State}
use Rattle.model.specs.Limits.{registers, MAX, greatest_points, today}
use Rattle.model.specs.Text.{space}
use Rattle.model.specs.Answers.{is_refused}
use Rattle.model.specs.Words.{text_of as word_text, begins}
use Rattle.model.specs.Lines.{well_spelled, fields_in, F1, F4, F6, judged}
use Rattle.model.specs.Listing.{line_at}
use Rattle.model.specs.Writing.{with_line}

-- the length of a state's text: 17 lines of 40 bytes
abbrev pub state_bytes : ℕ
state_bytes = 680

-- a line of this word: well spelled, and accepted with its fields
unfoldable pub is_line_of : Word → List ℕ → Bool
unfolding well_spelled begins judged fields_in
is_line_of w l = well_spelled l && begins l (word_text w) && not (is_refused (judged today 0 (Some w) (fields_in l)))

-- the point that a line names: that of a JUMP
unfoldable pub target_on : List ℕ → Option ℕ
unfolding is_line_of fields_in
target_on l = cond (is_line_of JUMP l) (Some (F4 (fields_in l))) None

-- the number that a line gives register v: that of a SETC of this register
unfoldable pub setting_on : List ℕ → ℕ → Option ℕ
unfolding is_line_of fields_in
setting_on l v = cond (is_line_of SETC l && eqb (F1 (fields_in l)) v) (Some (F6 (fields_in l))) None

-- one register more, where its line gives it a number and the lines before gave theirs
abbrev pub with_setting : Option (List ℕ) → ℕ → Option ℕ → Option (List ℕ)
with_setting None v c = None
with_setting (Some rs) v None = None
with_setting (Some rs) v (Some c) = Some (set rs v c)

-- the first registers of a text; register v stands on line v + 2
unfoldable pub registers_to : List ℕ → ℕ → Option (List ℕ)
unfolding setting_on
registers_to t zero = Some (replicate registers 0)
registers_to t (suc v) = with_setting (registers_to t v) v (setting_on (line_at t (v + 1)) v)

-- the state of the point and the registers of a text
abbrev pub state_from : Option ℕ → Option (List ℕ) → Option State
state_from None r = None
state_from (Some p) None = None
state_from (Some p) (Some rs) = Some (record { point = p; registers = rs })

-- the state of a text, where it is one
unfoldable pub saved_in : List ℕ → Option State
unfolding target_on registers_to
saved_in t = cond (eqb (length t) state_bytes) (state_from (target_on (line_at t 0)) (registers_to t registers)) None

-- writing: the fields of the line that names the point
abbrev pub point_fields : ℕ → List Field
point_fields p = Blank ∷ Blank ∷ Blank ∷ Number p ∷ Blank ∷ Blank ∷ []

-- writing: the fields of the line of register v
abbrev pub register_fields : ℕ → ℕ → List Field
register_fields v c = Number v ∷ Blank ∷ Blank ∷ Blank ∷ Blank ∷ Number c ∷ []

-- writing: a text with the line of the point
unfoldable pub point_set : List ℕ → ℕ → List ℕ
unfolding with_line
point_set t p = with_line t 0 (word_text JUMP) (point_fields p)

-- writing: a text with the line of register v
unfoldable pub register_set : List ℕ → ℕ → ℕ → List ℕ
unfolding with_line
register_set t v c = with_line t (v + 1) (word_text SETC) (register_fields v c)

-- writing: a text with the lines of the first registers
unfoldable pub registers_set : List ℕ → List ℕ → ℕ → List ℕ
unfolding register_set
registers_set t rs zero = t
registers_set t rs (suc v) = register_set (registers_set t rs v) v (get_or rs v 0)

-- the text of a state
unfoldable pub text_of : State → List ℕ
unfolding point_set registers_set
text_of s = registers_set (point_set (replicate state_bytes space) s.point) s.registers registers

-- a state that a run can hand back: sixteen registers of at most MAX, and a point below 512, as the JUMP line that names it takes no target above 511 and no listing has such a point
pub record Savable (s : State) : Type 0 where
  pub point : s.point < greatest_points
  pub sixteen : length s.registers ≡ registers
  pub numbers : (v : ℕ) → get_or s.registers v 0 ≤ MAX

-- the law: such a state is read back from its text
abbrev pub StateReadBack : Type 0
StateReadBack = (s : State) → Savable s → saved_in (text_of s) ≡ Some s
