-- A state is read back from its text: each line is the one that was set for it, and gives the number that it was set from. Assumes nothing.
use Prim.Native.Nat.{ℕ, zero, suc, ◌+◌, ◌*◌, ◌<◌, ◌≤◌}
use native.Mathlib.Nat.{not-suc-le-zero}
use native.Mathlib.Omega.{arith}
use native.Mathlib.Decide.{ℕ_discrete}
use mathlib.Core.Path.{◌≡◌, refl, sym, ap, ◌∙◌}
use mathlib.Core.Bool.{true, not}
use mathlib.Core.List.{List}
use lib.ListN.{length, get_or, set, replicate, length-set, length-replicate}
use lib.Seq.{get_or-set_same, get_or-set_other, ext_get_or}
use borrow.Author.Tests.{lt-ltb, le-leb}
use Rattle.model.specs.declared.text.Field.{Field}
use Rattle.model.specs.declared.text.Word.{Word}
use Rattle.model.specs.declared.text.Word.TheVariants.{Setc as SETC, Jump as JUMP}
use Rattle.std.specs.Prelude.{Some}
use Rattle.model.specs.Types.{accepted}
use Rattle.model.specs.declared.machine.State.{State}
use Rattle.model.specs.Limits.{line_bytes, registers, MAX, greatest_points, today}
use Rattle.model.specs.Lists.{every_below}
use Rattle.model.specs.Text.{space}
use Rattle.model.specs.Answers.{is_refused}
use Rattle.model.specs.Words.{text_of as word_text, fields_of, shaped, within, allowed}
use Rattle.model.specs.Lines.{fields_in, in_shape, in_limits, judged, line_set}
use Rattle.model.specs.Listing.{line_at}
use Rattle.written_line.proofs.LineFields.{begins-itself, begins-with, line_word, line-fields}
use Rattle.writer.proofs.Spelling.{line-spelled}
use Rattle.writer.proofs.Laws.{length_at, line-within, length-within, others-within, fields_fit}
use Rattle.saved.specs.States.{state_bytes, is_line_of, target_on, setting_on, registers_to, saved_in, point_fields, register_fields, point_set, register_set, registers_set, text_of, StateReadBack}
use Rattle.saved.proofs.StateLines.{begun, target, setting}
use Rattle.saved.proofs.StateText.{saved-whole}

-- ---- a line that is set
module _ (w : Word) (fs : List Field) (six : length fs ≡ 6) (j : judged today 0 (Some w) fs ≡ accepted) (l : List ℕ) (e : length l ≡ line_bytes) where
  set-fields : fields_in (line_set l (word_text w) fs) ≡ fs
  set-fields = line-fields l (word_text w) fs e six (fields_fit 0 w fs j)

  set-is-line : is_line_of w (line_set l (word_text w) fs) ≡ true
  set-is-line =
      let spelled = line-spelled l (word_text w) fs w e (begins-itself (word_text w)) (fields_fit 0 w fs j) in
      let named = begins-with (line_set l (word_text w) fs) (word_text w) (line_word l (word_text w) fs e) in
      let judgement : judged today 0 (Some w) (fields_in (line_set l (word_text w) fs)) ≡ accepted = ap (judged today 0 (Some w)) set-fields ∙ j in
      sym (begun (line_set l (word_text w) fs) w spelled named) ∙ ap (λ x. not (is_refused x)) judgement

point-accepted : (p : ℕ) → p < greatest_points → judged today 0 (Some JUMP) (point_fields p) ≡ accepted
unfolding judged in_shape in_limits every_below fields_of shaped allowed within
point-accepted p h = rw (lt-ltb p greatest_points h)

register-accepted : (v c : ℕ) → v < registers → c ≤ MAX → judged today 0 (Some SETC) (register_fields v c) ≡ accepted
unfolding judged in_shape in_limits every_below fields_of shaped allowed within
register-accepted v c h b = rw (lt-ltb v registers h, le-leb c MAX b)

module _ (l : List ℕ) (e : length l ≡ line_bytes) where
  point-read : (p : ℕ) → p < greatest_points → target_on (line_set l (word_text JUMP) (point_fields p)) ≡ Some p
  point-read p h =
      let j = point-accepted p h in
      rw (← target _ (set-is-line JUMP (point_fields p) refl j l e), set-fields JUMP (point_fields p) refl j l e)

  register-read : (v c : ℕ) → v < registers → c ≤ MAX → setting_on (line_set l (word_text SETC) (register_fields v c)) v ≡ Some c
  register-read v c h b =
      let j = register-accepted v c h b in
      let f = set-fields SETC (register_fields v c) refl j l e in
      rw (← setting _ v (set-is-line SETC (register_fields v c) refl j l e) (rw f), f)

-- ---- a text with a line set
module _ (t : List ℕ) (e : length t ≡ state_bytes) where
  module _ (p : ℕ) where
    length-point : length (point_set t p) ≡ state_bytes
    unfolding point_set
    length-point = length-within t 0 (word_text JUMP) (point_fields p) (omega arith) ∙ e

    point_at_lem : p < greatest_points → target_on (line_at (point_set t p) 0) ≡ Some p
    unfolding point_set
    point_at_lem h = rw (line-within t 0 (word_text JUMP) (point_fields p) (omega arith)) (point-read (line_at t 0) (length_at t 0 (word_text JUMP) (point_fields p) (omega arith)) p h)

  module _ (v c : ℕ) (h : v < registers) where
    room : (v + 1) * line_bytes + line_bytes ≤ length t
    room = omega arith

    length-register : length (register_set t v c) ≡ state_bytes
    unfolding register_set
    length-register = length-within t (v + 1) (word_text SETC) (register_fields v c) room ∙ e

    register-at : c ≤ MAX → setting_on (line_at (register_set t v c) (v + 1)) v ≡ Some c
    unfolding register_set
    register-at b =
        rw (line-within t (v + 1) (word_text SETC) (register_fields v c) room)
        (register-read (line_at t (v + 1)) (length_at t (v + 1) (word_text SETC) (register_fields v c) room) v c h b)

    others-at : (k : ℕ) → (k ≡ v + 1 → ⊥) → line_at (register_set t v c) k ≡ line_at t k
    unfolding register_set
    others-at = others-within t (v + 1) (word_text SETC) (register_fields v c) room

-- ---- a text with the lines of the first n registers set
module _ (t rs : List ℕ) (e : length t ≡ state_bytes) where
  length-registers : (n : ℕ) → n ≤ registers → length (registers_set t rs n) ≡ state_bytes
  unfolding registers_set
  length-registers zero h = e
  length-registers (suc n) h = length-register (registers_set t rs n) (length-registers n (omega arith)) n (get_or rs n 0) h

  first-line : (n : ℕ) → n ≤ registers → line_at (registers_set t rs n) 0 ≡ line_at t 0
  unfolding registers_set
  first-line zero h = refl
  first-line (suc n) h =
      others-at (registers_set t rs n) (length-registers n (omega arith)) n (get_or rs n 0) h 0 (λ q. omega arith) ∙ first-line n (omega arith)

  setting-at : ((v : ℕ) → get_or rs v 0 ≤ MAX) → (n : ℕ) → n ≤ registers → (v : ℕ) → v < n → setting_on (line_at (registers_set t rs n) (v + 1)) v ≡ Some (get_or rs v 0)
  unfolding registers_set
  setting-at small zero h v b = absurd (not-suc-le-zero b)
  setting-at small (suc n) h v b = go (ℕ_discrete v n) (setting-at small n (omega arith) v)
    where
      go : Dec (v ≡ n) → (v < n → setting_on (line_at (registers_set t rs n) (v + 1)) v ≡ Some (get_or rs v 0)) → setting_on (line_at (registers_set t rs (suc n)) (v + 1)) v ≡ Some (get_or rs v 0)
      go (yes q) f = rw q (register-at (registers_set t rs n) (length-registers n (omega arith)) n (get_or rs n 0) h (small n))
      go (no q) f = rw (others-at (registers_set t rs n) (length-registers n (omega arith)) n (get_or rs n 0) h (v + 1) (λ r. q (omega arith))) (f (omega arith))

-- ---- a text read by its lines
-- the first n registers are read as rs has them
record Read (rs : List ℕ) (n : ℕ) (r : List ℕ) : Type 0 where
  sixteen : length r ≡ registers
  same : (v : ℕ) → v < n → get_or r v 0 ≡ get_or rs v 0

one_more : (rs : List ℕ) (n : ℕ) → n < registers → (r : List ℕ) → Read rs n r → Read rs (suc n) (set r n (get_or rs n 0))
one_more rs n h r d = record { sixteen = length-set r n (get_or rs n 0) ∙ d.sixteen; same = λ v b. go v b (ℕ_discrete v n) }
  where
    go : (v : ℕ) → v < suc n → Dec (v ≡ n) → get_or (set r n (get_or rs n 0)) v 0 ≡ get_or rs v 0
    go v b (yes q) = rw q (get_or-set_same r n (get_or rs n 0) 0 (omega (arith, d.sixteen)))
    go v b (no q) = get_or-set_other r n v (get_or rs n 0) 0 q ∙ d.same v (omega arith)

module _ (t : List ℕ) (s : State) (numbers : (v : ℕ) → v < registers → setting_on (line_at t (v + 1)) v ≡ Some (get_or s.registers v 0)) where
  registers-read : (n : ℕ) → n ≤ registers → (r : List ℕ) × (registers_to t n ≡ Some r) × Read s.registers n r
  unfolding registers_to
  registers-read zero h = (replicate registers 0, refl, record { sixteen = refl; same = λ v b. absurd (not-suc-le-zero b) })
  registers-read (suc n) h =
      let (r, e, d) = registers-read n (omega arith) in
      (set r n (get_or s.registers n 0), rw (e, numbers n h), one_more s.registers n h r d)

  state-read : length t ≡ state_bytes → target_on (line_at t 0) ≡ Some s.point → length s.registers ≡ registers → saved_in t ≡ Some s
  state-read e point sixteen =
      let (r, some, d) = registers-read registers (omega arith) in
      let same = ext_get_or 0 r s.registers (d.sixteen ∙ sym sixteen) (λ v b. d.same v (omega (arith, d.sixteen))) in
      saved-whole t e ∙ rw (point, some, same)

-- ---- the law
pub read_back : StateReadBack
unfolding text_of
read_back s h =
    let blank = length-replicate state_bytes space in
    let t = point_set (replicate state_bytes space) s.point in
    let e = length-point (replicate state_bytes space) blank s.point in
    state-read (text_of s) s
    (setting-at t s.registers e h.numbers registers (omega arith))
    (length-registers t s.registers e registers (omega arith))
    (ap target_on (first-line t s.registers e registers (omega arith)) ∙ point_at_lem (replicate state_bytes space) blank s.point h.point)
    h.sixteen
