-- Loads and stores of w bytes, once for every w up to 4. Assumes nothing.
use Rattle.std.proofs.Common.{◌≡◌, ℕ, zero, suc, ◌+◌, ◌-◌, ◌≤◌, ◌<◌, List, [], ◌∷◌, ◌++◌, length, get_or, take, drop, sym, refl, ap, ◌∙◌, add-one, arith, drop-cons, length-take-le, append_assoc}
use Rattle.std.proofs.lemmas.List.{drop-drop}
use Rattle.std.proofs.Math.Nat.{div-div-eq-div-mul}
use Rattle.std.proofs.lemmas.List.Edits.{sets-eq}
use Rattle.std.proofs.Math.Seq.{sets}
use Rattle.std.specs.Int.{w32, from_le_bytes, to_le_bytes}
use Rattle.model.specs.Machine.{read_bytes, write_bytes}

-- w bytes from an address on
abbrev bytes_from : ℕ → List ℕ → ℕ → List ℕ
bytes_from zero s at = []
bytes_from (suc w) s at = get_or s at 0 ∷ bytes_from w s (at + 1)

part-bytes : (w : ℕ) (s : List ℕ) (at : ℕ) → at + w ≤ length s → take w (drop at s) ≡ bytes_from w s at
part-bytes zero s at h = refl
part-bytes (suc w) s at h =
    let here : at < length s = omega arith in
    rw (drop-cons s at 0, ← add-one at) (ap (λ (l : List ℕ). get_or s at 0 ∷ l) (part-bytes w s (at + 1) (omega arith)))

-- w bytes as a number of four, with zeros behind them
number-bytes : (w : ℕ) (s : List ℕ) (at : ℕ) → w ≤ 4 → from_le_bytes w32 (bytes_from w s at ++ drop w (0 ∷ 0 ∷ 0 ∷ 0 ∷ [])) ≡ read_bytes w s at
unfolding read_bytes
number-bytes zero s at h = refl
number-bytes (suc zero) s at h = omega arith
number-bytes (suc (suc zero)) s at h = omega arith
number-bytes (suc (suc (suc zero))) s at h = omega arith
number-bytes (suc (suc (suc (suc zero)))) s at h = omega arith
number-bytes (suc (suc (suc (suc (suc w))))) s at h = absurd (omega arith)

pub loaded : (w : ℕ) (s ys : List ℕ) (at : ℕ) → w ≤ 4 → at + w ≤ length s → ys ≡ take (at + w - at) (drop at s)
    → from_le_bytes w32 (ys ++ drop w (0 ∷ 0 ∷ 0 ∷ 0 ∷ [])) ≡ read_bytes w s at
loaded w s ys at h room e =
    let count : at + w - at ≡ w = omega arith in
    rw (e, count, part-bytes w s at room) (number-bytes w s at h)

-- the low w bytes of a number, set one after another
set-bytes : (w : ℕ) (s : List ℕ) (at x : ℕ) → w ≤ 4 → sets s at (take w (to_le_bytes w32 x)) ≡ write_bytes w s at x
unfolding write_bytes
set-bytes zero s at x h = refl
set-bytes (suc zero) s at x h = refl
set-bytes (suc (suc zero)) s at x h = simp (add-one, div-div-eq-div-mul)
set-bytes (suc (suc (suc zero))) s at x h = simp (add-one, div-div-eq-div-mul)
set-bytes (suc (suc (suc (suc zero)))) s at x h = simp (add-one, div-div-eq-div-mul)
set-bytes (suc (suc (suc (suc (suc w))))) s at x h = absurd (omega arith)

pub stored : (w : ℕ) (s ys : List ℕ) (at x : ℕ) → w ≤ 4 → at + w ≤ length s → ys ≡ take w (to_le_bytes w32 x)
    → take at s ++ (ys ++ drop (at + w - at) (drop at s)) ≡ write_bytes w s at x
stored w s ys at x h room e =
    let bytes = take w (to_le_bytes w32 x) in
    let long : length bytes ≡ w = length-take-le w (to_le_bytes w32 x) h in
    let count : at + w - at ≡ length bytes = omega arith in
    let within : at + length bytes ≤ length s = omega arith in
    rw (e, count, drop-drop, ← append_assoc) (sym (sets-eq bytes s at within) ∙ set-bytes w s at x h)
