-- The ends of sums, differences, products and quotients at the values, and w bytes as a number. Assumes nothing.
use mathlib.Core.Path.{◌≡◌, refl, ap, sym, ◌∙◌}
use mathlib.Core.List.{List}
use Prim.Native.Nat.{ℕ, zero, suc, ◌+◌, ◌*◌, ◌/◌, ◌%◌, ◌^◌, ◌≤◌, ◌<◌, max}
use native.Mathlib.Nat.{le_trans, mul-le-mul, mul-le-mul_left, div-mul-le_self, le-div_iff_mul-le, max-le, le-max_right, pow-succ', div-one, mul_comm, mul_left_comm, div-div-eq-div-mul, add-div_right, lt-div-mul-add}
use native.Mathlib.Omega.{arith}
use native.Mathlib.Decide.{ℕ_discrete, dec_lt}
use lib.ListN.{length, get_or, set, length-set}
use lib.Seq.{get_or-set_same, get_or-set_other, set_out}
use Rattle.model.specs.Machine.{nearest_quotient, QuotientIsNearest, read_bytes, write_bytes}

div_mono : {x y m k : ℕ} → 0 < k → k ≤ m → x ≤ y → x / m ≤ y / k
div_mono {x} {y} {m} {k} pos km xy = (le-div_iff_mul-le pos).1 (le_trans (mul-le-mul_left (x / m) km) (le_trans (div-mul-le_self x m) xy))

-- lo by hi' to hi by the larger of lo' and 1
pub div-ends : (lo hi v lo' hi' w : ℕ) → lo ≤ v → v ≤ hi → lo' ≤ w → w ≤ hi' → 0 < w → (lo / hi' ≤ v / w) × (v / w ≤ hi / max lo' 1)
div-ends lo hi v lo' hi' w a b c d pos = (div_mono pos d a, div_mono (le-max_right lo' 1) (max-le c pos) b)

-- a quotient is at most what is divided
pub div-small : (v w m : ℕ) → 0 < w → v ≤ m → v / w ≤ m
div-small v w m pos h =
    let top : v / w ≤ m / 1 = div_mono (omega arith) pos h in
    rw (div-one m) at top

-- a nearest quotient by one rounded down, whose laws it so has: that of the double dividend, plus 1, halved
nearest-halved : (x y : ℕ) → 0 < y → nearest_quotient x y ≡ (2 * x / y + 1) / 2
nearest-halved x y pos =
    ap (λ (m : ℕ). (2 * x + y) / m) (mul_comm 2 y) ∙ sym (div-div-eq-div-mul (2 * x + y) y 2) ∙ ap (λ (q : ℕ). q / 2) (add-div_right (2 * x) pos)

-- the same for nearest quotients
pub nearest-ends : (lo hi v lo' hi' w : ℕ) → lo ≤ v → v ≤ hi → lo' ≤ w → w ≤ hi' → 0 < w
    → (nearest_quotient lo hi' ≤ nearest_quotient v w) × (nearest_quotient v w ≤ nearest_quotient hi (max lo' 1))
nearest-ends lo hi v lo' hi' w a b c d pos =
    let e = div-ends (2 * lo) (2 * hi) (2 * v) lo' hi' w (omega arith) (omega arith) c d pos in
    rw (nearest-halved lo hi' (omega arith), nearest-halved v w pos, nearest-halved hi (max lo' 1) (le-max_right lo' 1)) (omega (arith, e))

-- a nearest quotient is at most what is divided
pub nearest-small : (v w m : ℕ) → 0 < w → v ≤ m → nearest_quotient v w ≤ m
nearest-small v w m pos h = rw (nearest-halved v w pos) (omega (arith, div-small (2 * v) w (2 * m) pos (omega arith)))

-- the promise of T-02
pub quotient-is-nearest : QuotientIsNearest
quotient-is-nearest x y pos =
    let q = nearest_quotient x y in
    let double : q * (2 * y) ≡ 2 * (q * y) = mul_left_comm q 2 y in
    let above : q * (2 * y) ≤ 2 * x + y = div-mul-le_self (2 * x + y) (2 * y) in
    let below : 2 * x + y < q * (2 * y) + 2 * y = lt-div-mul-add (omega arith) in
    (record { above = omega arith; below = omega arith; half = λ e. omega arith }, nearest-small x y x pos (omega arith))

-- products of the ends, where no product wraps
pub mul-ends : (lo hi v lo' hi' w m : ℕ) → lo ≤ v → v ≤ hi → lo' ≤ w → w ≤ hi' → hi * hi' ≤ m → (lo * lo' ≤ v * w) × (v * w ≤ hi * hi') × (v * w ≤ m)
mul-ends lo hi v lo' hi' w m a b c d fits = omega (arith, mul-le-mul a c, mul-le-mul b d)

-- w bytes are a number below 256 ^ w
pub read_below : (s : List ℕ) → ((i : ℕ) → get_or s i 0 < 256) → (w at : ℕ) → read_bytes w s at < 256 ^ w
unfolding read_bytes
read_below s byte zero at = omega arith
read_below s byte (suc w) at = rw pow-succ' (omega (arith, byte at, read_below s byte w (at + 1)))

-- a store keeps the size of the table, and its elements bytes
pub write-long : (w : ℕ) (s : List ℕ) (at x : ℕ) → length (write_bytes w s at x) ≡ length s
unfolding write_bytes
write-long zero s at x = refl
write-long (suc w) s at x = rw (write-long w (set s at (x % 256)) (at + 1) (x / 256)) (length-set s at (x % 256))

-- elements that are bytes stay so where a byte is set
set-byte : (s : List ℕ) (at x : ℕ) → x < 256 → ((i : ℕ) → get_or s i 0 < 256) → (i : ℕ) → get_or (set s at x) i 0 < 256
set-byte s at x small byte i = go (dec_lt at (length s)) (ℕ_discrete i at)
  where
    go : Dec (at < length s) → Dec (i ≡ at) → get_or (set s at x) i 0 < 256
    go (yes h) (yes e) = rw (e, get_or-set_same s at x 0 h) small
    go (yes h) (no n) = rw (get_or-set_other s at i x 0 n) (byte i)
    go (no h) d = rw (set_out s at x (omega arith)) (byte i)

pub write_byte : (w : ℕ) (s : List ℕ) (at x : ℕ) → ((i : ℕ) → get_or s i 0 < 256) → (i : ℕ) → get_or (write_bytes w s at x) i 0 < 256
unfolding write_bytes
write_byte zero s at x byte i = byte i
write_byte (suc w) s at x byte i = write_byte w (set s at (x % 256)) (at + 1) (x / 256) (set-byte s at (x % 256) (omega arith) byte) i
