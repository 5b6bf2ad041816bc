-- A budget as an argument: decimal digits and nothing else, at most MAX.
use Rattle.std.specs.Prelude.{ℕ, zero, suc, ◌+◌, ◌*◌, ◌-◌, ◌&&◌, cond, List, Option, Some, None, length, get_or, leb, eqb}
use Rattle.model.specs.Limits.{MAX}

-- a number with one digit more: none where the byte is no digit, or the number is above MAX
abbrev pub with_digit : ℕ → ℕ → Option ℕ
with_digit n b = cond (leb 48 b && leb b 57 && leb (n * 10 + (b - 48)) MAX) (Some (n * 10 + (b - 48))) None

-- one digit more, where the digits before it are a number
abbrev pub then_digit : Option ℕ → ℕ → Option ℕ
then_digit None b = None
then_digit (Some n) b = with_digit n b

-- the number of the first n bytes
unfoldable pub digits_to : List ℕ → ℕ → Option ℕ
digits_to t zero = Some 0
digits_to t (suc n) = then_digit (digits_to t n) (get_or t n 0)

-- the number of an argument
unfoldable pub number_in : List ℕ → Option ℕ
unfolding digits_to
number_in t = cond (eqb (length t) 0) None (digits_to t (length t))
