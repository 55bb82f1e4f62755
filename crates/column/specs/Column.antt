-- A number in a column: decimal, right-justified with spaces, no sign and no leading zeros; zero is one `0`.
use Rattle.std.specs.Prelude.{ℕ, zero, suc, ◌+◌, ◌*◌, ◌-◌, ◌/◌, ◌%◌, cond, ◌&&◌, [], ◌∷◌, ◌++◌, eqb, leb}
use Rattle.slices.specs.Parts.{Bytes}

-- the digits of x in w places, spaces in front of them, no digit at all for 0
unfoldable pub digits : ℕ → ℕ → Bytes
digits zero x = []
digits (suc w) x = digits w (x / 10) ++ (cond (eqb x 0) 32 (48 + x % 10) ∷ [])

-- x in a column of w places; of a number too wide for them, its lowest digits
unfoldable pub column : ℕ → ℕ → Bytes
column zero x = []
column (suc w) x = digits w (x / 10) ++ ((48 + x % 10) ∷ [])

-- one byte more of a number that is read from the left; what is no digit is passed over
unfoldable pub digit_step : ℕ → ℕ → ℕ
digit_step v b = cond (leb 48 b && leb b 57) (v * 10 + (b - 48)) v

unfoldable pub value_from : ℕ → Bytes → ℕ
value_from v [] = v
value_from v (b ∷ bs) = value_from (digit_step v b) bs

-- the only number that can stand in these bytes, if any does
unfoldable pub value_of : Bytes → ℕ
value_of b = value_from 0 b
