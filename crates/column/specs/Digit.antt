-- For proofs only. The bytes of a column, one by one.
use Rattle.std.specs.Prelude.{ℕ, ◌+◌, ◌%◌, cond, eqb}

-- the last byte: a digit in any case
unfoldable pub last_byte : ℕ → ℕ
last_byte x = 48 + x % 10

-- a byte before it, for what is left of the number: a space where nothing is
unfoldable pub high_byte : ℕ → ℕ
high_byte x = cond (eqb x 0) 32 (48 + x % 10)
