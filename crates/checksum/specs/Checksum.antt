-- The checksum of some bytes: document 01's check.
use Rattle.std.specs.Prelude.{ℕ, ◌+◌, ◌*◌, ◌%◌, List, [], ◌∷◌}

-- the first sum: for each byte, a becomes (a + byte) modulo 65,535
unfoldable pub sum_a : ℕ → List ℕ → ℕ
sum_a a [] = a
sum_a a (x ∷ xs) = sum_a ((a + x) % 65535) xs

-- the second: then b becomes (b + a) modulo 65,535, with the new a
unfoldable pub sum_b : ℕ → ℕ → List ℕ → ℕ
sum_b a b [] = b
sum_b a b (x ∷ xs) = sum_b ((a + x) % 65535) ((b + (a + x) % 65535) % 65535) xs

-- a starts at 1 and b at 0; the checksum is b × 65,536 + a
unfoldable pub checksum_of : List ℕ → ℕ
checksum_of xs = sum_b 1 0 xs * 65536 + sum_a 1 xs
