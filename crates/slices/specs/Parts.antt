-- Parts of a byte buffer, and a part written anew.
use Rattle.std.specs.Prelude.{ℕ, ◌+◌, List, ◌++◌, length, take, drop}

abbrev pub Bytes : Type 0
Bytes = List ℕ

-- the l bytes from offset a on
unfoldable pub part : Bytes → ℕ → ℕ → Bytes
part b a l = take l (drop a b)

-- b with v from offset a on, and no other byte changed
unfoldable pub spliced : Bytes → ℕ → Bytes → Bytes
spliced b a v = take a b ++ (v ++ drop (a + length v) b)
