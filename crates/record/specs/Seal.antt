-- For proofs only. What the writers and the judges are made of.
use Rattle.std.specs.Prelude.{ℕ, Bool, ◌&&◌, [], ◌∷◌, ◌++◌}
use Rattle.slices.specs.Parts.{Bytes, part}
use Rattle.slices.specs.Same.{same}
use Rattle.checksum.specs.Checksum.{checksum_of}
use Rattle.column.specs.Column.{column}
use Rattle.record.specs.declared.Shape.{Shape}
use Rattle.record.specs.Layout.{header_word}
use Rattle.record.specs.Meaning.{is_epoch}

-- the 16 bytes of a header before its first index, or before its seal where it gives none
unfoldable pub header_front : Shape → ℕ → Bytes
header_front Z c = (((header_word Z c ++ column 3 Z.edition) ++ column 3 c) ++ column 3 Z.n) ++ column 3 Z.m

-- what follows the bytes b in their header, record or entry: the checksum and a newline
unfoldable pub seal_of : Bytes → Bytes
seal_of b = column 11 (checksum_of b) ++ (10 ∷ [])

-- whether a record or an entry begins as the writer's for an index and an epoch does
unfoldable pub is_front : ℕ → ℕ → Bytes → Bool
is_front k e b = is_epoch e && (same (part b 0 11) (column 11 e) && same (part b 11 11) (column 11 k))
