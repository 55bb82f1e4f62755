-- Document 01, "The card image": what the writer writes.
use Rattle.std.specs.Prelude.{ℕ, zero, suc, ◌-◌, Bool, false, cond, [], ◌∷◌, ◌++◌, eqb, length, replicate}
use Rattle.search.specs.Sets.{has}
use Rattle.slices.specs.Parts.{Bytes}
use Rattle.checksum.specs.Checksum.{checksum_of}
use Rattle.column.specs.Column.{column}
use Rattle.record.specs.declared.Shape.{Shape}

-- replica number c is a witness (02, Seven), which stores records only: bit c - 1 of the set stands for it
unfoldable pub is_witness : Shape → ℕ → Bool
is_witness Z zero = false
is_witness Z (suc c) = has Z.witnesses c

-- edition 2 gives the index of the first slot in its header (02, Six)
unfoldable pub gives_first : Shape → Bool
gives_first Z = eqb Z.edition 2

-- the sizes in bytes of 01's head, line and cell, and of the longest payload. A header's is its edition's
unfoldable pub header_size : Shape → ℕ
header_size Z = cond (gives_first Z) 39 28

abbrev pub record_size : ℕ
record_size = 34

abbrev pub entry_size : ℕ
entry_size = 240

abbrev pub max_payload : ℕ
max_payload = 200

-- b, its checksum (01's check, which covers what stands before its column), and a newline
unfoldable pub sealed : Bytes → Bytes
sealed b = b ++ (column 11 (checksum_of b) ++ (10 ∷ []))

-- the four bytes `rope`
abbrev pub fixed_word : Bytes
fixed_word = 114 ∷ 111 ∷ 112 ∷ 101 ∷ []

-- the four bytes `wits` (02, Seven)
abbrev pub witness_word : Bytes
witness_word = 119 ∷ 105 ∷ 116 ∷ 115 ∷ []

-- the word that the header of replica c begins with
unfoldable pub header_word : Shape → ℕ → Bytes
header_word Z c = cond (is_witness Z c) witness_word fixed_word

-- 02's column of the first index, in edition 2 alone
unfoldable pub first_column : Shape → ℕ → Bytes
first_column Z first = cond (gives_first Z) (column 11 first) []

-- 01's head: `rope`, or a witness's `wits`; the edition, replica c, n, m, and the first index where the edition gives it
unfoldable pub header_bytes : Shape → ℕ → ℕ → Bytes
header_bytes Z c first =
    sealed (header_word Z c ++ (column 3 Z.edition ++ (column 3 c ++ (column 3 Z.n ++ (column 3 Z.m ++ first_column Z first)))))

-- 01's line, of an epoch and an index
unfoldable pub record_bytes : ℕ → ℕ → Bytes
record_bytes e k = sealed (column 11 e ++ column 11 k)

-- 01's blank line: 33 spaces and a newline
unfoldable pub blank_record : Bytes
blank_record = replicate 33 32 ++ (10 ∷ [])

-- b, then spaces up to w bytes
unfoldable pub padded : ℕ → Bytes → Bytes
padded w b = b ++ replicate (w - length b) 32

-- 01's cell, of an epoch, an index and a payload
unfoldable pub entry_bytes : ℕ → ℕ → Bytes → Bytes
entry_bytes e k p = padded entry_size (sealed (column 11 e ++ (column 11 k ++ (column 4 (length p) ++ p))))

-- 01's fresh cell: all spaces
unfoldable pub fresh_entry : Bytes
fresh_entry = replicate entry_size 32
