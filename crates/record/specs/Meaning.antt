-- What a header, a record or an entry means. Bytes that mean nothing are kept, so that the writer gives every byte back.
use Rattle.std.specs.Prelude.{ℕ, ◌+◌, ◌-◌, Bool, cond, ◌&&◌, eqb, leb, length}
use Rattle.slices.specs.Parts.{Bytes, part}
use Rattle.slices.specs.Same.{same}
use Rattle.column.specs.Column.{value_of}
use Rattle.record.specs.declared.Shape.{Shape}
use Rattle.record.specs.Layout.{gives_first, header_bytes, record_bytes, blank_record, entry_bytes}

-- 01's head: the writer's for this shape and replica, with the index of the first slot; or other bytes
pub data Header : Type 0 where
  proper : ℕ → Header
  improper : Bytes → Header

-- 01's line: good with its epoch, blank, or bad
pub data Record : Type 0 where
  good : ℕ → Record
  blank : Record
  bad : Bytes → Record

-- 01's cell: intact with its epoch and payload, or not
pub data Entry : Type 0 where
  intact : ℕ → Bytes → Entry
  broken : Bytes → Entry

-- epochs are 1 to 4,294,967,295
unfoldable pub is_epoch : ℕ → Bool
is_epoch e = leb 1 e && leb e 4294967295

-- the index of the first slot. Bytes that are no header give none, and count as giving 1: such an image is refused all the same
unfoldable pub first_index : Header → ℕ
first_index (proper first) = first
first_index (improper b) = 1

-- a first index (02, Six): in edition 1 no other than 1; in edition 2 not 0, and the last slot's index at most 4,294,967,295
unfoldable pub is_first : Shape → ℕ → Bool
is_first Z first = cond (gives_first Z) (leb 1 first && leb (first + (Z.m - 1)) 4294967295) (eqb first 1)

-- judged by writing: the only first index that the bytes could mean, which is 1 in edition 1, and what the writer writes for it
unfoldable pub header_first : Shape → Bytes → ℕ
header_first Z b = cond (gives_first Z) (value_of (part b 16 11)) 1

unfoldable pub is_header : Shape → ℕ → ℕ → Bytes → Bool
is_header Z c first b = is_first Z first && same b (header_bytes Z c first)

unfoldable pub read_header : Shape → ℕ → Bytes → Header
read_header Z c b = cond (is_header Z c (header_first Z b) b) (proper (header_first Z b)) (improper b)

unfoldable pub write_header : Shape → ℕ → Header → Bytes
write_header Z c (proper first) = header_bytes Z c first
write_header Z c (improper b) = b

-- the same: the only epoch that the columns could mean, and what the writer writes for it
unfoldable pub is_good : ℕ → ℕ → Bytes → Bool
is_good k e b = is_epoch e && same b (record_bytes e k)

unfoldable pub record_epoch : Bytes → ℕ
record_epoch b = value_of (part b 0 11)

unfoldable pub read_record : ℕ → Bytes → Record
read_record k b = cond (is_good k (record_epoch b) b) (good (record_epoch b)) (cond (same b blank_record) blank (bad b))

unfoldable pub write_record : ℕ → Record → Bytes
write_record k (good e) = record_bytes e k
write_record k blank = blank_record
write_record k (bad b) = b

unfoldable pub is_intact : ℕ → ℕ → Bytes → Bytes → Bool
is_intact k e p b = is_epoch e && (leb (length p) 200 && same b (entry_bytes e k p))

unfoldable pub entry_epoch : Bytes → ℕ
entry_epoch b = value_of (part b 0 11)

unfoldable pub entry_payload : Bytes → Bytes
entry_payload b = part b 26 (value_of (part b 22 4))

unfoldable pub read_entry : ℕ → Bytes → Entry
read_entry k b = cond (is_intact k (entry_epoch b) (entry_payload b) b) (intact (entry_epoch b) (entry_payload b)) (broken b)

unfoldable pub write_entry : ℕ → Entry → Bytes
write_entry k (intact e p) = entry_bytes e k p
write_entry k (broken b) = b
