-- An image taken apart: document 01's card image as a header, and a record and an entry for each slot; a witness's image, which has no
-- entries (02, Seven). Slots count from 0 here.
use Rattle.std.specs.Prelude.{ℕ, ◌+◌, ◌*◌, cond, [], ◌++◌, ltb}
use Rattle.search.specs.Search.{joined}
use Rattle.slices.specs.Parts.{Bytes, part}
use Rattle.record.specs.declared.Shape.{Shape}
use Rattle.record.specs.Layout.{is_witness, header_size, record_size, entry_size, header_bytes, blank_record, fresh_entry}
use Rattle.record.specs.Meaning.{Header, first_index, Record, blank, Entry, broken, read_header, read_record, read_entry, write_header, write_record, write_entry}

pub record Image : Type 0 where
  pub header : Header
  pub records : ℕ → Record
  pub entries : ℕ → Entry

-- 01's index of slot k, of a log whose first slot has this index
unfoldable pub index : ℕ → ℕ → ℕ
index first k = first + k

-- a witness stores records only (02, Seven)
unfoldable pub entries_size : Shape → ℕ → ℕ
entries_size Z c = cond (is_witness Z c) 0 (entry_size * Z.m)

-- the image of replica c (from 1), of m slots: the header, the records, the entries. A card's is 28 + 274 × m bytes, in edition 2
-- 39 + 274 × m; a witness's 28 + 34 × m and 39 + 34 × m
unfoldable pub image_size : Shape → ℕ → ℕ
image_size Z c = header_size Z + record_size * Z.m + entries_size Z c

-- where the record and the entry of slot k begin in their image. The entry's place is a card's
unfoldable pub record_at : Shape → ℕ → ℕ
record_at Z k = header_size Z + record_size * k

unfoldable pub entry_at : Shape → ℕ → ℕ
entry_at Z k = header_size Z + record_size * Z.m + entry_size * k

-- what the bytes of the image of replica c (from 1) mean, if its log begins at this index. A witness has no entry that is intact
unfoldable pub decode_under : Shape → ℕ → ℕ → Bytes → Image
decode_under Z c first b = record {
  header = read_header Z c (part b 0 (header_size Z));
  records = λ k. cond (ltb k Z.m) (read_record (index first k) (part b (record_at Z k) record_size)) blank;
  entries = λ k. cond (is_witness Z c) (broken []) (cond (ltb k Z.m) (read_entry (index first k) (part b (entry_at Z k) entry_size)) (broken []));
}

-- it begins where its header says
unfoldable pub first_in : Shape → ℕ → Bytes → ℕ
first_in Z c b = first_index (read_header Z c (part b 0 (header_size Z)))

unfoldable pub decode_image : Shape → ℕ → Bytes → Image
decode_image Z c b = decode_under Z c (first_in Z c b) b

unfoldable pub encode_image : Shape → ℕ → Image → Bytes
encode_image Z c i =
    write_header Z c i.header
    ++ joined Z.m (λ k. write_record (index (first_index i.header) k) (i.records k))
    ++ cond (is_witness Z c) [] (joined Z.m (λ k. write_entry (index (first_index i.header) k) (i.entries k)))

-- 01's fresh image: a header, here with the index that the log begins at, blank records, and a card's fresh entries
unfoldable pub fresh_image : Shape → ℕ → ℕ → Bytes
fresh_image Z c first = header_bytes Z c first ++ joined Z.m (λ k. blank_record) ++ cond (is_witness Z c) [] (joined Z.m (λ k. fresh_entry))
