-- Document 01's words for what a header, a record or an entry is: each is judged by what the writer writes.
use Rattle.std.specs.Prelude.{ℕ, ◌≤◌, ◌≡◌, true, length}
use Rattle.slices.specs.Parts.{Bytes}
use Rattle.record.specs.declared.Shape.{Shape}
use Rattle.record.specs.Layout.{header_bytes, record_bytes, blank_record, entry_bytes}
use Rattle.record.specs.Meaning.{Header, proper, improper, is_first, Record, good, blank, bad, Entry, intact, broken, is_epoch}

-- 01's head: the writer writes it for this shape, this replica and a first index
pub record HeaderFor (Z : Shape) (c first : ℕ) (b : Bytes) : Type 0 where
  pub first_index_lem : is_first Z first ≡ true
  pub bytes : b ≡ header_bytes Z c first

-- for some first index
pub record SomeHeader (Z : Shape) (c : ℕ) (b : Bytes) : Type 0 where
  pub first : ℕ
  pub is : HeaderFor Z c first b

-- 01's good line: the writer writes it for that index and an epoch
pub record GoodFor (k e : ℕ) (b : Bytes) : Type 0 where
  pub epoch : is_epoch e ≡ true
  pub bytes : b ≡ record_bytes e k

-- 01's bad line: neither good nor blank
pub record BadFor (k : ℕ) (b : Bytes) : Type 0 where
  pub not_good : (e : ℕ) → ¬ (GoodFor k e b)
  pub not_blank : ¬ (b ≡ blank_record)

-- 01's intact cell: the writer writes it for that index, an epoch and a payload
pub record IntactFor (k e : ℕ) (p b : Bytes) : Type 0 where
  pub epoch : is_epoch e ≡ true
  pub short : length p ≤ 200
  pub bytes : b ≡ entry_bytes e k p

-- what each meaning says of the bytes: a reader gives a meaning exactly if this holds of it
abbrev pub HeaderIs : Shape → ℕ → Bytes → Header → Type 0
HeaderIs Z c b (proper first) = HeaderFor Z c first b
HeaderIs Z c b (improper z) = (z ≡ b) × ((first : ℕ) → ¬ (HeaderFor Z c first b))

abbrev pub RecordIs : ℕ → Bytes → Record → Type 0
RecordIs k b (good e) = GoodFor k e b
RecordIs k b blank = b ≡ blank_record
RecordIs k b (bad z) = (z ≡ b) × BadFor k b

abbrev pub EntryIs : ℕ → Bytes → Entry → Type 0
EntryIs k b (intact e p) = IntactFor k e p b
EntryIs k b (broken z) = (z ≡ b) × ((e : ℕ) (p : Bytes) → ¬ (IntactFor k e p b))
