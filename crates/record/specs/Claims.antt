-- What document 01 says of headers, records and entries, as claims that the check demands.
use Rattle.std.specs.Prelude.{ℕ, ◌+◌, ◌^◌, ◌<◌, ◌≤◌, ◌≡◌, true, false, ◌++◌, length, get_or, set}
use Rattle.slices.specs.Parts.{Bytes}
use Rattle.column.specs.Column.{column}
use Rattle.record.specs.declared.Shape.{Shape}
use Rattle.record.specs.Layout.{is_witness, gives_first, header_size, sealed, fixed_word, witness_word, header_bytes, record_bytes, entry_bytes}
use Rattle.record.specs.Meaning.{Header, proper, first_index, is_first, Record, good, Entry, intact, broken, is_epoch, read_header, read_record, read_entry}
use Rattle.record.specs.Exactly.{HeaderIs, RecordIs, EntryIs}

-- the judges say exactly what 01 says: good, blank, bad; intact or not; the writer's header or not
pub record Exact : Type 0 where
  pub header_is : (Z : Shape) (c : ℕ) (b : Bytes) → HeaderIs Z c b (read_header Z c b)
  pub header_only : (Z : Shape) (c : ℕ) (b : Bytes) (h : Header) → HeaderIs Z c b h → read_header Z c b ≡ h
  pub record_is : (k : ℕ) (b : Bytes) → RecordIs k b (read_record k b)
  pub record_only : (k : ℕ) (b : Bytes) (r : Record) → RecordIs k b r → read_record k b ≡ r
  pub entry_is : (k : ℕ) (b : Bytes) → EntryIs k b (read_entry k b)
  pub entry_only : (k : ℕ) (b : Bytes) (x : Entry) → EntryIs k b x → read_entry k b ≡ x

-- the numbers of a header fit their columns
pub record WritableHeader (Z : Shape) (c first : ℕ) : Type 0 where
  pub edition_fits : Z.edition < 1000
  pub replica_fits : c < 1000
  pub replicas_fit : Z.n < 1000
  pub slots_fit : Z.m < 1000
  pub first_fits : first < 10 ^ 11

-- what edition 1 writes and reads is what document 01 says: a card's header as it was, for one first index alone, which is 1
pub record EditionOne : Type 0 where
  pub header : (Z : Shape) (c first : ℕ) → Z.edition ≡ 1 → is_witness Z c ≡ false
      → header_bytes Z c first ≡ sealed (fixed_word ++ (column 3 1 ++ (column 3 c ++ (column 3 Z.n ++ column 3 Z.m))))
  -- a witness has the usual header, with `wits` in place of `rope` (02, Seven)
  pub witness_header : (Z : Shape) (c first : ℕ) → Z.edition ≡ 1 → is_witness Z c ≡ true
      → header_bytes Z c first ≡ sealed (witness_word ++ (column 3 1 ++ (column 3 c ++ (column 3 Z.n ++ column 3 Z.m))))
  pub size : (Z : Shape) → Z.edition ≡ 1 → header_size Z ≡ 28
  pub first : (Z : Shape) (c : ℕ) (b : Bytes) → Z.edition ≡ 1 → first_index (read_header Z c b) ≡ 1
  pub only : (Z : Shape) (first : ℕ) → Z.edition ≡ 1 → is_first Z first ≡ true → first ≡ 1
  pub one : (Z : Shape) → Z.edition ≡ 1 → is_first Z 1 ≡ true

-- what is written is read back, and determines what it was written from
pub record RoundTrip : Type 0 where
  pub header_back : (Z : Shape) (c first : ℕ) → is_first Z first ≡ true → read_header Z c (header_bytes Z c first) ≡ proper first
  pub record_back : (k e : ℕ) → is_epoch e ≡ true → read_record k (record_bytes e k) ≡ good e
  pub entry_back : (k e : ℕ) (p : Bytes) → is_epoch e ≡ true → length p ≤ 200 → read_entry k (entry_bytes e k p) ≡ intact e p
  pub header_determined : (Z Y : Shape) (c d first first' : ℕ) → WritableHeader Z c first → WritableHeader Y d first'
      → header_bytes Z c first ≡ header_bytes Y d first'
      → (Z.edition ≡ Y.edition) × (c ≡ d) × (Z.n ≡ Y.n) × (Z.m ≡ Y.m) × (is_witness Z c ≡ is_witness Y d) × (gives_first Z ≡ true → first ≡ first')
  pub record_determined : (e k e' k' : ℕ) → e < 10 ^ 11 → k < 10 ^ 11 → e' < 10 ^ 11 → k' < 10 ^ 11
      → record_bytes e k ≡ record_bytes e' k' → (e ≡ e') × (k ≡ k')
  pub entry_determined : (e k : ℕ) (p : Bytes) (e' k' : ℕ) (p' : Bytes) → e < 10 ^ 11 → k < 10 ^ 11 → length p ≤ 200
      → e' < 10 ^ 11 → k' < 10 ^ 11 → length p' ≤ 200 → entry_bytes e k p ≡ entry_bytes e' k' p' → (e ≡ e') × (k ≡ k') × (p ≡ p')

-- an intact entry with one or two payload bytes changed is never intact, for no index: every epoch, payload and pair of changes
pub record ChangedPayload : Type 0 where
  pub changed : (k e : ℕ) (p b : Bytes) (i j x y k' : ℕ) → read_entry k b ≡ intact e p → i < length p → j < length p
      → get_or b (26 + i) 0 < 256 → get_or b (26 + j) 0 < 256 → x < 256 → y < 256
      → ¬ (set (set b (26 + i) x) (26 + j) y ≡ b)
      → read_entry k' (set (set b (26 + i) x) (26 + j) y) ≡ broken (set (set b (26 + i) x) (26 + j) y)
  -- the bytes changed are the payload's
  pub payload_byte : (k e : ℕ) (p b : Bytes) (j : ℕ) → read_entry k b ≡ intact e p → j < length p → get_or b (26 + j) 0 ≡ get_or p j 0
