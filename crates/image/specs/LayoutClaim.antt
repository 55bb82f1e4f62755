-- Document 01, "The card image", and 02's image of a witness: their sizes, and that an image and a cluster taken apart have every byte, as a
-- claim that the check demands.
use Rattle.std.specs.Prelude.{ℕ, ◌+◌, ◌*◌, ◌≤◌, ◌<◌, ◌≡◌, true, false, [], length}
use Rattle.search.specs.Search.{count}
use Rattle.search.specs.Sets.{has}
use Rattle.slices.specs.Parts.{Bytes, part}
use Rattle.record.specs.declared.Shape.{Shape}
use Rattle.record.specs.Layout.{is_witness, header_size, record_size, entry_size, header_bytes, record_bytes, blank_record, entry_bytes, fresh_entry}
use Rattle.record.specs.Meaning.{broken, read_record, read_entry}
use Rattle.image.specs.Image.{image_size, record_at, entry_at, first_in, decode_image, encode_image}
use Rattle.image.specs.Cluster.{image_at, decode, encode}

-- what a card has
unfoldable pub card_size : Shape → ℕ
card_size Z = header_size Z + record_size * Z.m + entry_size * Z.m

pub record LayoutClaim : Type 0 where
  -- a header of 28 bytes, in edition 2 of 39 (02, Six); records of 34, entries of 240
  pub header_size_lem : (Z : Shape) (c first : ℕ) → Z.edition ≡ 1 → length (header_bytes Z c first) ≡ 28
  pub header_size_two : (Z : Shape) (c first : ℕ) → Z.edition ≡ 2 → length (header_bytes Z c first) ≡ 39
  pub record_size_lem : (e k : ℕ) → length (record_bytes e k) ≡ 34
  pub blank_size : length blank_record ≡ 34
  pub entry_size_lem : (e k : ℕ) (p : Bytes) → length p ≤ 200 → length (entry_bytes e k p) ≡ 240
  pub fresh_size : length fresh_entry ≡ 240
  -- a card's image is 28 + 274 × m bytes, in edition 2 39 + 274 × m
  pub image_size_lem : (Z : Shape) (c : ℕ) → Z.edition ≡ 1 → is_witness Z c ≡ false → image_size Z c ≡ 28 + 274 * Z.m
  pub image_size_two : (Z : Shape) (c : ℕ) → Z.edition ≡ 2 → is_witness Z c ≡ false → image_size Z c ≡ 39 + 274 * Z.m
  -- a witness's has the header and the records, and no entries (02, Seven)
  pub witness_size : (Z : Shape) (c : ℕ) → Z.edition ≡ 1 → is_witness Z c ≡ true → image_size Z c ≡ 28 + 34 * Z.m
  pub witness_size_two : (Z : Shape) (c : ℕ) → Z.edition ≡ 2 → is_witness Z c ≡ true → image_size Z c ≡ 39 + 34 * Z.m
  -- a cluster without witnesses is n images of one size. With them it lacks the entries of those among the bits 1 to n: a bit for no replica
  -- adds nothing
  pub cluster_size : (Z : Shape) → Z.witnesses ≡ 0 → image_at Z Z.n ≡ image_size Z 1 * Z.n
  pub cluster_witnesses : (Z : Shape) → image_at Z Z.n + entry_size * Z.m * count (λ c. has Z.witnesses c) Z.n ≡ card_size Z * Z.n
  pub card_size_lem : (Z : Shape) (c : ℕ) → is_witness Z c ≡ false → image_size Z c ≡ card_size Z
  -- slot k of a log that begins at first has index first + k − 1, in its record and in a card's entry; slots count from 0 here. So has it in
  -- edition 1, where first is 1. A witness has no entry
  pub index_record : (Z : Shape) (c : ℕ) (b : Bytes) (k : ℕ) → k < Z.m
      → (decode_image Z c b).records k ≡ read_record (first_in Z c b + k) (part b (record_at Z k) record_size)
  pub index_entry : (Z : Shape) (c : ℕ) (b : Bytes) (k : ℕ) → is_witness Z c ≡ false → k < Z.m
      → (decode_image Z c b).entries k ≡ read_entry (first_in Z c b + k) (part b (entry_at Z k) entry_size)
  pub no_entry : (Z : Shape) (c : ℕ) (b : Bytes) (k : ℕ) → is_witness Z c ≡ true → (decode_image Z c b).entries k ≡ broken []
  pub first_one : (Z : Shape) (c : ℕ) (b : Bytes) → Z.edition ≡ 1 → first_in Z c b ≡ 1
  -- taken apart and put together again
  pub image_again : (Z : Shape) (c : ℕ) (b : Bytes) → length b ≡ image_size Z c → encode_image Z c (decode_image Z c b) ≡ b
  pub cluster_again : (Z : Shape) (b : Bytes) → length b ≡ image_at Z Z.n → encode Z (decode Z b) ≡ b
