-- The structured form has every byte: an image and a cluster of the right length, taken apart and written again, are the same bytes.
use Prim.Native.Nat.{ℕ, zero, suc, ◌+◌, ◌*◌, ◌<◌}
use mathlib.Core.Path.{◌≡◌, refl, sym, ap, ◌∙◌}
use mathlib.Core.Bool.{Bool, true, false, cond}
use mathlib.Core.List.{[], ◌++◌}
use native.Mathlib.Nat.{mul-zero, mul-suc, zero-add}
use lib.ListN.{length}
use Rattle.search.specs.Search.{sum, joined}
use Rattle.search.proofs.ListedLaws.{joined_cong}
use Rattle.slices.specs.Parts.{Bytes, part}
use Rattle.slices.proofs.PartLaws.{part_join, part_whole}
use Rattle.record.specs.declared.Shape.{Shape}
use Rattle.record.specs.Layout.{is_witness, header_size}
use Rattle.record.specs.Meaning.{first_index, write_header, write_record, write_entry}
use Rattle.record.proofs.HeaderLaws.{write_read_header}
use Rattle.record.proofs.RecordLaws.{write_read_record}
use Rattle.record.proofs.EntryLaws.{write_read_entry}
use Rattle.image.specs.Image.{Image, index, entries_size, image_size, record_at, entry_at, first_in, decode_image, encode_image}
use Rattle.image.specs.Cluster.{image_at, image_part, decode, encode}
use Rattle.image.proofs.DecodeLaws.{header_there, first_is, record_there, entry_there}
use Rattle.image.proofs.ClusterLaws.{image_next, length_image}

-- parts of one size, one behind the other
pub joined_parts : (b : Bytes) (a s n : ℕ) → joined n (λ k. part b (a + s * k) s) ≡ part b a (s * n)
unfolding joined
joined_parts b a s zero = rw mul-zero (unfold part in refl)
joined_parts b a s (suc n) =
    rw (mul-suc s n) (ap (λ (t : Bytes). t ++ part b (a + s * n) s) (joined_parts b a s n) ∙ part_join b a (s * n) s)

module _ (Z : Shape) (c : ℕ) (b : Bytes) where
  pub encode_decode_image : length b ≡ image_size Z c → encode_image Z c (decode_image Z c b) ≡ b
  unfolding encode_image image_size
  encode_decode_image size =
      join header records entries
      ∙ ap (λ (t : Bytes). t ++ part b (0 + (header_size Z + 34 * Z.m)) (entries_size Z c)) (part_join b 0 (header_size Z) (34 * Z.m))
      ∙ part_join b 0 (header_size Z + 34 * Z.m) (entries_size Z c)
      ∙ part_whole b (header_size Z + 34 * Z.m + entries_size Z c) size
    where
      join : {x x' y y' z z' : Bytes} → x ≡ x' → y ≡ y' → z ≡ z' → x ++ y ++ z ≡ x' ++ y' ++ z'
      join p q r = cc

      i : Image
      i = decode_image Z c b

      header : write_header Z c (decode_image Z c b).header ≡ part b 0 (header_size Z)
      header = ap (write_header Z c) (header_there Z c b) ∙ write_read_header Z c (part b 0 (header_size Z))

      first : ℕ
      first = first_in Z c b

      records : joined Z.m (λ k. write_record (index (first_index i.header) k) (i.records k)) ≡ part b (0 + header_size Z) (34 * Z.m)
      records = rw (zero-add, first_is Z c b)
          (joined_cong Z.m (λ k. write_record (index first k) (i.records k)) (λ k. part b (header_size Z + 34 * k) 34)
          (λ k h. ap (write_record (index first k)) (record_there Z c b k h) ∙ unfold record_at in write_read_record (index first k) (part b (header_size Z + 34 * k) 34))
          ∙ joined_parts b (header_size Z) 34 Z.m)

      written : is_witness Z c ≡ false → joined Z.m (λ k. write_entry (index (first_index i.header) k) (i.entries k)) ≡ part b (0 + (header_size Z + 34 * Z.m)) (240 * Z.m)
      written card = rw (zero-add, first_is Z c b)
          (joined_cong Z.m (λ k. write_entry (index first k) (i.entries k)) (λ k. part b (header_size Z + 34 * Z.m + 240 * k) 240)
          (λ k h. ap (write_entry (index first k)) (entry_there Z c b k card h) ∙ unfold entry_at in write_read_entry (index first k) (part b (header_size Z + 34 * Z.m + 240 * k) 240))
          ∙ joined_parts b (header_size Z + 34 * Z.m) 240 Z.m)

      -- a witness has none
      entries : cond (is_witness Z c) [] (joined Z.m (λ k. write_entry (index (first_index i.header) k) (i.entries k))) ≡ part b (0 + (header_size Z + 34 * Z.m)) (entries_size Z c)
      entries = unfold entries_size in go (is_witness Z c) refl
        where
          go : (t : Bool) → is_witness Z c ≡ t
              → cond t [] (joined Z.m (λ k. write_entry (index (first_index i.header) k) (i.entries k))) ≡ part b (0 + (header_size Z + 34 * Z.m)) (cond t 0 (240 * Z.m))
          go true e = unfold part in refl
          go false e = written e

-- two images of one size with the same structured form are the same bytes
pub decode_image_injective : (Z : Shape) (c : ℕ) (a b : Bytes) → length a ≡ image_size Z c → length b ≡ image_size Z c → decode_image Z c a ≡ decode_image Z c b → a ≡ b
decode_image_injective Z c a b p q e = sym (encode_decode_image Z c a p) ∙ ap (encode_image Z c) e ∙ encode_decode_image Z c b q

-- ---- a cluster

-- the images, one behind the other
joined_images : (Z : Shape) (b : Bytes) (n : ℕ) → joined n (image_part Z b) ≡ part b 0 (image_at Z n)
unfolding joined
joined_images Z b zero = unfold part image_at sum in refl
joined_images Z b (suc n) =
    rw (image_next Z n)
    (ap (λ (t : Bytes). t ++ image_part Z b n) (joined_images Z b n) ∙ last)
  where
    last : part b 0 (image_at Z n) ++ image_part Z b n ≡ part b 0 (image_at Z n + image_size Z (suc n))
    last = unfold image_part in (rw zero-add at (part_join b 0 (image_at Z n) (image_size Z (suc n))))

pub encode_decode : (Z : Shape) (b : Bytes) → length b ≡ image_at Z Z.n → encode Z (decode Z b) ≡ b
unfolding encode
encode_decode Z b size =
    joined_cong Z.n (λ c. encode_image Z (suc c) (decode Z b c)) (image_part Z b)
    (λ c h. unfold decode in encode_decode_image Z (suc c) (image_part Z b c) (length_image Z b size c h))
    ∙ joined_images Z b Z.n
    ∙ part_whole b (image_at Z Z.n) size

pub decode_injective : (Z : Shape) (a b : Bytes) → length a ≡ image_at Z Z.n → length b ≡ image_at Z Z.n → decode Z a ≡ decode Z b → a ≡ b
decode_injective Z a b p q e = sym (encode_decode Z a p) ∙ ap (encode Z) e ∙ encode_decode Z b q

-- one replica with the same structured form has the same bytes
pub image_part_same : (Z : Shape) (a b : Bytes) → length a ≡ image_at Z Z.n → length b ≡ image_at Z Z.n → (c : ℕ) → c < Z.n → decode Z a c ≡ decode Z b c → image_part Z a c ≡ image_part Z b c
unfolding decode
image_part_same Z a b p q c h e = decode_image_injective Z (suc c) (image_part Z a c) (image_part Z b c) (length_image Z a p c h) (length_image Z b q c h) e
