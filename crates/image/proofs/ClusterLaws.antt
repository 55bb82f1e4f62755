-- A cluster in bytes and taken apart: a splice inside one replica's image is one replica put anew.
use Prim.Native.Nat.{ℕ, zero, suc, ◌+◌, ◌*◌, ◌≤◌, ◌<◌}
use mathlib.Core.Path.{◌≡◌, refl, sym, ap, ◌∙◌, fun_ext}
use mathlib.Core.Bool.{Bool, true, false}
use mathlib.Core.List.{[]}
use native.Mathlib.Omega.{arith}
use native.Mathlib.Nat.{mul-zero, mul-suc}
use native.Mathlib.Decide.{ℕ_discrete, dec_lt}
use lib.ListN.{length}
use Rattle.search.specs.Search.{one_if, sum, count}
use Rattle.search.specs.Sets.{has}
use Rattle.search.specs.Put.{put}
use Rattle.search.proofs.UpdateLaws.{put_same, put_other}
use Rattle.search.proofs.CountLaws.{count_suc}
use Rattle.slices.specs.Parts.{Bytes, part, spliced}
use Rattle.slices.proofs.PartLaws.{length_part, part_part}
use Rattle.slices.proofs.SpliceLaws.{length_spliced, spliced_before, spliced_behind}
use Rattle.slices.proofs.NestedLaws.{part_spliced}
use Rattle.record.specs.declared.Shape.{Shape}
use Rattle.record.specs.Layout.{is_witness, header_size}
use Rattle.record.specs.Meaning.{first_index, broken, read_record, read_entry}
use Rattle.record.proofs.LayoutLaws.{gives_other, no_witness}
use Rattle.record.proofs.HeaderLaws.{read_first_one}
use Rattle.image.specs.Image.{Image, index, image_size, record_at, entry_at, decode_under, first_in, decode_image}
use Rattle.image.specs.SetSlot.{set_record, set_entry}
use Rattle.image.specs.Cluster.{image_at, image_part, first_at, decode, decode_with}
use Rattle.image.proofs.DecodeLaws.{size_card, size_witness, size_some, size_few, record_fits, entry_fits, first_is, entry_under, none_under, record_there, entry_there, none_there, record_spliced, entry_spliced}

pub image_none : (Z : Shape) → image_at Z 0 ≡ 0
unfolding image_at sum
image_none Z = refl

pub image_next : (Z : Shape) (c : ℕ) → image_at Z (suc c) ≡ image_at Z c + image_size Z (suc c)
unfolding image_at sum
image_next Z c = omega arith

-- without witnesses, behind c images of one size
pub image_at_lem : (Z : Shape) (c : ℕ) → Z.witnesses ≡ 0 → image_at Z c ≡ image_size Z 1 * c
image_at_lem Z zero none = image_none Z ∙ sym (mul-zero (image_size Z 1))
image_at_lem Z (suc c) none =
    rw (mul-suc (image_size Z 1) c)
    (omega (arith, image_next Z c, image_at_lem Z c none, size_card Z (suc c) (no_witness Z none (suc c)), size_card Z 1 (no_witness Z none 1)))

-- with them, each lacks the entries of a card
pub image_at_all : (Z : Shape) (c : ℕ) → image_at Z c + 240 * Z.m * count (λ d. has Z.witnesses d) c ≡ (header_size Z + 34 * Z.m + 240 * Z.m) * c
unfolding is_witness one_if
image_at_all Z zero = rw (image_none Z, mul-zero (header_size Z + 34 * Z.m + 240 * Z.m)) (unfold count sum in omega (arith, mul-zero (240 * Z.m)))
image_at_all Z (suc c) =
    rw (mul-suc (header_size Z + 34 * Z.m + 240 * Z.m) c, count_suc (λ d. has Z.witnesses d) c)
    (go (has Z.witnesses c) refl (image_at_all Z c))
  where
    lack : ℕ
    lack = count (λ d. has Z.witnesses d) c

    go : (t : Bool) → has Z.witnesses c ≡ t → image_at Z c + 240 * Z.m * lack ≡ (header_size Z + 34 * Z.m + 240 * Z.m) * c
        → image_at Z (suc c) + 240 * Z.m * (one_if t + lack) ≡ (header_size Z + 34 * Z.m + 240 * Z.m) * c + (header_size Z + 34 * Z.m + 240 * Z.m)
    go true e before =
        let z : 1 + lack ≡ suc lack = omega arith in
        rw (z, mul-suc (240 * Z.m) lack) (omega (arith, image_next Z c, before, size_witness Z (suc c) e))
    go false e before =
        let z : 0 + lack ≡ lack = omega arith in
        rw z (omega (arith, image_next Z c, before, size_card Z (suc c) e))

-- of at most 64 slots each
pub images_few : (Z : Shape) (c : ℕ) → Z.m ≤ 64 → image_at Z c ≤ 17575 * c
images_few Z zero few = omega (arith, image_none Z)
images_few Z (suc c) few = omega (arith, images_few Z c few, image_next Z c, size_few Z (suc c) few)

-- so many images have at least as many bytes
pub images_fill : (Z : Shape) (c : ℕ) → c ≤ image_at Z c
images_fill Z zero = omega arith
images_fill Z (suc c) = omega (arith, images_fill Z c, image_next Z c, size_some Z (suc c))

-- an image lies within the buffer
pub image_fits : (Z : Shape) (n c : ℕ) → c < n → image_at Z c + image_size Z (suc c) ≤ image_at Z n
image_fits Z zero c h = absurd (omega arith)
image_fits Z (suc n) c h = go (ℕ_discrete c n) (image_fits Z n c)
  where
    go : Dec (c ≡ n) → (c < n → image_at Z c + image_size Z (suc c) ≤ image_at Z n) → image_at Z c + image_size Z (suc c) ≤ image_at Z (suc n)
    go (yes q) below = rw q (omega (arith, image_next Z n))
    go (no q) below = omega (arith, image_next Z n, below (omega arith))

-- the bytes of a slot, in its image and in the buffer
pub record_part : (Z : Shape) (b : Bytes) (c k : ℕ) → k < Z.m → part (image_part Z b c) (record_at Z k) 34 ≡ part b (image_at Z c + record_at Z k) 34
unfolding image_part
record_part Z b c k h = part_part b (image_at Z c) (image_size Z (suc c)) (record_at Z k) 34 (record_fits Z (suc c) k h)

pub entry_part : (Z : Shape) (b : Bytes) (c k : ℕ) → is_witness Z (suc c) ≡ false → k < Z.m → part (image_part Z b c) (entry_at Z k) 240 ≡ part b (image_at Z c + entry_at Z k) 240
unfolding image_part
entry_part Z b c k card h = part_part b (image_at Z c) (image_size Z (suc c)) (entry_at Z k) 240 (entry_fits Z (suc c) k card h)

-- what they mean
pub record_means : (Z : Shape) (b : Bytes) (c k : ℕ) → k < Z.m → (decode Z b c).records k ≡ read_record (index (first_at Z b c) k) (part b (image_at Z c + record_at Z k) 34)
unfolding decode first_at
record_means Z b c k h = record_there Z (suc c) (image_part Z b c) k h ∙ ap (read_record (index (first_at Z b c) k)) (record_part Z b c k h)

pub entry_means : (Z : Shape) (b : Bytes) (c k : ℕ) → is_witness Z (suc c) ≡ false → k < Z.m → (decode Z b c).entries k ≡ read_entry (index (first_at Z b c) k) (part b (image_at Z c + entry_at Z k) 240)
unfolding decode first_at
entry_means Z b c k card h = entry_there Z (suc c) (image_part Z b c) k card h ∙ ap (read_entry (index (first_at Z b c) k)) (entry_part Z b c k card h)

-- a witness has no entry
pub none_means : (Z : Shape) (b : Bytes) (c k : ℕ) → is_witness Z (suc c) ≡ true → (decode Z b c).entries k ≡ broken []
unfolding decode
none_means Z b c k witness = none_there Z (suc c) (image_part Z b c) k witness

-- taken apart under given indices: the same where the header gives that index
pub with_header : (Z : Shape) (firsts : ℕ → ℕ) (b : Bytes) (c : ℕ) → (decode_with Z firsts b c).header ≡ (decode Z b c).header
unfolding decode_with decode decode_image decode_under
with_header Z firsts b c = refl

pub with_same : (Z : Shape) (firsts : ℕ → ℕ) (b : Bytes) (c : ℕ) → first_at Z b c ≡ firsts c → decode_with Z firsts b c ≡ decode Z b c
unfolding decode_with decode decode_image first_at
with_same Z firsts b c e = ap (λ (z : ℕ). decode_under Z (suc c) z (image_part Z b c)) (sym e)

pub entry_with : (Z : Shape) (firsts : ℕ → ℕ) (b : Bytes) (c k : ℕ) → is_witness Z (suc c) ≡ false → k < Z.m
    → (decode_with Z firsts b c).entries k ≡ read_entry (index (firsts c) k) (part b (image_at Z c + entry_at Z k) 240)
unfolding decode_with
entry_with Z firsts b c k card h = entry_under Z (suc c) (firsts c) (image_part Z b c) k card h ∙ ap (read_entry (index (firsts c) k)) (entry_part Z b c k card h)

pub none_with : (Z : Shape) (firsts : ℕ → ℕ) (b : Bytes) (c k : ℕ) → is_witness Z (suc c) ≡ true → (decode_with Z firsts b c).entries k ≡ broken []
unfolding decode_with
none_with Z firsts b c k witness = none_under Z (suc c) (firsts c) (image_part Z b c) k witness

-- in edition 1 a log begins at 1, whatever its header became
pub begins_one : (Z : Shape) (b : Bytes) (c : ℕ) → Z.edition ≡ 1 → first_at Z b c ≡ 1
unfolding first_at first_in
begins_one Z b c e = read_first_one Z (suc c) (part (image_part Z b c) 0 (header_size Z)) (gives_other Z (λ two. omega arith))

pub with_one_lem : (Z : Shape) (firsts : ℕ → ℕ) (b : Bytes) (c : ℕ) → Z.edition ≡ 1 → firsts c ≡ 1 → decode_with Z firsts b c ≡ decode Z b c
with_one_lem Z firsts b c e f = with_same Z firsts b c (begins_one Z b c e ∙ sym f)

-- what is seen of a replica's first index is what its header gives
pub first_at_lem : (Z : Shape) (b : Bytes) (c : ℕ) → first_index (decode Z b c).header ≡ first_at Z b c
unfolding decode first_at
first_at_lem Z b c = first_is Z (suc c) (image_part Z b c)

module _ (Z : Shape) (b : Bytes) (size : length b ≡ image_at Z Z.n) where
  pub length_image : (c : ℕ) → c < Z.n → length (image_part Z b c) ≡ image_size Z (suc c)
  unfolding image_part
  length_image c h = length_part b (image_at Z c) (image_size Z (suc c)) (omega (arith, image_fits Z Z.n c h))

  -- ---- a splice inside the image of replica c
  module _ (c : ℕ) (cn : c < Z.n) (o : ℕ) (v : Bytes) (within : o + length v ≤ image_size Z (suc c)) where
    room : image_at Z c + o + length v ≤ length b
    room = omega (arith, image_fits Z Z.n c cn)

    pub length_in_image : length (spliced b (image_at Z c + o) v) ≡ image_at Z Z.n
    length_in_image = length_spliced b (image_at Z c + o) v room ∙ size

    pub own_part : image_part Z (spliced b (image_at Z c + o) v) c ≡ spliced (image_part Z b c) o v
    unfolding image_part
    own_part = part_spliced b (image_at Z c) (image_size Z (suc c)) o v (omega (arith, image_fits Z Z.n c cn)) within

    pub other_part : (d : ℕ) → (d ≡ c → ⊥) → image_part Z (spliced b (image_at Z c + o) v) d ≡ image_part Z b d
    unfolding image_part
    other_part d q = go (dec_lt d c)
      where
        go : Dec (d < c) → part (spliced b (image_at Z c + o) v) (image_at Z d) (image_size Z (suc d)) ≡ part b (image_at Z d) (image_size Z (suc d))
        go (yes w) = spliced_before b (image_at Z c + o) v room (image_at Z d) (image_size Z (suc d)) (omega (arith, image_fits Z c d w))
        go (no w) =
            let g : c < d = omega arith in
            spliced_behind b (image_at Z c + o) v room (image_at Z d) (image_size Z (suc d)) (omega (arith, image_fits Z d c g))

    pub image_put : decode Z (spliced b (image_at Z c + o) v) ≡ put (decode Z b) c (decode_image Z (suc c) (spliced (image_part Z b c) o v))
    unfolding decode
    image_put = fun_ext (λ d. go d (ℕ_discrete d c))
      where
        i : Image
        i = decode_image Z (suc c) (spliced (image_part Z b c) o v)

        go : (d : ℕ) → Dec (d ≡ c) → decode_image Z (suc d) (image_part Z (spliced b (image_at Z c + o) v) d) ≡ put (λ d. decode_image Z (suc d) (image_part Z b d)) c i d
        go d (yes q) = rw (q, put_same) (ap (decode_image Z (suc c)) own_part)
        go d (no q) = rw (put_other (λ d. decode_image Z (suc d) (image_part Z b d)) c i d q) (ap (decode_image Z (suc d)) (other_part d q))

  pub record_put : (c k : ℕ) (v : Bytes) → c < Z.n → k < Z.m → length v ≡ 34
      → decode Z (spliced b (image_at Z c + record_at Z k) v) ≡ put (decode Z b) c (set_record (decode Z b c) k (read_record (index (first_at Z b c) k) v))
  unfolding first_at
  record_put c k v cn km lv =
      image_put c cn (record_at Z k) v (omega (arith, record_fits Z (suc c) k km))
      ∙ ap (put (decode Z b) c) (unfold decode in record_spliced Z (suc c) (image_part Z b c) (length_image c cn) k km v lv)

  pub entry_put : (c k : ℕ) (v : Bytes) → c < Z.n → is_witness Z (suc c) ≡ false → k < Z.m → length v ≡ 240
      → decode Z (spliced b (image_at Z c + entry_at Z k) v) ≡ put (decode Z b) c (set_entry (decode Z b c) k (read_entry (index (first_at Z b c) k) v))
  unfolding first_at
  entry_put c k v cn card km lv =
      image_put c cn (entry_at Z k) v (omega (arith, entry_fits Z (suc c) k card km))
      ∙ ap (put (decode Z b) c) (unfold decode in entry_spliced Z (suc c) (image_part Z b c) (length_image c cn) k card km v lv)
