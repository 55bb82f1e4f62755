-- One image in bytes and taken apart: a splice of one record or entry sets that one and nothing else.
use Prim.Native.Nat.{ℕ, suc, ◌+◌, ◌*◌, ◌≤◌, ◌<◌}
use mathlib.Core.Path.{◌≡◌, refl, ap, ◌∙◌}
use mathlib.Core.Bool.{Bool, true, false, cond, true≢false}
use mathlib.Core.List.{[]}
use native.Mathlib.Omega.{arith}
use native.Mathlib.Nat.{mul-le-mul_left}
use native.Mathlib.Decide.{ℕ_discrete}
use lib.Dec.{ltb}
use lib.ListN.{length}
use borrow.Author.Tests.{lt-ltb, ltb-true}
use Rattle.search.specs.Put.{put}
use Rattle.search.proofs.UpdateLaws.{put_same, put_other}
use Rattle.slices.specs.Parts.{Bytes, part, spliced}
use Rattle.slices.proofs.SpliceLaws.{spliced_here, spliced_before, spliced_behind, spliced_other}
use Rattle.record.specs.declared.Shape.{Shape}
use Rattle.record.specs.Layout.{is_witness, header_size}
use Rattle.record.proofs.LayoutLaws.{header_size_low, header_size_high}
use Rattle.record.specs.Meaning.{first_index, blank, Entry, broken, read_header, read_record, read_entry}
use Rattle.image.specs.Image.{Image, index, entries_size, image_size, record_at, entry_at, decode_under, first_in, decode_image}
use Rattle.image.specs.SetSlot.{set_record, set_entry}

pub size_is : (Z : Shape) (c : ℕ) → image_size Z c ≡ header_size Z + 34 * Z.m + entries_size Z c
unfolding image_size
size_is Z c = refl

-- a card has an entry for each slot, a witness has none
pub entries_card : (Z : Shape) (c : ℕ) → is_witness Z c ≡ false → entries_size Z c ≡ 240 * Z.m
unfolding entries_size
entries_card Z c card = rw card

pub entries_witness : (Z : Shape) (c : ℕ) → is_witness Z c ≡ true → entries_size Z c ≡ 0
unfolding entries_size
entries_witness Z c witness = rw witness

pub size_card : (Z : Shape) (c : ℕ) → is_witness Z c ≡ false → image_size Z c ≡ header_size Z + 34 * Z.m + 240 * Z.m
size_card Z c card = omega (arith, size_is Z c, entries_card Z c card)

pub size_witness : (Z : Shape) (c : ℕ) → is_witness Z c ≡ true → image_size Z c ≡ header_size Z + 34 * Z.m
size_witness Z c witness = omega (arith, size_is Z c, entries_witness Z c witness)

pub entries_most : (Z : Shape) (c : ℕ) → entries_size Z c ≤ 240 * Z.m
entries_most Z c = go (is_witness Z c) refl
  where
    go : (t : Bool) → is_witness Z c ≡ t → entries_size Z c ≤ 240 * Z.m
    go true e = omega (arith, entries_witness Z c e)
    go false e = omega (arith, entries_card Z c e)

-- an image has at least a byte, and of at most 64 slots at most so many
pub size_some : (Z : Shape) (c : ℕ) → 1 ≤ image_size Z c
size_some Z c = omega (arith, size_is Z c, header_size_low Z)

pub size_few : (Z : Shape) (c : ℕ) → Z.m ≤ 64 → image_size Z c ≤ 17575
size_few Z c h = omega (arith, size_is Z c, entries_most Z c, header_size_high Z)

-- where they begin
pub record_begins : (Z : Shape) (k : ℕ) → record_at Z k ≡ header_size Z + 34 * k
unfolding record_at
record_begins Z k = refl

pub entry_begins : (Z : Shape) (k : ℕ) → entry_at Z k ≡ header_size Z + 34 * Z.m + 240 * k
unfolding entry_at
entry_begins Z k = refl

-- the records lie in the image, whatever follows them
pub records_end : (Z : Shape) (c : ℕ) → record_at Z Z.m ≤ image_size Z c
records_end Z c = omega (arith, size_is Z c, record_begins Z Z.m)

-- a card's entries end with its image
pub entries_end : (Z : Shape) (c : ℕ) → is_witness Z c ≡ false → image_size Z c ≡ entry_at Z Z.m
unfolding entry_at
entries_end Z c card = size_card Z c card

-- a record and an entry lie before that end, and so within the image
pub record_ends : (Z : Shape) (k : ℕ) → k < Z.m → record_at Z k + 34 ≤ entry_at Z Z.m
unfolding record_at entry_at
record_ends Z k h = omega (arith, mul-le-mul_left 34 h)

pub entry_ends : (Z : Shape) (k : ℕ) → k < Z.m → entry_at Z k + 240 ≤ entry_at Z Z.m
unfolding entry_at
entry_ends Z k h = omega (arith, mul-le-mul_left 240 h)

pub record_fits : (Z : Shape) (c k : ℕ) → k < Z.m → record_at Z k + 34 ≤ image_size Z c
record_fits Z c k h = omega (arith, size_is Z c, record_begins Z k, mul-le-mul_left 34 h)

pub entry_fits : (Z : Shape) (c k : ℕ) → is_witness Z c ≡ false → k < Z.m → entry_at Z k + 240 ≤ image_size Z c
entry_fits Z c k card h = omega (arith, entries_end Z c card, entry_ends Z k h)

pub image_ext : (a b : Image) → a.header ≡ b.header → ((k : ℕ) → a.records k ≡ b.records k) → ((k : ℕ) → a.entries k ≡ b.entries k) → a ≡ b
image_ext a b p q r = λ i. record { header = p i; records = λ k. q k i; entries = λ k. r k i }

-- slots from 1, where the first has index 1
pub index_one : (k : ℕ) → index 1 k ≡ suc k
unfolding index
index_one k = omega arith

-- the index of one slot only
pub index_other : (first k : ℕ) {j : ℕ} → ¬ (j ≡ k) → ¬ (index first j ≡ index first k)
unfolding index
index_other first k h e = h (omega arith)

pub header_there : (Z : Shape) (c : ℕ) (b : Bytes) → (decode_image Z c b).header ≡ read_header Z c (part b 0 (header_size Z))
unfolding decode_image decode_under
header_there Z c b = refl

-- the header says where the log begins
pub first_is : (Z : Shape) (c : ℕ) (b : Bytes) → first_index (decode_image Z c b).header ≡ first_in Z c b
unfolding decode_image decode_under first_in
first_is Z c b = refl

pub under_first : (Z : Shape) (c : ℕ) (b : Bytes) {first : ℕ} → first ≡ first_index (decode_image Z c b).header → decode_under Z c first b ≡ decode_image Z c b
unfolding decode_image
under_first Z c b p = ap (λ (z : ℕ). decode_under Z c z b) (p ∙ first_is Z c b)

-- what stands at a slot
module _ (Z : Shape) (c first : ℕ) (b : Bytes) (k : ℕ) where
  pub record_under : k < Z.m → (decode_under Z c first b).records k ≡ read_record (index first k) (part b (record_at Z k) 34)
  unfolding decode_under
  record_under h = rw (lt-ltb k Z.m h)

  pub entry_under : is_witness Z c ≡ false → k < Z.m → (decode_under Z c first b).entries k ≡ read_entry (index first k) (part b (entry_at Z k) 240)
  unfolding decode_under
  entry_under card h = rw (card, lt-ltb k Z.m h)

  -- a witness has no entries
  pub none_under : is_witness Z c ≡ true → (decode_under Z c first b).entries k ≡ broken []
  unfolding decode_under
  none_under witness = rw witness

module _ (Z : Shape) (c : ℕ) (b : Bytes) (k : ℕ) where
  pub record_there : k < Z.m → (decode_image Z c b).records k ≡ read_record (index (first_in Z c b) k) (part b (record_at Z k) 34)
  unfolding decode_image
  record_there h = record_under Z c (first_in Z c b) b k h

  pub entry_there : is_witness Z c ≡ false → k < Z.m → (decode_image Z c b).entries k ≡ read_entry (index (first_in Z c b) k) (part b (entry_at Z k) 240)
  unfolding decode_image
  entry_there card h = entry_under Z c (first_in Z c b) b k card h

  pub none_there : is_witness Z c ≡ true → (decode_image Z c b).entries k ≡ broken []
  unfolding decode_image
  none_there witness = none_under Z c (first_in Z c b) b k witness

-- one slot of m is put anew
slot_put {ℓ} : {A : Type ℓ} (m k : ℕ) (f g : ℕ → A) (z v : A) → k < m → g k ≡ v → ((j : ℕ) → j < m → (j ≡ k → ⊥) → g j ≡ f j)
    → (j : ℕ) → cond (ltb j m) (g j) z ≡ put (λ j. cond (ltb j m) (f j) z) k v j
slot_put {A = A} m k f g z v km at off j = go (ℕ_discrete j k)
  where
    tail : (j ≡ k → ⊥) → (t : Bool) → ltb j m ≡ t → cond t (g j) z ≡ cond t (f j) z
    tail q true e = off j (ltb-true j m e) q
    tail q false e = refl

    go : Dec (j ≡ k) → cond (ltb j m) (g j) z ≡ put (λ j. cond (ltb j m) (f j) z) k v j
    go (yes q) = rw (q, put_same, lt-ltb k m km) at
    go (no q) = rw (put_other (λ j. cond (ltb j m) (f j) z) k v j q) (tail q (ltb j m) refl)

-- the others stay
slot_keep {ℓ} : {A : Type ℓ} (m : ℕ) (f g : ℕ → A) (z : A) → ((j : ℕ) → j < m → g j ≡ f j) → (j : ℕ) → cond (ltb j m) (g j) z ≡ cond (ltb j m) (f j) z
slot_keep {A = A} m f g z off j = go (ltb j m) refl
  where
    go : (t : Bool) → ltb j m ≡ t → cond t (g j) z ≡ cond t (f j) z
    go true e = off j (ltb-true j m e)
    go false e = refl

-- where there are entries at all
card_put : (t : Bool) → t ≡ false → (k : ℕ) (f g : ℕ → Entry) (z v : Entry) → ((j : ℕ) → g j ≡ put f k v j) → (j : ℕ) → cond t z (g j) ≡ put (λ j. cond t z (f j)) k v j
card_put true e k f g z v h j = absurd (true≢false e)
card_put false e k f g z v h j = h j

module _ (Z : Shape) (c : ℕ) (b : Bytes) (size : length b ≡ image_size Z c) (k : ℕ) (h : k < Z.m) (v : Bytes) where
  -- a record that is written leaves the header as it was
  record_first : length v ≡ 34 → part (spliced b (record_at Z k) v) 0 (header_size Z) ≡ part b 0 (header_size Z)
  record_first lv = spliced_before b (record_at Z k) v (omega (arith, record_fits Z c k h)) 0 (header_size Z) (unfold record_at in omega arith)

  record_spliced_under : (first : ℕ) → length v ≡ 34
      → decode_under Z c first (spliced b (record_at Z k) v) ≡ set_record (decode_under Z c first b) k (read_record (index first k) v)
  unfolding decode_under set_record
  record_spliced_under first lv =
      image_ext _ _
      (ap (read_header Z c) (record_first lv))
      (slot_put Z.m k (λ j. read_record (index first j) (part b (record_at Z j) 34)) (λ j. read_record (index first j) (part (spliced b (record_at Z k) v) (record_at Z j) 34)) blank (read_record (index first k) v) h
      (ap (read_record (index first k)) (spliced_here b (record_at Z k) v fits 34 lv))
      (λ j x q. ap (read_record (index first j)) (unfold record_at in spliced_other b v (header_size Z) 34 j k lv room q)))
      (λ j. ap (λ (x : Entry). cond (is_witness Z c) (broken []) x)
      (slot_keep Z.m (λ j. read_entry (index first j) (part b (entry_at Z j) 240)) (λ j. read_entry (index first j) (part (spliced b (record_at Z k) v) (entry_at Z j) 240)) (broken [])
      (λ j x. ap (read_entry (index first j)) (spliced_behind b (record_at Z k) v fits (entry_at Z j) 240 (unfold record_at entry_at in omega (arith, mul-le-mul_left 34 h)))) j))
    where
      fits : record_at Z k + length v ≤ length b
      fits = omega (arith, record_fits Z c k h)

      room : header_size Z + 34 * k + 34 ≤ length b
      room = unfold record_at in omega (arith, record_fits Z c k h)

  pub record_keeps_first : length v ≡ 34 → first_in Z c (spliced b (record_at Z k) v) ≡ first_in Z c b
  unfolding first_in
  record_keeps_first lv = ap (λ (z : Bytes). first_index (read_header Z c z)) (record_first lv)

  pub record_spliced : length v ≡ 34 → decode_image Z c (spliced b (record_at Z k) v) ≡ set_record (decode_image Z c b) k (read_record (index (first_in Z c b) k) v)
  unfolding decode_image
  record_spliced lv =
      ap (λ (z : ℕ). decode_under Z c z (spliced b (record_at Z k) v)) (record_keeps_first lv) ∙ record_spliced_under (first_in Z c b) lv

-- so does an entry, on a card
module _ (Z : Shape) (c : ℕ) (b : Bytes) (size : length b ≡ image_size Z c) (k : ℕ) (card : is_witness Z c ≡ false) (h : k < Z.m) (v : Bytes) where
  entry_first : length v ≡ 240 → part (spliced b (entry_at Z k) v) 0 (header_size Z) ≡ part b 0 (header_size Z)
  entry_first lv = spliced_before b (entry_at Z k) v (omega (arith, entry_fits Z c k card h)) 0 (header_size Z) (unfold entry_at in omega arith)

  entry_spliced_under : (first : ℕ) → length v ≡ 240
      → decode_under Z c first (spliced b (entry_at Z k) v) ≡ set_entry (decode_under Z c first b) k (read_entry (index first k) v)
  unfolding decode_under set_entry
  entry_spliced_under first lv =
      image_ext _ _
      (ap (read_header Z c) (entry_first lv))
      (slot_keep Z.m (λ j. read_record (index first j) (part b (record_at Z j) 34)) (λ j. read_record (index first j) (part (spliced b (entry_at Z k) v) (record_at Z j) 34)) blank
      (λ j x. ap (read_record (index first j)) (spliced_before b (entry_at Z k) v fits (record_at Z j) 34 (unfold record_at entry_at in omega (arith, mul-le-mul_left 34 x)))))
      (card_put (is_witness Z c) card k _ _ (broken []) (read_entry (index first k) v)
      (slot_put Z.m k (λ j. read_entry (index first j) (part b (entry_at Z j) 240)) (λ j. read_entry (index first j) (part (spliced b (entry_at Z k) v) (entry_at Z j) 240)) (broken []) (read_entry (index first k) v) h
      (ap (read_entry (index first k)) (spliced_here b (entry_at Z k) v fits 240 lv))
      (λ j x q. ap (read_entry (index first j)) (unfold entry_at in spliced_other b v (header_size Z + 34 * Z.m) 240 j k lv room q))))
    where
      fits : entry_at Z k + length v ≤ length b
      fits = omega (arith, entry_fits Z c k card h)

      room : header_size Z + 34 * Z.m + 240 * k + 240 ≤ length b
      room = unfold entry_at in omega (arith, entry_fits Z c k card h)

  pub entry_keeps_first : length v ≡ 240 → first_in Z c (spliced b (entry_at Z k) v) ≡ first_in Z c b
  unfolding first_in
  entry_keeps_first lv = ap (λ (z : Bytes). first_index (read_header Z c z)) (entry_first lv)

  pub entry_spliced : length v ≡ 240 → decode_image Z c (spliced b (entry_at Z k) v) ≡ set_entry (decode_image Z c b) k (read_entry (index (first_in Z c b) k) v)
  unfolding decode_image
  entry_spliced lv =
      ap (λ (z : ℕ). decode_under Z c z (spliced b (entry_at Z k) v)) (entry_keeps_first lv) ∙ entry_spliced_under (first_in Z c b) lv
