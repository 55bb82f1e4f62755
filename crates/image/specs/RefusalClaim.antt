-- Document 01, "Refused by number", for one image: each number has its condition and no other, and the lowest that applies wins.
use Rattle.std.specs.Prelude.{ℕ, zero, suc, ◌+◌, ◌-◌, ◌≤◌, ◌<◌, ◌≡◌, true, false, ◌⊎◌, length}
use Rattle.slices.specs.Parts.{Bytes, part}
use Rattle.record.specs.declared.Shape.{Shape}
use Rattle.record.specs.Layout.{is_witness, header_size}
use Rattle.record.specs.Meaning.{blank, bad, broken}
use Rattle.record.specs.Exactly.{SomeHeader}
use Rattle.image.specs.Image.{Image, image_size, decode_image}
use Rattle.image.specs.View.{epoch_at, log_length, named_refusal, read_refusal, card_refusal, witness_refusal}
use Rattle.image.specs.Append.{last_epoch, format_refusal, append_refusal}
use Rattle.image.specs.Witness.{record_refusal}

-- r is the lowest number whose refusal applies, 0 if none does. `Passes` says of each number that its refusal does not apply
pub record Lowest (Passes : ℕ → Type 0) (r : ℕ) : Type 0 where
  pub applies : ¬ (r ≡ 0) → ¬ (Passes r)
  pub below : ¬ (r ≡ 0) → (q : ℕ) → q < r → Passes q
  pub none : r ≡ 0 → (q : ℕ) → Passes q

-- 6: no bad record beside an entry that is not intact
abbrev pub NoneLost : ℕ → Image → Type 0
NoneLost m i = (k : ℕ) (y z : Bytes) → k < m → i.records k ≡ bad y → ¬ (i.entries k ≡ broken z)

-- 6 on a witness: no bad record (02, Seven)
abbrev pub NoneBad : ℕ → Image → Type 0
NoneBad m i = (k : ℕ) (y : Bytes) → k < m → ¬ (i.records k ≡ bad y)

-- reading b, whose image is i, as that of replica c, where 3 and 6 are these
abbrev pub Passes : Type 0 → Type 0 → Shape → ℕ → Bytes → Image → ℕ → Type 0
Passes three six Z c b i zero = Unit {0}
Passes three six Z c b i (suc zero) = (1 ≤ Z.m) × (Z.m ≤ 64)
Passes three six Z c b i (suc (suc zero)) = ((3 ≤ Z.n) × (Z.n ≤ 7)) × ((1 ≤ Z.edition) × (Z.edition ≤ 2)) × ((1 ≤ c) × (c ≤ Z.n))
Passes three six Z c b i (suc (suc (suc zero))) = three
-- the header is the writer's for this shape and replica, and a first index
Passes three six Z c b i (suc (suc (suc (suc zero)))) = SomeHeader Z c (part b 0 (header_size Z))
-- no used slot after a blank record
Passes three six Z c b i (suc (suc (suc (suc (suc zero))))) = (j k : ℕ) → j < k → k < Z.m → i.records j ≡ blank → i.records k ≡ blank
Passes three six Z c b i (suc (suc (suc (suc (suc (suc zero)))))) = six
-- no used slot's epoch below an earlier one
Passes three six Z c b i (suc (suc (suc (suc (suc (suc (suc zero))))))) =
    (j k : ℕ) → j < k → k < Z.m → ¬ (i.records j ≡ blank) → ¬ (i.records k ≡ blank) → epoch_at i j ≤ epoch_at i k
Passes three six Z c b i (suc (suc (suc (suc (suc (suc (suc (suc q)))))))) = Unit {0}

-- whatever image the shape says that the replica has
abbrev pub ReadPasses : Shape → ℕ → Bytes → Image → ℕ → Type 0
ReadPasses Z c b i q = Passes (length b ≡ image_size Z c) (NoneLost Z.m i) Z c b i q

-- by a call for cards: 3 applies to a witness too (02, Seven)
abbrev pub CardPasses : Shape → ℕ → Bytes → Image → ℕ → Type 0
CardPasses Z c b i q = Passes ((is_witness Z c ≡ false) × (length b ≡ image_size Z c)) (NoneLost Z.m i) Z c b i q

-- and by a call for witnesses to any other
abbrev pub WitnessPasses : Shape → ℕ → Bytes → Image → ℕ → Type 0
WitnessPasses Z c b i q = Passes ((is_witness Z c ≡ true) × (length b ≡ image_size Z c)) (NoneBad Z.m i) Z c b i q

-- appending epoch e and a payload of so many bytes to b, a card's, whose log has so many slots and whose last used slot has epoch last
pub record AppendRefused (Z : Shape) (c : ℕ) (b : Bytes) (e size len last : ℕ) : Type 0 where
  pub one_to_seven : ¬ (card_refusal Z c b ≡ 0) → append_refusal Z c b e size ≡ card_refusal Z c b
  pub eight : card_refusal Z c b ≡ 0 → (e ≡ 0) ⊎ (e < last) → append_refusal Z c b e size ≡ 8
  pub nine : card_refusal Z c b ≡ 0 → 1 ≤ e → last ≤ e → 200 < size → append_refusal Z c b e size ≡ 9
  pub ten : card_refusal Z c b ≡ 0 → 1 ≤ e → last ≤ e → size ≤ 200 → len ≡ Z.m → append_refusal Z c b e size ≡ 10
  pub none : card_refusal Z c b ≡ 0 → 1 ≤ e → last ≤ e → size ≤ 200 → len < Z.m → append_refusal Z c b e size ≡ 0

-- appending epoch e to b, a witness's
pub record RecordRefused (Z : Shape) (c : ℕ) (b : Bytes) (e len last : ℕ) : Type 0 where
  pub one_to_seven : ¬ (witness_refusal Z c b ≡ 0) → record_refusal Z c b e ≡ witness_refusal Z c b
  pub eight : witness_refusal Z c b ≡ 0 → (e ≡ 0) ⊎ (e < last) → record_refusal Z c b e ≡ 8
  pub ten : witness_refusal Z c b ≡ 0 → 1 ≤ e → last ≤ e → len ≡ Z.m → record_refusal Z c b e ≡ 10
  pub none : witness_refusal Z c b ≡ 0 → 1 ≤ e → last ≤ e → len < Z.m → record_refusal Z c b e ≡ 0

-- a first index is refused: it is 0, in edition 1 another than 1, or the last slot's index passes 4,294,967,295
pub data FirstRefused (Z : Shape) (first : ℕ) : Type 0 where
  zero_first : first ≡ 0 → FirstRefused Z first
  other_first : Z.edition ≡ 1 → ¬ (first ≡ 1) → FirstRefused Z first
  last_past : 4294967295 < first + (Z.m - 1) → FirstRefused Z first

-- a fresh image of a log that begins at this index, in a buffer of so many bytes: 1, 2, 20 and 3, in this order
pub record FormatRefused (Z : Shape) (c first size : ℕ) : Type 0 where
  pub one_two : ¬ (named_refusal Z c ≡ 0) → format_refusal Z c first size ≡ named_refusal Z c
  pub twenty : named_refusal Z c ≡ 0 → FirstRefused Z first → format_refusal Z c first size ≡ 20
  pub three : named_refusal Z c ≡ 0 → ¬ (FirstRefused Z first) → ¬ (size ≡ image_size Z c) → format_refusal Z c first size ≡ 3
  pub none : named_refusal Z c ≡ 0 → ¬ (FirstRefused Z first) → size ≡ image_size Z c → format_refusal Z c first size ≡ 0

pub record RefusalClaim : Type 0 where
  pub reading : (Z : Shape) (c : ℕ) (b : Bytes) → Lowest (ReadPasses Z c b (decode_image Z c b)) (read_refusal Z c b)
  pub cards : (Z : Shape) (c : ℕ) (b : Bytes) → Lowest (CardPasses Z c b (decode_image Z c b)) (card_refusal Z c b)
  pub witnesses : (Z : Shape) (c : ℕ) (b : Bytes) → Lowest (WitnessPasses Z c b (decode_image Z c b)) (witness_refusal Z c b)
  -- a card is refused as it was before there were witnesses
  pub card_as_before : (Z : Shape) (c : ℕ) (b : Bytes) → is_witness Z c ≡ false → card_refusal Z c b ≡ read_refusal Z c b
  pub formatting : (Z : Shape) (c first size : ℕ) → FormatRefused Z c first size
  pub appending : (Z : Shape) (c : ℕ) (b : Bytes) (e size : ℕ)
      → AppendRefused Z c b e size (log_length Z.m (decode_image Z c b)) (last_epoch Z.m (decode_image Z c b))
  pub recording : (Z : Shape) (c : ℕ) (b : Bytes) (e : ℕ)
      → RecordRefused Z c b e (log_length Z.m (decode_image Z c b)) (last_epoch Z.m (decode_image Z c b))
