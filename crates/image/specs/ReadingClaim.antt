-- What documents 01 and 02 say of reading one image, sentence by sentence, as a claim that the check demands.
use Rattle.std.specs.Prelude.{ℕ, suc, ◌-◌, ◌<◌, ◌≤◌, ◌≡◌, true, cond, not, ◌&&◌, ◌||◌, eqb, leb}
use Rattle.search.specs.Search.{count}
use Rattle.slices.specs.Parts.{Bytes, part}
use Rattle.record.specs.declared.Shape.{Shape}
use Rattle.record.specs.Layout.{entry_size, fresh_entry}
use Rattle.record.specs.Meaning.{good, blank, bad, intact}
use Rattle.record.specs.Exactly.{IntactFor}
use Rattle.image.specs.Image.{Image, index, first_in, entry_at, decode_image}
use Rattle.image.specs.View.{is_blank, epoch_at, log_length, card_refusal, witness_refusal}
use Rattle.image.specs.Verdict.{verdict_at}
use Rattle.image.specs.Read.{has_payload, payload_of}
use Rattle.image.specs.WitnessClaim.{WitnessReading}

-- 02's stale (Two): the record is good, and the entry is intact for that slot with another epoch
pub record Stale (i : Image) (k : ℕ) : Type 0 where
  pub recorded : ℕ
  pub written : ℕ
  pub payload : Bytes
  pub good_record : i.records k ≡ good recorded
  pub intact_entry : i.entries k ≡ intact written payload
  pub other_epoch : ¬ (written ≡ recorded)

-- of bytes b, a card's, whose image is i, with a log of so many slots
pub record Reading (Z : Shape) (c : ℕ) (b : Bytes) (i : Image) (len : ℕ) : Type 0 where
  -- the log's length is the number of used slots: those with a record that is not blank
  pub length_is : len ≡ count (λ k. not (is_blank (i.records k))) Z.m
  -- a slot's epoch is its record's if good, else its entry's; 0 if unused
  pub epoch_good : (k e : ℕ) → i.records k ≡ good e → epoch_at i k ≡ e
  pub epoch_else : (k e : ℕ) (z p : Bytes) → i.records k ≡ bad z → i.entries k ≡ intact e p → epoch_at i k ≡ e
  pub epoch_unused : (k : ℕ) → i.records k ≡ blank → epoch_at i k ≡ 0
  -- 1: a good record beside an intact entry of its epoch; 2: a bad record beside an intact entry
  pub whole : (k e : ℕ) (p : Bytes) → i.records k ≡ good e → i.entries k ≡ intact e p → verdict_at Z.m i k ≡ 1
  pub record_lost : (k e : ℕ) (z p : Bytes) → i.records k ≡ bad z → i.entries k ≡ intact e p → verdict_at Z.m i k ≡ 2
  -- 6: stale, and nothing else; at the last used slot too
  pub stale : (k : ℕ) → Stale i k → verdict_at Z.m i k ≡ 6
  pub stale_only : (k : ℕ) → verdict_at Z.m i k ≡ 6 → Stale i k
  -- 3: a good record whose entry is not intact at all; 4: as 3, at the last used slot
  pub damaged : (k e : ℕ) → i.records k ≡ good e → ((f : ℕ) (p : Bytes) → ¬ (i.entries k ≡ intact f p)) → ¬ (suc k ≡ len) → verdict_at Z.m i k ≡ 3
  pub ambiguous : (k e : ℕ) → i.records k ≡ good e → ((f : ℕ) (p : Bytes) → ¬ (i.entries k ≡ intact f p)) → suc k ≡ len → verdict_at Z.m i k ≡ 4
  pub damaged_only : (k f : ℕ) (p : Bytes) → verdict_at Z.m i k ≡ 3 → ¬ (i.entries k ≡ intact f p)
  pub ambiguous_only : (k f : ℕ) (p : Bytes) → verdict_at Z.m i k ≡ 4 → ¬ (i.entries k ≡ intact f p)
  -- where document 01 had 3, and 4 at the last used slot (an entry that is not intact with its record's epoch), it is that or 6
  pub that_or_six : (k e : ℕ) → i.records k ≡ good e → ((p : Bytes) → ¬ (i.entries k ≡ intact e p))
      → (eqb (verdict_at Z.m i k) 6 || eqb (verdict_at Z.m i k) (cond (eqb (suc k) len) 4 3)) ≡ true
  -- an entry that is intact for another slot is noise
  pub misplaced : (k j e f : ℕ) (p : Bytes) → k < Z.m → j ≤ 4294967295 → i.records k ≡ good e → IntactFor j f p (part b (entry_at Z k) entry_size)
      → ¬ (j ≡ index (first_in Z c b) k) → verdict_at Z.m i k ≡ cond (eqb (suc k) len) 4 3
  -- 5: the first unused slot, if its entry is not all spaces; 0: every other unused slot
  pub unfinished : (k : ℕ) → k < Z.m → k ≡ len → ¬ (part b (entry_at Z k) entry_size ≡ fresh_entry) → verdict_at Z.m i k ≡ 5
  pub unused_fresh : (k : ℕ) → k < Z.m → k ≡ len → part b (entry_at Z k) entry_size ≡ fresh_entry → verdict_at Z.m i k ≡ 0
  pub unused_behind : (k : ℕ) → k < Z.m → len < k → verdict_at Z.m i k ≡ 0
  -- a slot, by its number, has a payload exactly with verdict 1 or 2: its entry's
  pub present : (s : ℕ) → has_payload Z.m i s ≡ leb 1 s && leb s Z.m && (eqb (verdict_at Z.m i (s - 1)) 1 || eqb (verdict_at Z.m i (s - 1)) 2)
  pub payload : (k e : ℕ) (p : Bytes) → has_payload Z.m i (suc k) ≡ true → i.entries k ≡ intact e p → payload_of Z c b (suc k) ≡ p

-- every image that is not refused, a card's and a witness's
pub record ReadingClaim : Type 0 where
  pub reads : (Z : Shape) (c : ℕ) (b : Bytes) → card_refusal Z c b ≡ 0 → Reading Z c b (decode_image Z c b) (log_length Z.m (decode_image Z c b))
  pub witness_reads : (Z : Shape) (c : ℕ) (b : Bytes) → witness_refusal Z c b ≡ 0
      → WitnessReading Z.m (decode_image Z c b) (log_length Z.m (decode_image Z c b))
