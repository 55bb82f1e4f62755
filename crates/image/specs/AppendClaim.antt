-- What appending does to an image, as a claim.
use Rattle.std.specs.Prelude.{ℕ, suc, ◌-◌, ◌≤◌, ◌<◌, ◌≡◌, true, false, cond, List, eqb, length}
use Rattle.slices.specs.Parts.{Bytes}
use Rattle.record.specs.declared.Shape.{Shape}
use Rattle.record.specs.Layout.{is_witness}
use Rattle.record.specs.Meaning.{blank}
use Rattle.image.specs.Image.{Image, image_size, first_in, decode_image, fresh_image}
use Rattle.image.specs.View.{condition_at, epoch_at, log_length, card_refusal}
use Rattle.image.specs.declared.condition.Condition.TheVariants.{Whole}
use Rattle.image.specs.Verdict.{is_fresh, verdict_at}
use Rattle.image.specs.Read.{has_payload, payload_of}
use Rattle.image.specs.Append.{last_epoch, format_refusal, append_refusal, appended}
use Rattle.image.specs.AppendList.{Appending, append_all, Accepted, ReadsAs}
use Rattle.image.specs.Witness.{record_refusal, record_appended}
use Rattle.image.specs.WitnessClaim.{EmptyWitness, OneRecordMore, record_all, RecordsAccepted, ReadsAsEpochs}

-- a card's image with nothing in it
pub record Empty (Z : Shape) (c first : ℕ) (b : Bytes) : Type 0 where
  pub size : length b ≡ image_size Z c
  pub readable : card_refusal Z c b ≡ 0
  pub begins : first_in Z c b ≡ first
  pub none : log_length Z.m (decode_image Z c b) ≡ 0
  pub blanks : (k : ℕ) → k < Z.m → (decode_image Z c b).records k ≡ blank
  pub verdicts : (k : ℕ) → k < Z.m → verdict_at Z.m (decode_image Z c b) k ≡ 0

-- from b, whose image is i, to b' and i' by an append of e and p: slot number len + 1 is new, the others keep what they have
pub record OneMore (Z : Shape) (c : ℕ) (b : Bytes) (i : Image) (len e : ℕ) (p : Bytes) (b' : Bytes) (i' : Image) : Type 0 where
  pub size : length b' ≡ length b
  pub readable : card_refusal Z c b' ≡ 0
  pub begins : first_in Z c b' ≡ first_in Z c b
  pub room : len < Z.m
  pub longer : log_length Z.m i' ≡ suc len
  pub whole : condition_at i' len ≡ Whole
  pub epoch : epoch_at i' len ≡ e
  pub present : has_payload Z.m i' (suc len) ≡ true
  pub payload : payload_of Z c b' (suc len) ≡ p
  pub conditions_stay : (k : ℕ) → ¬ (k ≡ len) → condition_at i' k ≡ condition_at i k
  pub epochs_stay : (k : ℕ) → ¬ (k ≡ len) → epoch_at i' k ≡ epoch_at i k
  pub presence_stays : (s : ℕ) → ¬ (s ≡ suc len) → has_payload Z.m i' s ≡ has_payload Z.m i s
  pub payloads_stay : (s : ℕ) → ¬ (s ≡ suc len) → payload_of Z c b' s ≡ payload_of Z c b s
  -- the slot written; the former last slot, where 4 becomes 3; the first unused slot now; and every other
  pub verdict_here : verdict_at Z.m i' len ≡ 1
  pub verdict_before : (k : ℕ) → suc k ≡ len → verdict_at Z.m i' k ≡ cond (eqb (verdict_at Z.m i k) 4) 3 (verdict_at Z.m i k)
  pub verdict_behind : suc len < Z.m → (verdict_at Z.m i (suc len) ≡ 0) × (verdict_at Z.m i' (suc len) ≡ cond (is_fresh (i.entries (suc len))) 0 5)
  pub verdicts_stay : (k : ℕ) → ¬ (k ≡ len) → ¬ (suc k ≡ len) → ¬ (k ≡ suc len) → verdict_at Z.m i' k ≡ verdict_at Z.m i k

-- onto every log that is neither empty nor full, appending at the last epoch is accepted, and one lower is 8
pub record AtLastEpoch (Z : Shape) (c : ℕ) (b : Bytes) (size : ℕ) : Type 0 where
  pub same : append_refusal Z c b (last_epoch Z.m (decode_image Z c b)) size ≡ 0
  pub lower : append_refusal Z c b (last_epoch Z.m (decode_image Z c b) - 1) size ≡ 8

pub record AppendClaim : Type 0 where
  pub fresh : (Z : Shape) (c first : ℕ) → is_witness Z c ≡ false → format_refusal Z c first (image_size Z c) ≡ 0 → Empty Z c first (fresh_image Z c first)
  pub one : (Z : Shape) (c : ℕ) (b : Bytes) (e : ℕ) (p : Bytes) → e ≤ 4294967295 → append_refusal Z c b e (length p) ≡ 0
      → OneMore Z c b (decode_image Z c b) (log_length Z.m (decode_image Z c b)) e p
      (appended Z c b e p) (decode_image Z c (appended Z c b e p))
  pub several : (Z : Shape) (c first : ℕ) (l : List Appending) → is_witness Z c ≡ false → format_refusal Z c first (image_size Z c) ≡ 0
      → Accepted Z c (fresh_image Z c first) l → ReadsAs Z c first (append_all Z c (fresh_image Z c first) l) l
  pub at_last_epoch : (Z : Shape) (c : ℕ) (b : Bytes) (size : ℕ) → card_refusal Z c b ≡ 0 → 0 < log_length Z.m (decode_image Z c b)
      → log_length Z.m (decode_image Z c b) < Z.m → size ≤ 200 → AtLastEpoch Z c b size
  -- a witness (02, Seven): the same of its records alone
  pub witness_fresh : (Z : Shape) (c first : ℕ) → is_witness Z c ≡ true → format_refusal Z c first (image_size Z c) ≡ 0 → EmptyWitness Z c first (fresh_image Z c first)
  pub witness_one : (Z : Shape) (c : ℕ) (b : Bytes) (e : ℕ) → e ≤ 4294967295 → record_refusal Z c b e ≡ 0
      → OneRecordMore Z c b (decode_image Z c b) (log_length Z.m (decode_image Z c b)) e (record_appended Z c b e) (decode_image Z c (record_appended Z c b e))
  pub witness_several : (Z : Shape) (c first : ℕ) (l : List ℕ) → is_witness Z c ≡ true → format_refusal Z c first (image_size Z c) ≡ 0
      → RecordsAccepted Z c (fresh_image Z c first) l → ReadsAsEpochs Z c first (record_all Z c (fresh_image Z c first) l) l
