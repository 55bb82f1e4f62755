-- What is said of a witness's image (02, Seven): reading it, an append, and a list of appends.
use Rattle.std.specs.Prelude.{ℕ, suc, ◌-◌, ◌≤◌, ◌<◌, ◌≡◌, not, List, [], ◌∷◌, ◌++◌, length, replicate}
use Rattle.search.specs.Search.{count}
use Rattle.slices.specs.Parts.{Bytes}
use Rattle.record.specs.declared.Shape.{Shape}
use Rattle.record.specs.Meaning.{good, blank, bad}
use Rattle.image.specs.Image.{Image, image_size, first_in, decode_image}
use Rattle.image.specs.View.{is_blank, epoch_at, log_length, witness_refusal}
use Rattle.image.specs.Read.{epochs_of}
use Rattle.image.specs.Witness.{record_refusal, record_appended}

-- of an image i that is not refused, with a log of so many slots
pub record WitnessReading (m : ℕ) (i : Image) (len : ℕ) : Type 0 where
  -- the log's length is the number of used slots
  pub length_is : len ≡ count (λ k. not (is_blank (i.records k))) m
  -- a slot's epoch is its record's; 0 if unused
  pub epoch_good : (k e : ℕ) → i.records k ≡ good e → epoch_at i k ≡ e
  pub epoch_unused : (k : ℕ) → i.records k ≡ blank → epoch_at i k ≡ 0
  -- no record is bad
  pub none_bad : (k : ℕ) (z : Bytes) → k < m → ¬ (i.records k ≡ bad z)

-- an image with nothing in it
pub record EmptyWitness (Z : Shape) (c first : ℕ) (b : Bytes) : Type 0 where
  pub size : length b ≡ image_size Z c
  pub readable : witness_refusal Z c b ≡ 0
  pub begins : first_in Z c b ≡ first
  pub none : log_length Z.m (decode_image Z c b) ≡ 0
  pub blanks : (k : ℕ) → k < Z.m → (decode_image Z c b).records k ≡ blank

-- from b, whose image is i, to b' and i' by an append of e: slot number len + 1 is new, the others keep what they have
pub record OneRecordMore (Z : Shape) (c : ℕ) (b : Bytes) (i : Image) (len e : ℕ) (b' : Bytes) (i' : Image) : Type 0 where
  pub size : length b' ≡ length b
  pub readable : witness_refusal Z c b' ≡ 0
  pub begins : first_in Z c b' ≡ first_in Z c b
  pub room : len < Z.m
  pub longer : log_length Z.m i' ≡ suc len
  pub written : i'.records len ≡ good e
  pub epoch : epoch_at i' len ≡ e
  pub header_stays : i'.header ≡ i.header
  pub records_stay : (k : ℕ) → ¬ (k ≡ len) → i'.records k ≡ i.records k
  pub epochs_stay : (k : ℕ) → ¬ (k ≡ len) → epoch_at i' k ≡ epoch_at i k

-- a list of appends, one after another
unfoldable pub record_all : Shape → ℕ → Bytes → List ℕ → Bytes
record_all Z c b [] = b
record_all Z c b (e ∷ l) = record_all Z c (record_appended Z c b e) l

-- each is given an epoch of 32 bits and is accepted
unfoldable pub RecordsAccepted : Shape → ℕ → Bytes → List ℕ → Type 0
RecordsAccepted Z c b [] = Unit {0}
RecordsAccepted Z c b (e ∷ l) = (e ≤ 4294967295) × (record_refusal Z c b e ≡ 0) × RecordsAccepted Z c (record_appended Z c b e) l

-- reading b answers these: where the log begins, so many slots, their epochs and then 0
pub record ReadsAsEpochs (Z : Shape) (c first : ℕ) (b : Bytes) (l : List ℕ) : Type 0 where
  pub readable : witness_refusal Z c b ≡ 0
  pub begins : first_in Z c b ≡ first
  pub many : log_length Z.m (decode_image Z c b) ≡ length l
  pub epochs : epochs_of Z.m (decode_image Z c b) ≡ l ++ replicate (Z.m - length l) 0
