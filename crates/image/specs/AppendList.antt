-- A list of appends to a card's image, one after another, and what reading answers then.
use Rattle.std.specs.Prelude.{ℕ, suc, ◌-◌, ◌≤◌, ◌<◌, ◌≡◌, true, List, [], ◌∷◌, ◌++◌, map, length, get_or, replicate}
use Rattle.slices.specs.Parts.{Bytes}
use Rattle.record.specs.declared.Shape.{Shape}
use Rattle.image.specs.Image.{first_in, decode_image}
use Rattle.image.specs.View.{card_refusal, log_length}
use Rattle.image.specs.Read.{epochs_of, verdicts_of, has_payload, payload_of}
use Rattle.image.specs.Append.{append_refusal, appended}

-- what an append is given
pub record Appending : Type 0 where
  pub epoch : ℕ
  pub payload : Bytes

unfoldable pub append_all : Shape → ℕ → Bytes → List Appending → Bytes
append_all Z c b [] = b
append_all Z c b (a ∷ l) = append_all Z c (appended Z c b a.epoch a.payload) l

-- each is given an epoch of 32 bits and is accepted
unfoldable pub Accepted : Shape → ℕ → Bytes → List Appending → Type 0
Accepted Z c b [] = Unit {0}
Accepted Z c b (a ∷ l) =
    (a.epoch ≤ 4294967295)
    × (append_refusal Z c b a.epoch (length a.payload) ≡ 0)
    × Accepted Z c (appended Z c b a.epoch a.payload) l

abbrev pub epochs_in : List Appending → List ℕ
epochs_in l = map (λ (a : Appending). a.epoch) l

abbrev pub payloads_in : List Appending → List Bytes
payloads_in l = map (λ (a : Appending). a.payload) l

-- reading b answers these: where the log begins, so many slots, their epochs and then 0, verdicts 1 and then 0, their payloads and no others
pub record ReadsAs (Z : Shape) (c first : ℕ) (b : Bytes) (l : List Appending) : Type 0 where
  pub readable : card_refusal Z c b ≡ 0
  pub begins : first_in Z c b ≡ first
  pub many : log_length Z.m (decode_image Z c b) ≡ length l
  pub epochs : epochs_of Z.m (decode_image Z c b) ≡ epochs_in l ++ replicate (Z.m - length l) 0
  pub verdicts : verdicts_of Z.m (decode_image Z c b) ≡ replicate (length l) 1 ++ replicate (Z.m - length l) 0
  pub present : (k : ℕ) → k < length l → has_payload Z.m (decode_image Z c b) (suc k) ≡ true
  pub payloads : (k : ℕ) → payload_of Z c b (suc k) ≡ get_or (payloads_in l) k []
