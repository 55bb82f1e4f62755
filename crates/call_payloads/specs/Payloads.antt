-- The calls about the payload of a slot: each as one contract, which the call cites and its export says in full, as in `call_images`.
use Rattle.std.specs.Prelude.{ℕ, ◌≡◌, Bool, cond, length}
use Rattle.slices.specs.Parts.{Bytes, part}
use Rattle.record.specs.declared.Shape.{Shape}
use Rattle.image.specs.Image.{decode_image}
use Rattle.image.specs.View.{card_refusal}
use Rattle.image.specs.Read.{has_payload, payload_of, payload_at}
use Rattle.image.specs.Refusal.{unless_refused}

-- 1 for yes, 0 for no
unfoldable pub flag : Bool → ℕ
flag b = cond b 1 0

-- whether the slot has a payload is handed out
abbrev pub HasPayloadCall : Bytes → Shape → ℕ → ℕ → ℕ → ℕ → ℕ → Type 0
HasPayloadCall b Z c slot has has' r = (r ≡ card_refusal Z c b) × (has' ≡ unless_refused r (flag (has_payload Z.m (decode_image Z c b) slot)) has)

-- where the payload begins and its length are handed out, whatever they were; that part of the image is the payload
abbrev pub PayloadCall : Bytes → Shape → ℕ → ℕ → ℕ → ℕ → Type 0
PayloadCall b Z c slot at' size' = (at' ≡ payload_at Z c b slot) × (size' ≡ length (payload_of Z c b slot)) × (part b at' size' ≡ payload_of Z c b slot)
