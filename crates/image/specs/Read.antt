-- Document 01, "Reading one image": the answers of reading a card's image and of asking for a payload, and what the lent buffers hold then.
use Rattle.std.specs.Prelude.{ℕ, ◌+◌, ◌-◌, Bool, cond, not, ◌&&◌, ◌||◌, List, [], eqb, leb}
use Rattle.search.specs.Search.{listed}
use Rattle.slices.specs.Parts.{Bytes, part}
use Rattle.record.specs.declared.Shape.{Shape}
use Rattle.record.specs.Layout.{entry_size}
use Rattle.record.specs.Meaning.{entry_payload}
use Rattle.image.specs.Refusal.{refuse, ◌else◌}
use Rattle.image.specs.Image.{Image, decode_image, entry_at}
use Rattle.image.specs.View.{card_refusal, epoch_at, condition_at, condition_number}
use Rattle.image.specs.declared.condition.Condition.{Condition}
use Rattle.image.specs.Verdict.{verdict_at}

-- 13 if a lent buffer (epochs, verdicts) has the wrong length, after all else that applies
unfoldable pub lent_refusal : Shape → ℕ → Bytes → ℕ → ℕ → ℕ
lent_refusal Z c b epochs verdicts = card_refusal Z c b else refuse 13 (not (eqb epochs Z.m && eqb verdicts Z.m))

unfoldable pub epochs_of : ℕ → Image → List ℕ
epochs_of m i = listed m (epoch_at i)

unfoldable pub verdicts_of : ℕ → Image → List ℕ
verdicts_of m i = listed m (verdict_at m i)

-- verdicts 1 and 2
unfoldable pub is_whole : Condition → Bool
is_whole a = eqb (condition_number a) 1 || eqb (condition_number a) 2

-- whether slot number s (from 1) has a payload
unfoldable pub has_payload : ℕ → Image → ℕ → Bool
has_payload m i s = leb 1 s && leb s m && is_whole (condition_at i (s - 1))

-- its part of the image, or the empty part
unfoldable pub payload_of : Shape → ℕ → Bytes → ℕ → Bytes
payload_of Z c b s =
    cond (eqb (card_refusal Z c b) 0 && has_payload Z.m (decode_image Z c b) s) (entry_payload (part b (entry_at Z (s - 1)) entry_size)) []

-- where that part begins in the image, 0 if there is no payload
unfoldable pub payload_at : Shape → ℕ → Bytes → ℕ → ℕ
payload_at Z c b s = cond (eqb (card_refusal Z c b) 0 && has_payload Z.m (decode_image Z c b) s) (entry_at Z (s - 1) + 26) 0
