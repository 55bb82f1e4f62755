-- Document 02, Seven, of one image: a witness's reader fills only epochs, and its append takes an epoch alone.
use Rattle.std.specs.Prelude.{ℕ, cond, not, ◌||◌, eqb, leb, ltb}
use Rattle.slices.specs.Parts.{Bytes, spliced}
use Rattle.record.specs.declared.Shape.{Shape}
use Rattle.record.specs.Layout.{record_bytes}
use Rattle.image.specs.Refusal.{refuse, ◌else◌}
use Rattle.image.specs.Image.{index, first_in, decode_image, record_at}
use Rattle.image.specs.View.{witness_refusal, log_length}
use Rattle.image.specs.Append.{last_epoch}

-- 13 if the lent buffer has the wrong length, after all else that applies
unfoldable pub epochs_refusal : Shape → ℕ → Bytes → ℕ → ℕ
epochs_refusal Z c b epochs = witness_refusal Z c b else refuse 13 (not (eqb epochs Z.m))

-- an append is refused as a card's is, but for the payload
unfoldable pub record_refusal : Shape → ℕ → Bytes → ℕ → ℕ
record_refusal Z c b e =
    witness_refusal Z c b
    else refuse 8 (eqb e 0 || ltb e (last_epoch Z.m (decode_image Z c b)))
    else refuse 10 (leb Z.m (log_length Z.m (decode_image Z c b)))

-- slot k of a log that begins at this index, its record written for epoch e
unfoldable pub recorded : Shape → ℕ → Bytes → ℕ → ℕ → Bytes
recorded Z first b k e = spliced b (record_at Z k) (record_bytes e (index first k))

-- the image afterwards; a refused call changes no byte
unfoldable pub record_appended : Shape → ℕ → Bytes → ℕ → Bytes
record_appended Z c b e =
    cond (eqb (record_refusal Z c b e) 0) (recorded Z (first_in Z c b) b (log_length Z.m (decode_image Z c b)) e) b
