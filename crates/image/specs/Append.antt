-- Document 01, "Appending": the entry and then the record of the first unused slot of a card; and a fresh image, a witness's too.
use Rattle.std.specs.Prelude.{ℕ, ◌-◌, cond, not, ◌||◌, eqb, leb, ltb, length}
use Rattle.slices.specs.Parts.{Bytes, spliced}
use Rattle.record.specs.declared.Shape.{Shape}
use Rattle.record.specs.Layout.{record_bytes, entry_bytes}
use Rattle.record.specs.Meaning.{is_first}
use Rattle.image.specs.Refusal.{refuse, ◌else◌}
use Rattle.image.specs.Image.{Image, index, first_in, decode_image, image_size, record_at, entry_at, fresh_image}
use Rattle.image.specs.View.{named_refusal, card_refusal, log_length, epoch_at}

-- the last used slot's epoch, 0 for an empty log
unfoldable pub last_epoch : ℕ → Image → ℕ
last_epoch m i = cond (eqb (log_length m i) 0) 0 (epoch_at i (log_length m i - 1))

unfoldable pub append_refusal : Shape → ℕ → Bytes → ℕ → ℕ → ℕ
append_refusal Z c b e size =
    card_refusal Z c b
    else refuse 8 (eqb e 0 || ltb e (last_epoch Z.m (decode_image Z c b)))
    else refuse 9 (ltb 200 size)
    else refuse 10 (leb Z.m (log_length Z.m (decode_image Z c b)))

-- slot k of a log that begins at this index, written for epoch e and payload p
unfoldable pub stored : Shape → ℕ → Bytes → ℕ → ℕ → Bytes → Bytes
stored Z first b k e p = spliced (spliced b (entry_at Z k) (entry_bytes e (index first k) p)) (record_at Z k) (record_bytes e (index first k))

-- the image afterwards; a refused call changes no byte
unfoldable pub appended : Shape → ℕ → Bytes → ℕ → Bytes → Bytes
appended Z c b e p =
    cond (eqb (append_refusal Z c b e (length p)) 0) (stored Z (first_in Z c b) b (log_length Z.m (decode_image Z c b)) e p) b

-- a fresh image is refused as other calls are, and by 20, tried just before 3, if its log may not begin at that index (02, Six)
unfoldable pub format_refusal : Shape → ℕ → ℕ → ℕ → ℕ
format_refusal Z c first size = named_refusal Z c else refuse 20 (not (is_first Z first)) else refuse 3 (not (eqb size (image_size Z c)))

-- it is made in a buffer of its size
unfoldable pub formatted : Shape → ℕ → ℕ → Bytes → Bytes
formatted Z c first b = cond (eqb (format_refusal Z c first (length b)) 0) (fresh_image Z c first) b
