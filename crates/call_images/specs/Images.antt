-- The calls about one image: each as one contract, which the call cites and its export says in full. A contract takes what the call takes, in its order,
-- of all that is lent to be written the old and the new content, and then the answer.
use Rattle.std.specs.Prelude.{ℕ, suc, ◌≡◌, List, length}
use Rattle.slices.specs.Parts.{Bytes}
use Rattle.record.specs.declared.Shape.{Shape}
use Rattle.image.specs.Image.{first_in, decode_image}
use Rattle.image.specs.View.{log_length}
use Rattle.image.specs.Read.{lent_refusal, epochs_of, verdicts_of}
use Rattle.image.specs.Append.{format_refusal, append_refusal, appended, formatted}
use Rattle.image.specs.Refusal.{unless_refused}

-- a fresh image, of a log that begins at the index `first`
abbrev pub FormatCall : Bytes → Bytes → Shape → ℕ → ℕ → ℕ → Type 0
FormatCall old new Z c first r = (r ≡ format_refusal Z c first (length old)) × (new ≡ formatted Z c first old)

-- the slot that was written is handed out
abbrev pub AppendCall : Bytes → Bytes → Shape → ℕ → ℕ → Bytes → ℕ → ℕ → ℕ → Type 0
AppendCall old new Z c epoch payload slot slot' r =
    (r ≡ append_refusal Z c old epoch (length payload)) × (new ≡ appended Z c old epoch payload)
    × (slot' ≡ unless_refused r (suc (log_length Z.m (decode_image Z c old))) slot)

-- epochs and verdicts are filled; the log's length and its first index are handed out
abbrev pub ReadCall : Bytes → Shape → ℕ → List ℕ → List ℕ → Bytes → Bytes → ℕ → ℕ → ℕ → ℕ → ℕ → Type 0
ReadCall b Z c epochs epochs' verdicts verdicts' used used' first first' r =
    (r ≡ lent_refusal Z c b (length epochs) (length verdicts)) × (epochs' ≡ unless_refused r (epochs_of Z.m (decode_image Z c b)) epochs)
    × (verdicts' ≡ unless_refused r (verdicts_of Z.m (decode_image Z c b)) verdicts)
    × (used' ≡ unless_refused r (log_length Z.m (decode_image Z c b)) used) × (first' ≡ unless_refused r (first_in Z c b) first)
