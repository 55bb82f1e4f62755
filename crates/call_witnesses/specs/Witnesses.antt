-- The calls about one witness's image: each as one contract, which the call cites and its export says in full, as in `call_images`.
use Rattle.std.specs.Prelude.{ℕ, suc, ◌≡◌, List, length}
use Rattle.slices.specs.Parts.{Bytes}
use Rattle.record.specs.declared.Shape.{Shape}
use Rattle.image.specs.Image.{first_in, decode_image}
use Rattle.image.specs.View.{log_length}
use Rattle.image.specs.Read.{epochs_of}
use Rattle.image.specs.Witness.{epochs_refusal, record_refusal, record_appended}
use Rattle.image.specs.Refusal.{unless_refused}

-- the slot that was written is handed out
abbrev pub WitnessAppendCall : Bytes → Bytes → Shape → ℕ → ℕ → ℕ → ℕ → ℕ → Type 0
WitnessAppendCall old new Z c epoch slot slot' r =
    (r ≡ record_refusal Z c old epoch) × (new ≡ record_appended Z c old epoch) × (slot' ≡ unless_refused r (suc (log_length Z.m (decode_image Z c old))) slot)

-- epochs are filled; the log's length and its first index are handed out
abbrev pub WitnessReadCall : Bytes → Shape → ℕ → List ℕ → List ℕ → ℕ → ℕ → ℕ → ℕ → ℕ → Type 0
WitnessReadCall b Z c epochs epochs' used used' first first' r =
    (r ≡ epochs_refusal Z c b (length epochs)) × (epochs' ≡ unless_refused r (epochs_of Z.m (decode_image Z c b)) epochs)
    × (used' ≡ unless_refused r (log_length Z.m (decode_image Z c b)) used) × (first' ≡ unless_refused r (first_in Z c b) first)
