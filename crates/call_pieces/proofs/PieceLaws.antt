-- The two ends of every call about a column or a header: it is refused and leaves what it was lent, or it is answered. The calls' proofs find
-- them alone. r and x are what the code answers and passes on.
use Prim.Native.Nat.{ℕ, ◌≤◌, ◌<◌}
use mathlib.Core.Path.{◌≡◌, sym, ap, ◌∙◌}
use lib.ListN.{length}
use borrow.Author.Tests.{eq-eqb, ne_eqb, le-leb, lt-leb}
use Rattle.std.specs.Prelude.{Option}
use Rattle.slices.specs.Parts.{Bytes}
use Rattle.column.specs.ColumnState.{column_state}
use Rattle.column.specs.declared.ColumnState.{ColumnState}
use Rattle.record.specs.Layout.{header_size, header_bytes}
use Rattle.record.specs.Meaning.{read_header}
use Rattle.record.specs.Judged.{header_answer}
use Rattle.record.specs.declared.Shape.{Shape}
use Rattle.image.specs.Refusal.{unless_refused}
use Rattle.call_pieces.specs.Pieces.{size_refusal, header_state_code, header_state_out, header_code, header_out, column_state_code, column_state_out, column_code, column_out}

pub write_wrong_size : (size : ℕ) (b new : Bytes) (r : ℕ) → r ≡ 3 → (length b ≡ size → ⊥) → (r ≡ size_refusal size b) × (b ≡ unless_refused r new b)
unfolding size_refusal unless_refused
write_wrong_size size b new r q h = (q ∙ simp (ne_eqb _ _ h), rw q)

pub write_done : (size : ℕ) (b new after : Bytes) (r : ℕ) → r ≡ 0 → length b ≡ size → after ≡ new → (r ≡ size_refusal size b) × (after ≡ unless_refused r new b)
unfolding size_refusal unless_refused
write_done size b new after r q h e = (q ∙ simp (eq-eqb _ _ h), e ∙ rw q)

-- a header has its shape's size. x is the first index that the code passes on
pub header_wrong_size : (Z : Shape) (c first : ℕ) (b : Bytes) (r : ℕ) {size : ℕ} → r ≡ 3 → size ≡ header_size Z → (length b ≡ size → ⊥) → (r ≡ size_refusal (header_size Z) b) × (b ≡ unless_refused r (header_bytes Z c first) b)
header_wrong_size Z c first b r q s h = write_wrong_size (header_size Z) b (header_bytes Z c first) r q (λ e. h (e ∙ sym s))

pub header_done : (Z : Shape) (c first x : ℕ) (b after : Bytes) (r : ℕ) {size : ℕ} → r ≡ 0 → size ≡ header_size Z → length b ≡ size → after ≡ header_bytes Z c x → x ≡ first → (r ≡ size_refusal (header_size Z) b) × (after ≡ unless_refused r (header_bytes Z c first) b)
header_done Z c first x b after r q s h e f = write_done (header_size Z) b (header_bytes Z c first) after r q (h ∙ s) (e ∙ ap (header_bytes Z c) f)

pub header_judged :
    (Z : Shape) (c : ℕ) (b : Bytes) (old : ℕ) (x : Option ℕ) → x ≡ header_answer (read_header Z c b) →
    (code out : ℕ) → code ≡ header_state_code x → out ≡ header_state_out x old → (code ≡ header_code Z c b) × (out ≡ header_out Z c b old)
unfolding header_code header_out
header_judged Z c b old x e code out k o = (k ∙ ap header_state_code e, o ∙ ap (λ (y : Option ℕ). header_state_out y old) e)

pub column_too_wide : (b : Bytes) (old r : ℕ) → r ≡ 3 → 19 < length b → (r ≡ column_code b) × (old ≡ column_out b old)
unfolding column_code column_out
column_too_wide b old r q h = (q ∙ simp (lt-leb _ _ h), simp (lt-leb _ _ h))

pub column_judged :
    (b : Bytes) (old : ℕ) (x : ColumnState) → length b ≤ 19 → x ≡ column_state b →
    (code out : ℕ) → code ≡ column_state_code x → out ≡ column_state_out x old → (code ≡ column_code b) × (out ≡ column_out b old)
unfolding column_code column_out
column_judged b old x h e code out k o = (k ∙ simp (le-leb _ _ h, e), o ∙ simp (le-leb _ _ h, e))
