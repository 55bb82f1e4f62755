-- The two ends of every call about a record or an entry: it is refused and leaves what it was lent, or it is answered. The calls' proofs find
-- them alone. r, e and k are what the code answers and passes on.
use Prim.Native.Nat.{ℕ, ◌≤◌, ◌<◌}
use mathlib.Core.Path.{◌≡◌, ap, ◌∙◌}
use lib.ListN.{length}
use borrow.Author.Tests.{eq-eqb, ne_eqb, le-leb, lt-leb}
use Rattle.std.specs.Prelude.{Option}
use Rattle.slices.specs.Parts.{Bytes}
use Rattle.record.specs.Layout.{record_bytes, entry_bytes}
use Rattle.record.specs.Meaning.{read_record, read_entry}
use Rattle.record.specs.Judged.{record_answer, entry_answer}
use Rattle.record.specs.declared.RecordState.{RecordState}
use Rattle.record.specs.declared.Intact.{Intact}
use Rattle.image.specs.Refusal.{unless_refused}
use Rattle.call_pieces.specs.Pieces.{size_refusal}
use Rattle.call_pieces.proofs.PieceLaws.{write_done}
use Rattle.call_records.specs.Records.{entry_refusal, record_state_code, record_state_out, record_code, record_out, entry_state_code, entry_state_epoch_out, entry_state_size_out, entry_code, entry_epoch_out, entry_size_out}

pub record_done : (epoch index : ℕ) (b after : Bytes) (e k r : ℕ) → r ≡ 0 → length b ≡ 34 → after ≡ record_bytes e k → e ≡ epoch → k ≡ index → (r ≡ size_refusal 34 b) × (after ≡ unless_refused r (record_bytes epoch index) b)
record_done epoch index b after e k r q h w p i = write_done 34 b (record_bytes epoch index) after r q h (w ∙ ap (λ (x : ℕ). record_bytes x k) p ∙ ap (record_bytes epoch) i)

pub entry_wrong_size : (b p new : Bytes) (r : ℕ) → r ≡ 3 → (length b ≡ 240 → ⊥) → (r ≡ entry_refusal b p) × (b ≡ unless_refused r new b)
unfolding entry_refusal unless_refused
entry_wrong_size b p new r q h = (q ∙ simp (ne_eqb _ _ h), rw q)

pub entry_too_long : (b p new : Bytes) (r : ℕ) → r ≡ 9 → length b ≡ 240 → 200 < length p → (r ≡ entry_refusal b p) × (b ≡ unless_refused r new b)
unfolding entry_refusal unless_refused
entry_too_long b p new r q h l = (q ∙ simp (eq-eqb _ _ h, lt-leb _ _ l), rw q)

pub entry_done : (epoch index : ℕ) (b p after : Bytes) (e k r : ℕ) → r ≡ 0 → length b ≡ 240 → length p ≤ 200 → after ≡ entry_bytes e k p → e ≡ epoch → k ≡ index → (r ≡ entry_refusal b p) × (after ≡ unless_refused r (entry_bytes epoch index p) b)
unfolding entry_refusal unless_refused
entry_done epoch index b p after e k r q h l w s i = (q ∙ simp (eq-eqb _ _ h, le-leb _ _ l), w ∙ ap (λ (x : ℕ). entry_bytes x k p) s ∙ ap (λ (x : ℕ). entry_bytes epoch x p) i ∙ rw q)

pub record_wrong_size : (k : ℕ) (b : Bytes) (old r : ℕ) → r ≡ 3 → (length b ≡ 34 → ⊥) → (r ≡ record_code k b) × (old ≡ record_out k b old)
unfolding record_code record_out
record_wrong_size k b old r q h = (q ∙ simp (ne_eqb _ _ h), simp (ne_eqb _ _ h))

pub record_judged :
    (k : ℕ) (b : Bytes) (old : ℕ) (x : RecordState) → length b ≡ 34 → x ≡ record_answer (read_record k b) →
    (code out : ℕ) → code ≡ record_state_code x → out ≡ record_state_out x old → (code ≡ record_code k b) × (out ≡ record_out k b old)
unfolding record_code record_out
record_judged k b old x h e code out c o = (c ∙ simp (eq-eqb _ _ h, e), o ∙ simp (eq-eqb _ _ h, e))

pub judge_wrong_size :
    (k : ℕ) (b : Bytes) (epoch size r : ℕ) → r ≡ 3 → (length b ≡ 240 → ⊥) →
    (r ≡ entry_code k b) × (epoch ≡ entry_epoch_out k b epoch) × (size ≡ entry_size_out k b size)
unfolding entry_code entry_epoch_out entry_size_out
judge_wrong_size k b epoch size r q h = (q ∙ simp (ne_eqb _ _ h), simp (ne_eqb _ _ h), simp (ne_eqb _ _ h))

pub entry_judged :
    (k : ℕ) (b : Bytes) (epoch size : ℕ) (x : Option Intact) → length b ≡ 240 → x ≡ entry_answer (read_entry k b) →
    (code e s : ℕ) → code ≡ entry_state_code x → e ≡ entry_state_epoch_out x epoch → s ≡ entry_state_size_out x size →
    (code ≡ entry_code k b) × (e ≡ entry_epoch_out k b epoch) × (s ≡ entry_size_out k b size)
unfolding entry_code entry_epoch_out entry_size_out
entry_judged k b epoch size x h e code e' s' c p q = (c ∙ simp (eq-eqb _ _ h, e), p ∙ simp (eq-eqb _ _ h, e), q ∙ simp (eq-eqb _ _ h, e))
