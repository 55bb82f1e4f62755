-- The calls about records and entries: what they answer and leave in what they were lent, for any bytes, and each as one contract, which the
-- call cites and its export says in full, as in `call_pieces`.
use Rattle.std.specs.Prelude.{ℕ, ◌≡◌, cond, eqb, leb, length, Option, Some, None}
use Rattle.slices.specs.Parts.{Bytes}
use Rattle.record.specs.Layout.{record_size, entry_size, max_payload, record_bytes, blank_record, entry_bytes, fresh_entry}
use Rattle.record.specs.Meaning.{read_record, read_entry}
use Rattle.record.specs.Judged.{record_answer, entry_answer}
use Rattle.record.specs.declared.RecordState.{RecordState}
use Rattle.record.specs.declared.RecordState.TheVariants as record-state
use Rattle.record.specs.declared.Intact.{Intact}
use Rattle.image.specs.Refusal.{unless_refused}
use Rattle.call_pieces.specs.Pieces.{size_refusal}

-- an entry's refusals: 3 for its length, then 9 for its payload's
unfoldable pub entry_refusal : Bytes → Bytes → ℕ
entry_refusal b p = cond (eqb (length b) entry_size) (cond (leb (length p) max_payload) 0 9) 3

-- a record's state by code, and its epoch if it is good
abbrev pub record_state_code : RecordState → ℕ
record_state_code (record-state.Good e) = 0
record_state_code record-state.Blank = 1
record_state_code record-state.Bad = 2

abbrev pub record_state_out : RecordState → ℕ → ℕ
record_state_out (record-state.Good e) old = e
record_state_out record-state.Blank old = old
record_state_out record-state.Bad old = old

-- 3 if the bytes are not as many as a record's
unfoldable pub record_code : ℕ → Bytes → ℕ
record_code k b = cond (eqb (length b) record_size) (record_state_code (record_answer (read_record k b))) 3

unfoldable pub record_out : ℕ → Bytes → ℕ → ℕ
record_out k b old = cond (eqb (length b) record_size) (record_state_out (record_answer (read_record k b)) old) old

-- an entry's state by code, and its epoch and its payload's length if it is intact
abbrev pub entry_state_code : Option Intact → ℕ
entry_state_code (Some found) = 0
entry_state_code None = 1

abbrev pub entry_state_epoch_out : Option Intact → ℕ → ℕ
entry_state_epoch_out (Some found) old = found.epoch
entry_state_epoch_out None old = old

abbrev pub entry_state_size_out : Option Intact → ℕ → ℕ
entry_state_size_out (Some found) old = found.size
entry_state_size_out None old = old

-- 3 if the bytes are not as many as an entry's
unfoldable pub entry_code : ℕ → Bytes → ℕ
entry_code k b = cond (eqb (length b) entry_size) (entry_state_code (entry_answer (read_entry k b))) 3

unfoldable pub entry_epoch_out : ℕ → Bytes → ℕ → ℕ
entry_epoch_out k b old = cond (eqb (length b) entry_size) (entry_state_epoch_out (entry_answer (read_entry k b)) old) old

unfoldable pub entry_size_out : ℕ → Bytes → ℕ → ℕ
entry_size_out k b old = cond (eqb (length b) entry_size) (entry_state_size_out (entry_answer (read_entry k b)) old) old

-- The contracts.
abbrev pub WriteRecordCall : Bytes → Bytes → ℕ → ℕ → ℕ → Type 0
WriteRecordCall old new epoch index r = (r ≡ size_refusal record_size old) × (new ≡ unless_refused r (record_bytes epoch index) old)

abbrev pub WriteBlankRecordCall : Bytes → Bytes → ℕ → Type 0
WriteBlankRecordCall old new r = (r ≡ size_refusal record_size old) × (new ≡ unless_refused r blank_record old)

abbrev pub WriteEntryCall : Bytes → Bytes → ℕ → ℕ → Bytes → ℕ → Type 0
WriteEntryCall old new epoch index payload r = (r ≡ entry_refusal old payload) × (new ≡ unless_refused r (entry_bytes epoch index payload) old)

abbrev pub WriteFreshEntryCall : Bytes → Bytes → ℕ → Type 0
WriteFreshEntryCall old new r = (r ≡ size_refusal entry_size old) × (new ≡ unless_refused r fresh_entry old)

abbrev pub JudgeRecordCall : Bytes → ℕ → ℕ → ℕ → ℕ → Type 0
JudgeRecordCall b index epoch epoch' r = (r ≡ record_code index b) × (epoch' ≡ record_out index b epoch)

abbrev pub JudgeEntryCall : Bytes → ℕ → ℕ → ℕ → ℕ → ℕ → ℕ → Type 0
JudgeEntryCall b index epoch epoch' size size' r = (r ≡ entry_code index b) × (epoch' ≡ entry_epoch_out index b epoch) × (size' ≡ entry_size_out index b size)
