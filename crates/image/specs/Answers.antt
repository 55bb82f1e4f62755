-- The answers of the calls about one image in document 01's numbers: a value, or a refusal by number.
use Rattle.std.specs.Prelude.{ℕ, suc, Bool, cond, List, eqb, length, Result, Ok, Err}
use Rattle.slices.specs.Parts.{Bytes}
use Rattle.record.specs.declared.Shape.{Shape}
use Rattle.image.specs.declared.Log.{Log}
use Rattle.image.specs.declared.refusal.Refusal.{Refusal}
use Rattle.image.specs.Refusal.{refusal_number, unless_refused}
use Rattle.image.specs.Image.{first_in, decode_image}
use Rattle.image.specs.View.{card_refusal, log_length}
use Rattle.image.specs.Read.{lent_refusal, epochs_of, verdicts_of, has_payload}
use Rattle.image.specs.Append.{format_refusal, append_refusal}
use Rattle.image.specs.Witness.{epochs_refusal, record_refusal}

-- a call's answer in numbers: refused by this number, or 01's value
pub data Numbered (A : Type 0) : Type 0 where
  refused : ℕ → Numbered A
  value : A → Numbered A

-- the refusal if there is one, else the value
unfoldable pub numbered : {A : Type 0} → ℕ → A → Numbered A
numbered refusal v = cond (eqb refusal 0) (value v) (refused refusal)

-- a call's answer by its refusal's number
abbrev pub numbers : {A : Type 0} → Result A Refusal → Numbered A
numbers (Ok v) = value v
numbers (Err r) = refused (refusal_number r)

-- of reading: the log's length, and the index that it begins at
abbrev pub log_numbers : Result Log Refusal → Numbered (ℕ × ℕ)
log_numbers (Ok log) = value (log.length, log.first)
log_numbers (Err r) = refused (refusal_number r)

-- a fresh image of replica c, of a log that begins at this index, in a buffer of so many bytes: the answer
abbrev pub format_call_numbers : Shape → ℕ → ℕ → ℕ → Numbered (Unit {0})
format_call_numbers Z c first size = numbered (format_refusal Z c first size) tt

-- reading replica c's image, a card's, lent buffers of so many epochs and verdicts: the answer
abbrev pub read_call_numbers : Shape → ℕ → Bytes → ℕ → ℕ → Numbered (ℕ × ℕ)
read_call_numbers Z c b epochs verdicts = numbered (lent_refusal Z c b epochs verdicts) (log_length Z.m (decode_image Z c b), first_in Z c b)

-- what it leaves in them
abbrev pub epochs_left : Shape → ℕ → Bytes → List ℕ → ℕ → List ℕ
epochs_left Z c b epochs verdicts = unless_refused (lent_refusal Z c b (length epochs) verdicts) (epochs_of Z.m (decode_image Z c b)) epochs

abbrev pub verdicts_left : Shape → ℕ → Bytes → ℕ → List ℕ → List ℕ
verdicts_left Z c b epochs verdicts = unless_refused (lent_refusal Z c b epochs (length verdicts)) (verdicts_of Z.m (decode_image Z c b)) verdicts

-- an append to replica c's image, a card's, of epoch e and a payload of so many bytes: the first unused slot's number
abbrev pub append_call_numbers : Shape → ℕ → Bytes → ℕ → ℕ → Numbered ℕ
append_call_numbers Z c b e size = numbered (append_refusal Z c b e size) (suc (log_length Z.m (decode_image Z c b)))

-- whether slot number s of replica c's image has a payload
abbrev pub payload_call_numbers : Shape → ℕ → Bytes → ℕ → Numbered Bool
payload_call_numbers Z c b s = numbered (card_refusal Z c b) (has_payload Z.m (decode_image Z c b) s)

-- reading replica c's image, a witness's (02, Seven), lent a buffer of so many epochs: the answer, and what it leaves in it
abbrev pub witness_call_numbers : Shape → ℕ → Bytes → ℕ → Numbered (ℕ × ℕ)
witness_call_numbers Z c b epochs = numbered (epochs_refusal Z c b epochs) (log_length Z.m (decode_image Z c b), first_in Z c b)

abbrev pub witness_epochs_left : Shape → ℕ → Bytes → List ℕ → List ℕ
witness_epochs_left Z c b epochs = unless_refused (epochs_refusal Z c b (length epochs)) (epochs_of Z.m (decode_image Z c b)) epochs

-- an append to replica c's image, a witness's, of epoch e: the first unused slot's number
abbrev pub record_call_numbers : Shape → ℕ → Bytes → ℕ → Numbered ℕ
record_call_numbers Z c b e = numbered (record_refusal Z c b e) (suc (log_length Z.m (decode_image Z c b)))
