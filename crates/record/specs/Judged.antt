-- What the judges answer.
use Rattle.std.specs.Prelude.{ℕ, length, Option, Some, None}
use Rattle.record.specs.Meaning.{Header, proper, improper, Record, good, blank, bad, Entry, intact, broken}
use Rattle.record.specs.declared.RecordState.{RecordState}
use Rattle.record.specs.declared.RecordState.TheVariants.{Good, Blank, Bad}
use Rattle.record.specs.declared.Intact.{Intact}

-- a header's meaning as the judge answers it: the first index that it gives, if it is the writer's
unfoldable pub header_answer : Header → Option ℕ
header_answer (proper first) = Some first
header_answer (improper b) = None

-- a record's
unfoldable pub record_answer : Record → RecordState
record_answer (good e) = Good e
record_answer blank = Blank
record_answer (bad b) = Bad

-- an entry's: the payload by its length, since it stands at byte 26 of the entry
unfoldable pub entry_answer : Entry → Option Intact
entry_answer (intact e p) = Some (record { epoch = e; size = length p })
entry_answer (broken b) = None
