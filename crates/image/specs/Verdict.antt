-- The verdict bytes of documents 01 and 02: a slot's condition, its entry and where it stands.
use Rattle.std.specs.Prelude.{ℕ, suc, Bool, false, cond, not, ◌&&◌, eqb}
use Rattle.slices.specs.Same.{same}
use Rattle.record.specs.Layout.{fresh_entry}
use Rattle.record.specs.Meaning.{Entry, intact, broken}
use Rattle.image.specs.Image.{Image}
use Rattle.image.specs.View.{condition_at, log_length}
use Rattle.image.specs.declared.condition.Condition.{Condition}
use Rattle.image.specs.declared.condition.Condition.TheVariants.{Unused, Whole, RecordLost, Faulty, Lost, RecordOnly}
use Rattle.image.specs.declared.verdict.Verdict.{Verdict}
use Rattle.image.specs.declared.verdict.Verdict.TheVariants as verdict

-- a verdict's number
abbrev pub verdict_number : Verdict → ℕ
verdict_number verdict.Unused = 0
verdict_number verdict.Whole = 1
verdict_number verdict.RecordLost = 2
verdict_number verdict.Corrupt = 3
verdict_number verdict.Ambiguous = 4
verdict_number verdict.Partial = 5
verdict_number verdict.Stale = 6

-- an entry of spaces only
unfoldable pub is_fresh : Entry → Bool
is_fresh (intact e p) = false
is_fresh (broken b) = same b fresh_entry

-- the verdict of slot k of a log of so many slots, by its condition and its entry: 1 whole; 2 whole, line lost; 6 stale, a good record beside
-- an intact entry of another epoch (02, Two); 3 damaged, the entry is not intact; 4 doubtful, the same at the last used slot; 5 unfinished, at
-- the first unused one if its entry is not fresh; 0 unused
unfoldable pub verdict_of : ℕ → ℕ → Condition → Entry → ℕ
verdict_of len k Whole x = 1
verdict_of len k RecordLost x = 2
verdict_of len k Faulty (intact e p) = 6
verdict_of len k Faulty (broken b) = cond (eqb (suc k) len) 4 3
verdict_of len k Unused x = cond (eqb k len && not (is_fresh x)) 5 0
verdict_of len k Lost x = 0
verdict_of len k RecordOnly x = 0

unfoldable pub verdict_at : ℕ → Image → ℕ → ℕ
verdict_at m i k = verdict_of (log_length m i) k (condition_at i k) (i.entries k)
