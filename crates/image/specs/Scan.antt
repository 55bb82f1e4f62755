-- For proofs only. What the scan of an image holds and what it works out; Seen.antt says what it tells.
use Rattle.std.specs.Prelude.{ℕ, suc, ◌≤◌, ◌≡◌, Bool, not, ◌||◌, List, leb, ltb, length, take, drop}
use Rattle.std.specs.List.{list_any}
use Rattle.search.specs.Search.{lowest, all, listed}
use Rattle.record.specs.Meaning.{Record, Entry}
use Rattle.image.specs.Refusal.{refuse, ◌else◌}
use Rattle.image.specs.Image.{Image}
use Rattle.image.specs.View.{condition, epoch_of, is_unused, is_lost, log_length}
use Rattle.image.specs.Seen.{slot_of, slot_in}
use Rattle.image.specs.declared.condition.Slot.{Slot}

-- one slot, of its record and its entry
pub record SlotIs (r : Record) (x : Entry) (s : Slot) : Type 0 where
  pub condition_is : s.condition ≡ condition r x
  pub epoch_is : s.epoch ≡ epoch_of r x

-- the first k slots
pub record Scanned (k : ℕ) (i : Image) (slots : List Slot) : Type 0 where
  pub slots_are : take k slots ≡ listed k (slot_of i)

-- the first slot that is unused, or the end
unfoldable pub length_in : List Slot → ℕ
length_in slots = lowest (λ k. is_unused (slot_in slots k).condition) (length slots)

-- a used slot behind the log's end
unfoldable pub gap_in : ℕ → List Slot → Bool
gap_in len slots = list_any (λ s. not (is_unused s.condition)) (drop len slots)

unfoldable pub lost_in : List Slot → Bool
lost_in slots = list_any (λ s. is_lost s.condition) slots

-- of the used slots, whether one's epoch is below that of the one before it
unfoldable pub falls_in : List Slot → Bool
falls_in used = not (all (λ k. not (ltb (suc k) (length used)) || leb (slot_in used k).epoch (slot_in used (suc k)).epoch) (length used))

unfoldable pub scan_refusal : ℕ → List Slot → ℕ
scan_refusal len slots =
    refuse 5 (gap_in len slots) else refuse 6 (lost_in slots) else refuse 7 (falls_in (take len slots))

-- what is known when the verdicts are filled: the log's length and the slots
pub record Marked (m : ℕ) (i : Image) (used : ℕ) (slots : List Slot) : Type 0 where
  pub length_is : used ≡ log_length m i
  pub slots_are : take m slots ≡ listed m (slot_of i)

-- a span that lies in a buffer of so many bytes
pub record SpanIn (size start end : ℕ) : Type 0 where
  pub ordered : start ≤ end
  pub within : end ≤ size
