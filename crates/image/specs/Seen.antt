-- For proofs only. What the scan of an image tells: document 01's conditions and epochs, one for each slot.
use Rattle.std.specs.Prelude.{ℕ, ◌≡◌, List, get_or, take}
use Rattle.search.specs.Search.{listed}
use Rattle.record.specs.Meaning.{first_index}
use Rattle.image.specs.Image.{Image}
use Rattle.image.specs.View.{condition_at, epoch_at, log_length}
use Rattle.image.specs.declared.condition.Condition.TheVariants.{Unused}
use Rattle.image.specs.declared.condition.Slot.{Slot}

-- slot k of an image
abbrev pub slot_of : Image → ℕ → Slot
slot_of i k = record { condition = condition_at i k; epoch = epoch_at i k }

-- what is held of slot k of a scan; beyond its end an unused slot
abbrev pub slot_in : List Slot → ℕ → Slot
slot_in slots k = get_or slots k (record { condition = Unused; epoch = 0 })

-- a scan of an image that is not refused
pub record Seen (m : ℕ) (i : Image) (first length : ℕ) (slots : List Slot) : Type 0 where
  pub first_is : first ≡ first_index i.header
  pub length_is : length ≡ log_length m i
  pub slots_are : take m slots ≡ listed m (slot_of i)
