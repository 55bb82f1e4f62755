-- Stores and calls that the power cuts short, on the bytes of the cluster.
use Rattle.std.specs.Prelude.{ℕ, ◌+◌, ◌<◌, ◌≡◌, length}
use Rattle.std.proofs.Math.Option.{some}
use Rattle.slices.specs.Parts.{Bytes, spliced}
use Rattle.record.specs.Layout.{entry_size}
use Rattle.record.specs.Meaning.{broken, read_entry}
use Rattle.image.specs.Image.{index, entry_at}
use Rattle.image.specs.Cluster.{image_at, first_at}
use Rattle.planner.specs.Setting.{Setting}
use Rattle.protocol.specs.Store.{Store, store_entry}
use Rattle.protocol.specs.StepBytes.{after_store_bytes, next_in, steps_bytes}

module _ (S : Setting) where
  open S use {shape}

  -- what a store leaves if the power fails before, after or during it: a record is old or new; an entry may be any 240 bytes
  -- that are no intact entry
  pub data Interrupted (b : Bytes) : Store → Bytes → Type 0 where
    old : {s : Store} → Interrupted b s b
    new : {s : Store} → Interrupted b s (after_store_bytes shape s b)
    torn : {c k d : ℕ} (t : Bytes) → length t ≡ entry_size → read_entry (index (first_at shape b c) k) t ≡ broken t → Interrupted b (store_entry c k d) (spliced b (image_at shape c + entry_at shape k) t)

  -- what a call that may make so many stores leaves: all of them made, or interrupted at one of them. This is over the defined steps: no
  -- contract speaks of what memory holds before a call returns, so cards are written from what a step names (README.md, rule 4)
  pub data LeftBytes (j : ℕ) (b : Bytes) : Bytes → Type 0 where
    whole : LeftBytes j b (steps_bytes S j b)
    interrupted : {a : Bytes} (i : ℕ) (s : Store) → i < j → next_in S (steps_bytes S i b) ≡ some s → Interrupted (steps_bytes S i b) s a → LeftBytes j b a
