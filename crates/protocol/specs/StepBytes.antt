-- Steps and interrupted stores, on the bytes of the cluster.
use Rattle.std.specs.Prelude.{ℕ, zero, suc, ◌+◌}
use Rattle.std.proofs.Math.Option.{Option}
use Rattle.slices.specs.Parts.{Bytes, part, spliced}
use Rattle.record.specs.declared.Shape.{Shape}
use Rattle.record.specs.Layout.{entry_size, record_bytes, blank_record}
use Rattle.image.specs.Image.{index, record_at, entry_at}
use Rattle.image.specs.Cluster.{image_at, first_at, decode}
use Rattle.planner.specs.Setting.{Setting}
use Rattle.protocol.specs.Store.{Store, store_entry, store_record, store_blank}
use Rattle.protocol.specs.Recovery.{next, after}

-- a store writes one whole entry, one record, or one blank record
unfoldable pub after_store_bytes : Shape → Store → Bytes → Bytes
after_store_bytes Z (store_entry c k d) b = spliced b (image_at Z c + entry_at Z k) (part b (image_at Z d + entry_at Z k) entry_size)
after_store_bytes Z (store_record c k e) b = spliced b (image_at Z c + record_at Z k) (record_bytes e (index (first_at Z b c) k))
after_store_bytes Z (store_blank c k) b = spliced b (image_at Z c + record_at Z k) blank_record

module _ (S : Setting) where
  open S use {shape}

  -- the first store still outstanding
  unfoldable pub next_in : Bytes → Option Store
  next_in b = next S (decode shape b)

  -- what at most j steps leave, and how many stores they make
  unfoldable pub steps_bytes : ℕ → Bytes → Bytes
  steps_bytes zero b = b
  steps_bytes (suc j) b = after (next_in b) b (λ s. steps_bytes j (after_store_bytes shape s b))

  unfoldable pub stores_bytes : ℕ → Bytes → ℕ
  stores_bytes zero b = zero
  stores_bytes (suc j) b = after (next_in b) zero (λ s. suc (stores_bytes j (after_store_bytes shape s b)))
