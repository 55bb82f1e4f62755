-- The calls that say sizes and offsets: each as one contract, which the call and its export cite. It takes what the call takes, and then the
-- answer.
use Rattle.std.specs.Prelude.{ℕ, ◌-◌, ◌≡◌, not, ◌&&◌, leb, Result, Ok, Err, IfOk}
use Rattle.record.specs.declared.Shape.{Shape}
use Rattle.record.specs.Layout.{is_witness}
use Rattle.image.specs.declared.refusal.Refusal.{Refusal}
use Rattle.image.specs.Refusal.{refuse, ◌else◌, refusal_of, unless_refused}
use Rattle.image.specs.Image.{image_size, record_at, entry_at}
use Rattle.image.specs.View.{named_refusal}
use Rattle.image.specs.Cluster.{image_at}
use Rattle.call_sizes.specs.declared.Measure.{Measure}

-- a slot by its number, from 1, is not 1 to m: 1, as 2 is for a replica that is not 1 to n
unfoldable pub slot_refusal : Shape → ℕ → ℕ → ℕ
slot_refusal Z c k = refuse 1 (not (leb 1 k && leb k Z.m)) else named_refusal Z c

-- the bytes that were found, 0 if there are none
abbrev pub bytes_of : Result ℕ Refusal → ℕ
bytes_of (Ok bytes) = bytes
bytes_of (Err refusal) = 0

-- of what has this refusal: so many bytes if it has none
abbrev pub Found : ℕ → ℕ → Result ℕ Refusal → Type 0
Found refusal bytes r = (refusal_of r ≡ refusal) × IfOk r (λ n. n ≡ bytes)

-- of a call with this refusal: so many bytes, and 0 if it is refused
abbrev pub Measured : ℕ → ℕ → Measure → Type 0
Measured refusal bytes r = (r.refusal ≡ refusal) × (r.value ≡ unless_refused refusal bytes 0)

abbrev pub ImageSizeCall : Shape → ℕ → Measure → Type 0
ImageSizeCall Z c r = Measured (named_refusal Z c) (image_size Z c) r

-- a cluster has a replica 1, whatever its n
abbrev pub ClusterSizeCall : Shape → Measure → Type 0
ClusterSizeCall Z r = Measured (named_refusal Z 1) (image_at Z Z.n) r

abbrev pub ImageAtCall : Shape → ℕ → Measure → Type 0
ImageAtCall Z c r = Measured (named_refusal Z c) (image_at Z (c - 1)) r

abbrev pub RecordAtCall : Shape → ℕ → ℕ → Measure → Type 0
RecordAtCall Z c k r = Measured (slot_refusal Z c k) (record_at Z (k - 1)) r

-- a witness has no entries: 3
abbrev pub EntryAtCall : Shape → ℕ → ℕ → Measure → Type 0
EntryAtCall Z c k r = Measured (slot_refusal Z c k else refuse 3 (is_witness Z c)) (entry_at Z (k - 1)) r
