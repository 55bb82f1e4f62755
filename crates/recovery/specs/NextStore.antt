-- For proofs only. The store that the code's enum names, that it lies in the buffer, and where the log begins that it is made on.
use Rattle.std.specs.Prelude.{ℕ, suc, ◌<◌, ◌≡◌, false}
use Rattle.std.proofs.Math.Option.{Option, none, some}
use Rattle.slices.specs.Parts.{Bytes}
use Rattle.record.specs.declared.Shape.{Shape}
use Rattle.record.specs.Layout.{is_witness}
use Rattle.image.specs.Cluster.{first_at}
use Rattle.image.specs.Fits.{ImageFits}
use Rattle.protocol.specs.Store.{Store, store_entry, store_record, store_blank, store_replica}
use Rattle.recovery.specs.declared.NextStore.{NextStore}
use Rattle.recovery.specs.declared.NextStore.TheVariants.{Nothing, Entry, Record, Blank}

abbrev pub store_of : NextStore → Option Store
store_of Nothing = none
store_of (Entry c k d) = some (store_entry c k d)
store_of (Record c k e) = some (store_record c k e)
store_of (Blank c k) = some (store_blank c k)

-- a card, whose image lies in a buffer of so many bytes
abbrev pub CardFits : Shape → ℕ → ℕ → Type 0
CardFits Z size c = (is_witness Z (suc c) ≡ false) × ImageFits Z size c

-- the images and the slot that a store names lie in the buffer; an entry is copied from card to card
abbrev pub StoreFits : Shape → ℕ → NextStore → Type 0
StoreFits Z size Nothing = Unit {0}
StoreFits Z size (Entry c k d) = (k < Z.m) × CardFits Z size c × CardFits Z size d
StoreFits Z size (Record c k e) = (k < Z.m) × ImageFits Z size c
StoreFits Z size (Blank c k) = (k < Z.m) × ImageFits Z size c

-- the log of the replica that a store is made on begins at this index
abbrev pub BeginsAt : Shape → Bytes → NextStore → ℕ → Type 0
BeginsAt Z b s first = (t : Store) → store_of s ≡ some t → first_at Z b (store_replica t) ≡ first
