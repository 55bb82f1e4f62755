-- A store that is made is the one that the enum names.
use Prim.Native.Nat.{ℕ, ◌+◌}
use mathlib.Core.Path.{◌≡◌, refl, ap}
use mathlib.Core.Bool.{true, false}
use mathlib.Core.Option.{Option, none, some}
use native.Mathlib.Omega.{arith}
use Rattle.slices.specs.Parts.{Bytes, part, spliced}
use Rattle.record.specs.declared.Shape.{Shape}
use Rattle.record.specs.Layout.{entry_size, record_bytes, blank_record}
use Rattle.image.specs.Image.{index, record_at, entry_at}
use Rattle.image.specs.Cluster.{image_at}
use Rattle.protocol.specs.Store.{Store, store_record, store_replica}
use Rattle.protocol.specs.Recovery.{after, is_some}
use Rattle.protocol.specs.StepBytes.{after_store_bytes}
use Rattle.recovery.specs.NextStore.{store_of, BeginsAt}
use Rattle.recovery.specs.declared.NextStore.{NextStore}
use Rattle.recovery.specs.declared.NextStore.TheVariants.{Nothing, Entry, Record, Blank}

module _ (Z : Shape) (b : Bytes) where
  pub nothing_made : {s : NextStore} → s ≡ Nothing → b ≡ after (store_of s) b (λ t. after_store_bytes Z t b)
  unfolding after
  nothing_made e = rw e

  -- copied to `to` from `from`
  pub entry_made : {s : NextStore} {c k d : ℕ} {a : Bytes} → s ≡ Entry c k d → (to from : ℕ) → to ≡ c → from ≡ d
      → a ≡ spliced b (image_at Z to + entry_at Z k) (part b (image_at Z from + entry_at Z k) entry_size) → a ≡ after (store_of s) b (λ t. after_store_bytes Z t b)
  unfolding after after_store_bytes
  entry_made e to from i j h = rw (e, ← i, ← j) h

  -- written for an index that counts from where the log begins
  pub record_made : {s : NextStore} {c k e first : ℕ} {a : Bytes} → s ≡ Record c k e → BeginsAt Z b s first
      → a ≡ spliced b (image_at Z c + record_at Z k) (record_bytes e (index first k)) → a ≡ after (store_of s) b (λ t. after_store_bytes Z t b)
  unfolding after after_store_bytes store_replica
  record_made {c = c} {k = k} {e = f} i g h = let q = g (store_record c k f) (ap store_of i) in rw (i, q) h

  pub blank_made : {s : NextStore} {c k : ℕ} {a : Bytes} → s ≡ Blank c k → a ≡ spliced b (image_at Z c + record_at Z k) blank_record
      → a ≡ after (store_of s) b (λ t. after_store_bytes Z t b)
  unfolding after after_store_bytes
  blank_made e h = rw e h

-- a record for an index, where it stands
pub record_placed : {a : Bytes} (b : Bytes) (e j : ℕ) {at to i : ℕ} → at ≡ to → i ≡ j → a ≡ spliced b at (record_bytes e i)
    → a ≡ spliced b to (record_bytes e j)
record_placed b e j d q h = rw (← d, ← q) h

-- nothing, and a store

pub is_none : {s : NextStore} → s ≡ Nothing → false ≡ is_some (store_of s)
unfolding is_some
is_none e = rw e

pub is_some_lem : (s : NextStore) → (s ≡ Nothing → ⊥) → true ≡ is_some (store_of s)
unfolding is_some
is_some_lem Nothing h = absurd (h refl)
is_some_lem (Entry c k d) h = refl
is_some_lem (Record c k e) h = refl
is_some_lem (Blank c k) h = refl

-- what holds of the store that there is

pub no_store : (P : Store → Type 0) {o : Option Store} → o ≡ none → (t : Store) → o ≡ some t → P t
no_store P e t h = absurd (let z : ◌≡◌ {A = ℕ} 0 1 = cc in omega arith)

pub that_store : (P : Store → Type 0) {o : Option Store} {u : Store} → o ≡ some u → P u → (t : Store) → o ≡ some t → P t
that_store P {o} {u} e p t h = let z : u ≡ t = cc in rw (← z) p
