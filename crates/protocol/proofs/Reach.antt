-- What recovery may make of a cluster among power failures: stores that were due, made or torn, one after the other.
use Prim.Native.Nat.{ℕ}
use mathlib.Core.Path.{◌≡◌}
use mathlib.Core.Option.{some}
use Rattle.search.specs.Put.{put}
use Rattle.slices.specs.Parts.{Bytes}
use Rattle.record.specs.Meaning.{broken}
use Rattle.image.specs.SetSlot.{set_entry}
use Rattle.image.specs.Cluster.{Cluster}
use Rattle.planner.specs.Setting.{Setting}
use Rattle.protocol.specs.Store.{Store, store_entry}
use Rattle.protocol.specs.ClusterSteps.{after_store}
use Rattle.protocol.specs.Recovery.{next}

-- an entry store that is interrupted leaves bytes that are no intact entry
pub data Torn (F : Cluster) : Store → Cluster → Type 0 where
  torn : {c k d : ℕ} (b : Bytes) → Torn F (store_entry c k d) (put F c (set_entry (F c) k (broken b)))

pub data Reach (S : Setting) : Cluster → Cluster → Type 0 where
  here : {F : Cluster} → Reach S F F
  made : {F G : Cluster} (s : Store) → next S F ≡ some s → Reach S (after_store s F) G → Reach S F G
  tore : {F E G : Cluster} (s : Store) → next S F ≡ some s → Torn F s E → Reach S E G → Reach S F G

module _ (S : Setting) where
  pub reach_on : {F G E : Cluster} → Reach S F G → Reach S G E → Reach S F E
  reach_on here q = q
  reach_on (made s e r) q = made s e (reach_on r q)
  reach_on (tore s e t r) q = tore s e t (reach_on r q)

  -- what every store keeps, whole or torn, holds of all that can be reached
  module _ (P : Cluster → Type 0)
      (on-stored : (F : Cluster) (s : Store) → P F → next S F ≡ some s → P (after_store s F))
      (on-torn : (F G : Cluster) (s : Store) → P F → next S F ≡ some s → Torn F s G → P G) where
    pub reach_keeps : {F G : Cluster} → P F → Reach S F G → P G
    reach_keeps p here = p
    reach_keeps {F} p (made s e r) = reach_keeps (on-stored F s p e) r
    reach_keeps {F} p (tore {E = E} s e t r) = reach_keeps (on-torn F E s p e t) r
