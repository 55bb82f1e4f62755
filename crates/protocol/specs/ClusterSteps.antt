-- For proofs only. Stores and steps on a cluster that is taken apart; StepBytes.antt has them on its bytes.
use Rattle.std.specs.Prelude.{ℕ, zero, suc}
use Rattle.search.specs.Put.{put}
use Rattle.record.specs.Meaning.{good, blank}
use Rattle.image.specs.SetSlot.{set_record, set_entry}
use Rattle.image.specs.Cluster.{Cluster}
use Rattle.planner.specs.Setting.{Setting}
use Rattle.protocol.specs.Store.{Store, store_entry, store_record, store_blank}
use Rattle.protocol.specs.Recovery.{next, after}

-- what a store leaves
unfoldable pub after_store : Store → Cluster → Cluster
after_store (store_entry c k d) F = put F c (set_entry (F c) k ((F d).entries k))
after_store (store_record c k e) F = put F c (set_record (F c) k (good e))
after_store (store_blank c k) F = put F c (set_record (F c) k blank)

-- what at most b steps leave, and how many stores they make
unfoldable pub steps : Setting → ℕ → Cluster → Cluster
steps S zero F = F
steps S (suc b) F = after (next S F) F (λ s. steps S b (after_store s F))

unfoldable pub stores : Setting → ℕ → Cluster → ℕ
stores S zero F = zero
stores S (suc b) F = after (next S F) zero (λ s. suc (stores S b (after_store s F)))
