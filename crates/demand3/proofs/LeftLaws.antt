-- Every call, cut short or not, leaves what recovery can reach.
use Prim.Native.Nat.{ℕ, suc, ◌<◌}
use mathlib.Core.Path.{◌≡◌, ap, ◌∙◌}
use mathlib.Core.Option.{some}
use native.Mathlib.Omega.{arith}
use lib.ListN.{length}
use Rattle.search.specs.Put.{put}
use Rattle.slices.specs.Parts.{Bytes}
use Rattle.record.specs.Meaning.{Entry}
use Rattle.image.specs.Image.{entry_at}
use Rattle.image.specs.SetSlot.{set_entry}
use Rattle.image.specs.Cluster.{image_at, decode}
use Rattle.image.proofs.DecodeLaws.{entry_fits}
use Rattle.image.proofs.ClusterLaws.{length_in_image, entry_put}
use Rattle.planner.specs.Setting.{Setting}
use Rattle.protocol.specs.Store.{Store, store_entry, store_replica, store_slot}
use Rattle.protocol.specs.Recovery.{next}
use Rattle.protocol.specs.StepBytes.{next_in, steps_bytes}
use Rattle.demand3.specs.Interrupted.{Interrupted, old, new, torn, LeftBytes, whole, interrupted}
use Rattle.protocol.proofs.Due.{due_facts}
use Rattle.protocol.proofs.Reach.{here, made, tore, reach_on}
use Rattle.protocol.proofs.Runs.{reach_steps}
use Rattle.protocol.proofs.Keeps.{due_cards, due_target, due_slot}
use Rattle.protocol.proofs.StepLaws.{next_means, steps_mean}
use Rattle.protocol.proofs.Reached.{Reached, steps_reached}
use Rattle.protocol.proofs.Reach as reach

module _ (S : Setting) (low : S.leader < S.shape.n) where
  open S use {shape}

  interrupted_reach : {s : Store} (b : Bytes) {a : Bytes} → length b ≡ image_at shape shape.n → next S (decode shape b) ≡ some s → Interrupted S b s a → Reached S b a
  unfolding store_replica store_slot
  interrupted_reach b size e old = record { size = size; reach = here }
  interrupted_reach b size e (new {s}) =
      let w = next_means S low b size s e in
      record { size = w.size; reach = rw w.is (made s e here) }
  interrupted_reach b size e (torn {c} {k} {d} t l x) =
      let u = due_facts S (decode shape b) (store_entry c k d) e in
      let cn = (due_target S (decode shape b) (store_entry c k d) low u.plan u.is_due).below in
      let km = due_slot S (decode shape b) (store_entry c k d) u.is_due in
      let both = due_cards S (decode shape b) c k d u.plan u.is_due in
      let w = entry_put shape b size c k t cn both.to km l ∙ ap (λ (y : Entry). put (decode shape b) c (set_entry (decode shape b c) k y)) x in
      record {
        size = length_in_image shape b size c cn (entry_at shape k) t (omega (arith, entry_fits shape (suc c) k both.to km));
        reach = rw w (tore (store_entry c k d) e (reach.torn t) here);
      }

  pub left_reach : {j : ℕ} {b a : Bytes} → length b ≡ image_at shape shape.n → LeftBytes S j b a → Reached S b a
  unfolding next_in
  left_reach {j} {b} size whole = steps_reached S low j b size
  left_reach {j} {b} size (interrupted i s l e x) =
      let w = steps_mean S low i b size in
      let v = interrupted_reach (steps_bytes S i b) w.size e x in
      record { size = v.size; reach = reach_on S (reach_steps S i (decode shape b)) (rw w.is at v.reach) }
