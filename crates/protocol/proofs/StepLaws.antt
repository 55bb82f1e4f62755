-- Stores and steps of bytes are the stores and steps of what the bytes mean, and every call leaves what recovery can reach.
use Prim.Native.Nat.{ℕ, zero, suc, ◌+◌, ◌<◌}
use mathlib.Core.Path.{◌≡◌, refl, sym, ap, ◌∙◌}
use mathlib.Core.Bool.{true}
use mathlib.Core.Option.{Option, none, some}
use native.Mathlib.Omega.{arith}
use lib.ListN.{length}
use Rattle.search.specs.Put.{put}
use Rattle.slices.specs.Parts.{Bytes, part, spliced}
use Rattle.slices.proofs.PartLaws.{length_part}
use Rattle.record.specs.Layout.{record_bytes, blank_record}
use Rattle.record.specs.Meaning.{Record, good, Entry, first_index, is_epoch, read_record}
use Rattle.record.proofs.LayoutLaws.{length_record, length_blank}
use Rattle.record.proofs.RecordLaws.{read_good, read_blank}
use Rattle.record.proofs.EntryLaws.{intact_for}
use Rattle.image.specs.Image.{index, record_at, entry_at}
use Rattle.image.specs.SetSlot.{set_record, set_entry}
use Rattle.image.specs.Cluster.{Cluster, image_at, first_at, decode}
use Rattle.image.proofs.DecodeLaws.{record_fits, entry_fits}
use Rattle.image.proofs.ClusterLaws.{image_fits, entry_means, length_in_image, record_put, entry_put}
use Rattle.planner.specs.Setting.{Setting, views_of}
use Rattle.protocol.specs.Store.{Store, store_entry, store_record, store_blank, store_replica, store_slot}
use Rattle.protocol.specs.ClusterSteps.{after_store}
use Rattle.protocol.specs.Recovery.{next, after}
use Rattle.protocol.specs.ClusterSteps.{steps, stores}
use Rattle.protocol.specs.StepBytes.{after_store_bytes, next_in, steps_bytes, stores_bytes}
use Rattle.protocol.proofs.FirstLaws.{entry_as, target_first, first_means, stored_header}
use Rattle.protocol.proofs.ReadyPlan.{ReadyPlan}
use Rattle.protocol.proofs.Due.{Due, due_facts}
use Rattle.protocol.proofs.Keeps.{SomeEntry, due_cards, due_target, due_slot, due_donor, due_epoch}

module _ (S : Setting) where
  open S use {shape, leader}

  -- a buffer of n images, and what it means
  pub record Means (b : Bytes) (F : Cluster) : Type 0 where
    pub size : length b ≡ image_at shape shape.n
    pub is : decode shape b ≡ F

  -- a record is written only with the epoch of an intact entry
  epoch_in_range : (b : Bytes) (k e : ℕ) → k < shape.m → SomeEntry S (decode shape b) k e → is_epoch e ≡ true
  epoch_in_range b k e h x = (intact_for (index (first_at shape b x.from) k) (part b (image_at shape x.from + entry_at shape k) 240) e x.there.payload (sym (entry_means shape b x.from k x.card h) ∙ x.there.is)).epoch

  -- it is written for its own slot's index
  record_stored : (b : Bytes) → length b ≡ image_at shape shape.n → (c k e i : ℕ) → c < shape.n → k < shape.m → is_epoch e ≡ true → i ≡ index (first_at shape b c) k
      → Means (spliced b (image_at shape c + record_at shape k) (record_bytes e i)) (put (decode shape b) c (set_record (decode shape b c) k (good e)))
  record_stored b size c k e i cn km g own =
      let v = record_bytes e i in
      record {
        size = length_in_image shape b size c cn (record_at shape k) v (omega (arith, length_record e i, record_fits shape (suc c) k km));
        is = record_put shape b size c k v cn km (length_record e i)
            ∙ ap (λ (x : Record). put (decode shape b) c (set_record (decode shape b c) k x)) (ap (λ (j : ℕ). read_record j v) (sym own) ∙ read_good i e g);
      }

  module _ (low : leader < shape.n) where
    pub store_means : (b : Bytes) → length b ≡ image_at shape shape.n → (s : Store) → ReadyPlan S (views_of S (decode shape b)) → Due S (decode shape b) s
        → Means (after_store_bytes shape s b) (after_store s (decode shape b))
    unfolding after_store_bytes after_store store_replica store_slot
    store_means b size (store_entry c k d) r u =
        let ct = due_target S (decode shape b) (store_entry c k d) low r u in
        let cn = ct.below in
        let km = due_slot S (decode shape b) (store_entry c k d) u in
        let dt = due_donor S (decode shape b) c k d low r u in
        let one : first_at shape b c ≡ first_at shape b d = target_first S b r c ct ∙ sym (target_first S b r d dt) in
        let both = due_cards S (decode shape b) c k d r u in
        let v = part b (image_at shape d + entry_at shape k) 240 in
        let l : length v ≡ 240 = length_part b (image_at shape d + entry_at shape k) 240 (omega (arith, image_fits shape shape.n d dt.below, entry_fits shape (suc d) k both.from km)) in
        record {
          size = length_in_image shape b size c cn (entry_at shape k) v (omega (arith, entry_fits shape (suc c) k both.to km));
          is = entry_put shape b size c k v cn both.to km l ∙ ap (λ (x : Entry). put (decode shape b) c (set_entry (decode shape b c) k x)) (sym (entry_as shape b c d k one both.from km));
        }
    store_means b size (store_record c k e) r u =
        let cn = (due_target S (decode shape b) (store_record c k e) low r u).below in
        let km = due_slot S (decode shape b) (store_record c k e) u in
        let g = epoch_in_range b k e km (due_epoch S (decode shape b) c k e r u) in
        record_stored b size c k e _ cn km g (unfold index in omega arith)
    store_means b size (store_blank c k) r u =
        let cn = (due_target S (decode shape b) (store_blank c k) low r u).below in
        let km = due_slot S (decode shape b) (store_blank c k) u in
        record {
          size = length_in_image shape b size c cn (record_at shape k) blank_record (omega (arith, length_blank, record_fits shape (suc c) k km));
          is = record_put shape b size c k blank_record cn km length_blank ∙ ap (λ (x : Record). put (decode shape b) c (set_record (decode shape b c) k x)) (read_blank (index (first_at shape b c) k));
        }

    pub next_means : (b : Bytes) → length b ≡ image_at shape shape.n → (s : Store) → next S (decode shape b) ≡ some s → Means (after_store_bytes shape s b) (after_store s (decode shape b))
    next_means b size s e = let d = due_facts S (decode shape b) s e in store_means b size s d.plan d.is_due

    -- and no log begins elsewhere
    pub next_first : (b : Bytes) → length b ≡ image_at shape shape.n → (s : Store) → next S (decode shape b) ≡ some s → (c : ℕ) → first_at shape (after_store_bytes shape s b) c ≡ first_at shape b c
    next_first b size s e c =
        first_means shape (after_store_bytes shape s b) c
        ∙ ap (λ (F : Cluster). first_index (F c).header) (next_means b size s e).is
        ∙ ap first_index (stored_header s (decode shape b) c)
        ∙ sym (first_means shape b c)

    pub steps_mean : (j : ℕ) (b : Bytes) → length b ≡ image_at shape shape.n → Means (steps_bytes S j b) (steps S j (decode shape b))
    unfolding steps_bytes steps after next_in
    steps_mean zero b size = record { size = size; is = refl }
    steps_mean (suc j) b size = go (next S (decode shape b)) refl (steps_mean j)
      where
        go : (o : Option Store) → next S (decode shape b) ≡ o → ((a : Bytes) → length a ≡ image_at shape shape.n → Means (steps_bytes S j a) (steps S j (decode shape a)))
            → Means (after o b (λ s. steps_bytes S j (after_store_bytes shape s b))) (after o (decode shape b) (λ s. steps S j (after_store s (decode shape b))))
        go none e ih = record { size = size; is = refl }
        go (some s) e ih =
            let w = next_means b size s e in
            rw (← w.is) (ih (after_store_bytes shape s b) w.size)

    pub stores_mean : (j : ℕ) (b : Bytes) → length b ≡ image_at shape shape.n → stores_bytes S j b ≡ stores S j (decode shape b)
    unfolding stores_bytes stores after next_in
    stores_mean zero b size = refl
    stores_mean (suc j) b size = go (next S (decode shape b)) refl (stores_mean j)
      where
        go : (o : Option Store) → next S (decode shape b) ≡ o → ((a : Bytes) → length a ≡ image_at shape shape.n → stores_bytes S j a ≡ stores S j (decode shape a))
            → after o zero (λ s. suc (stores_bytes S j (after_store_bytes shape s b))) ≡ after o zero (λ s. suc (stores S j (after_store s (decode shape b))))
        go none e ih = refl
        go (some s) e ih =
            let w = next_means b size s e in
            ap suc (ih (after_store_bytes shape s b) w.size ∙ ap (stores S j) w.is)
