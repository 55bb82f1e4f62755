-- After a store, each used slot has the epoch, and on a card the entry, that some readable replica had there before it (`stored_source`).
use mathlib.Core.Path.{◌≡◌, refl, sym, ap, ◌∙◌}
use mathlib.Core.Bool.{true, false, true≢false}
use Prim.Native.Nat.{ℕ, suc, ◌<◌}
use native.Mathlib.Omega.{arith}
use native.Mathlib.Decide.{ℕ_discrete, dec_lt}
use Rattle.search.specs.Put.{put}
use Rattle.search.proofs.UpdateLaws.{put_same}
use Rattle.record.specs.Meaning.{good, blank, Entry, intact}
use Rattle.image.specs.Image.{Image}
use Rattle.image.specs.SetSlot.{set_entry, set_record}
use Rattle.image.specs.Cluster.{Cluster}
use Rattle.image.specs.View.{log_length, condition, view_of, condition_at, seen_as}
use Rattle.image.specs.Read.{is_whole}
use Rattle.image.proofs.ViewLaws.{readable_sound}
use Rattle.image.proofs.StoreLaws.{entry_at_lem, entry_off, record_off}
use Rattle.planner.specs.Setting.{Setting, witness, views_of}
use Rattle.planner.specs.Rules.{donor}
use Rattle.protocol.specs.Store.{Store, store_replica}
use Rattle.protocol.specs.ClusterSteps.{after_store}
use Rattle.protocol.proofs.Effects.{view, whole_card, Mended, Appended, blank_effect, mend_effect, write_effect, append_effect, fill_effect}
use Rattle.protocol.proofs.ReadyPlan.{ReadyPlan}
use Rattle.protocol.proofs.LeaderDue.{LeaderDue, leader_blank, leader_fetch, leader_write}
use Rattle.protocol.proofs.FollowerDue.{FollowerDue, follower_blank, follower_mend, follower_write, follower_fill, follower_append}
use Rattle.protocol.proofs.Due.{Due, by_leader, by_follower}
use Rattle.protocol.proofs.Slots.{answers_readable, fetch_facts, donor_entry, leader_entry, leader_fits, like_entry, below_differing, append_up, append_complete}
use Rattle.protocol.proofs.Keeps.{stored_off, Target, donor_card}

pub record Source (S : Setting) (F G : Cluster) (c k : ℕ) : Type 0 where
  pub from : ℕ
  pub below : from < S.shape.n
  pub ok : (views_of S F from).readable ≡ true
  pub within : k < (views_of S F from).length
  pub epochs : (views_of S F from).epoch k ≡ (views_of S G c).epoch k
  pub entries : witness S c ≡ false → (F from).entries k ≡ (G c).entries k
  pub card : witness S c ≡ false → witness S from ≡ false

module _ (S : Setting) (F : Cluster) (c : ℕ) (i : Image) where
  from_other : (k d : ℕ) → Target S F d → k < (views_of S F d).length → (views_of S F d).epoch k ≡ (view S c i).epoch k → (witness S c ≡ false → (F d).entries k ≡ i.entries k) → (witness S c ≡ false → witness S d ≡ false) → Source S F (put F c i) c k
  unfolding views_of
  from_other k d t h e x y = record { from = d; below = t.below; ok = t.ok; within = h; epochs = rw put_same e; entries = λ w. rw put_same (x w); card = y }

module _ (S : Setting) (F : Cluster) (c : ℕ) (t : Target S F c) where
  blank_source : (l : ℕ) → (views_of S F c).length ≡ suc l → (k : ℕ) → k < (views_of S (put F c (set_record (F c) l blank)) c).length → Source S F (put F c (set_record (F c) l blank)) c k
  unfolding views_of
  blank_source l e k h =
      let x = blank_effect S c (F c) t.ok l e in
      let b : k < l = rw (put_same, x.is) at h in
      from_other S F c (set_record (F c) l blank) k c t (omega (arith, e)) (sym (x.epochs k b)) (λ w. sym (record_off (F c) l blank k)) (λ w. w)

  write_source : (j : ℕ) (x : Mended j (view S c (F c)) (view S c (set_record (F c) j (good ((views_of S F c).epoch j))))) (k : ℕ)
      → k < (views_of S (put F c (set_record (F c) j (good ((views_of S F c).epoch j)))) c).length → Source S F (put F c (set_record (F c) j (good ((views_of S F c).epoch j)))) c k
  unfolding views_of
  write_source j x k h =
      from_other S F c (set_record (F c) j (good ((views_of S F c).epoch j))) k c t (rw (put_same, x.lengths) at h) (sym (x.epochs k)) (λ w. sym (record_off (F c) j (good ((views_of S F c).epoch j)) k)) (λ w. w)

  copy_source : (j d : ℕ) → witness S d ≡ false → Target S F d → j < (views_of S F d).length → (views_of S F d).epoch j ≡ (views_of S F c).epoch j → Mended j (view S c (F c)) (view S c (set_entry (F c) j ((F d).entries j))) → (k : ℕ)
      → k < (views_of S (put F c (set_entry (F c) j ((F d).entries j))) c).length → Source S F (put F c (set_entry (F c) j ((F d).entries j))) c k
  unfolding views_of
  copy_source j d from u b e x k h = go (ℕ_discrete k j)
    where
      y : Entry
      y = (F d).entries j

      go : Dec (k ≡ j) → Source S F (put F c (set_entry (F c) j y)) c k
      go (yes q) = rw q (from_other S F c (set_entry (F c) j y) j d u b (e ∙ sym (x.epochs j)) (λ w. sym (entry_at_lem (F c) j y)) (λ w. from))
      go (no q) = from_other S F c (set_entry (F c) j y) k c t (rw (put_same, x.lengths) at h) (sym (x.epochs k)) (λ w. sym (entry_off (F c) j y k q)) (λ w. w)

  fill_source : (y : Entry) → view S c (set_entry (F c) (views_of S F c).length y) ≡ view S c (F c) → (k : ℕ)
      → k < (views_of S (put F c (set_entry (F c) (views_of S F c).length y)) c).length → Source S F (put F c (set_entry (F c) (views_of S F c).length y)) c k
  unfolding views_of
  fill_source y e k h =
      let l = (views_of S F c).length in
      let b : k < l = rw (put_same, e) at h in
      from_other S F c (set_entry (F c) l y) k c t b (rw e) (λ w. sym (entry_off (F c) l y k (omega arith))) (λ w. w)

  append_source : (d v : ℕ) → witness S d ≡ false → Target S F d → (views_of S F c).length < (views_of S F d).length → (views_of S F d).epoch (views_of S F c).length ≡ v → (witness S c ≡ false → (F c).entries (views_of S F c).length ≡ (F d).entries (views_of S F c).length)
      → Appended (views_of S F c).length v (view S c (F c)) (view S c (set_record (F c) (views_of S F c).length (good v))) → (k : ℕ)
      → k < (views_of S (put F c (set_record (F c) (views_of S F c).length (good v))) c).length → Source S F (put F c (set_record (F c) (views_of S F c).length (good v))) c k
  unfolding views_of
  append_source d v from u b e y x k h = go (ℕ_discrete k l)
    where
      l : ℕ
      l = (views_of S F c).length

      b' : k < suc l
      b' = rw (put_same, x.is) at h

      go : Dec (k ≡ l) → Source S F (put F c (set_record (F c) l (good v))) c k
      go (yes q) = rw q (from_other S F c (set_record (F c) l (good v)) l d u b (e ∙ sym x.epoch) (λ w. sym (y w) ∙ sym (record_off (F c) l (good v) l)) (λ w. from))
      go (no q) = from_other S F c (set_record (F c) l (good v)) k c t (omega (arith, b')) (sym (x.epochs k (omega (arith, b')))) (λ w. sym (record_off (F c) l (good v) k)) (λ w. w)

-- a whole slot lies in the log
pub whole_within : (S : Setting) (F : Cluster) (c k : ℕ) → (views_of S F c).readable ≡ true → k < S.shape.m → is_whole ((views_of S F c).condition k) ≡ true → k < (views_of S F c).length
unfolding views_of seen_as view_of condition_at condition is_whole
whole_within S F c k ok h w = go (dec_lt k (log_length S.shape.m (F c)))
  where
    go : Dec (k < log_length S.shape.m (F c)) → k < log_length S.shape.m (F c)
    go (yes l) = l
    go (no l) = absurd (true≢false (sym (rw ((readable_sound (S.present c) S.shape.m (F c) ok).tail k (omega arith) h) at (ap is_whole (sym (whole_card (witness S c) (condition_at (F c) k) w).same) ∙ w))))

leader_source : (S : Setting) (F : Cluster) (s : Store) → S.leader < S.shape.n → ReadyPlan S (views_of S F) → LeaderDue S F s → (k : ℕ) → k < (views_of S (after_store s F) (store_replica s)).length → Source S F (after_store s F) (store_replica s) k
unfolding after_store store_replica
leader_source S F s n r (leader_blank l h e) = blank_source S F S.leader (record { below = n; ok = r.leader }) l h
leader_source S F s n r (leader_fetch j h full e) =
    let d = fetch_facts S (views_of S F) j e in
    let y = donor_entry S F j d in
    let u : Target S F (donor S (views_of S F) j) = record { below = d.below; ok = answers_readable S (views_of S F) (donor S (views_of S F) j) d.asked } in
    copy_source S F S.leader (record { below = n; ok = r.leader }) j (donor S (views_of S F) j) (donor_card S F j d) u
    (whole_within S F (donor S (views_of S F) j) j u.ok (omega (arith, full, leader_fits S F S.leader)) d.whole)
    d.epochs
    (rw y.is (unfold views_of in mend_effect S S.leader (F S.leader) r.leader j y.payload d.faulty))
leader_source S F s n r (leader_write j h full e) = write_source S F S.leader (record { below = n; ok = r.leader }) j (unfold views_of in write_effect S S.leader (F S.leader) r.leader j e)

follower_source : (S : Setting) (F : Cluster) (s : Store) → S.leader < S.shape.n → ReadyPlan S (views_of S F) → FollowerDue S F s → (k : ℕ) → k < (views_of S (after_store s F) (store_replica s)).length → Source S F (after_store s F) (store_replica s) k
unfolding after_store store_replica views_of
follower_source S F s n r (follower_blank c ld cn an l h e) = blank_source S F c (record { below = cn; ok = answers_readable S (views_of S F) c an }) l h
follower_source S F s n r (follower_mend c ld cn an full j h e) =
    let b = below_differing S (views_of S F) c j h in
    let y = leader_entry S F r.card r.leader ld j b.within in
    let z : (F S.leader).entries j ≡ intact ((views_of S F c).epoch j) y.payload = y.is ∙ ap (λ (v : ℕ). intact v y.payload) (sym b.epochs) in
    let t : Target S F c = record { below = cn; ok = answers_readable S (views_of S F) c an } in
    copy_source S F c t j S.leader r.card (record { below = n; ok = r.leader }) b.within (sym b.epochs) (rw z (mend_effect S c (F c) t.ok j y.payload e))
follower_source S F s n r (follower_write c ld cn an full j h e) =
    let t : Target S F c = record { below = cn; ok = answers_readable S (views_of S F) c an } in
    write_source S F c t j (write_effect S c (F c) t.ok j e)
follower_source S F s n r (follower_fill c ld cn an full h e) =
    let t : Target S F c = record { below = cn; ok = answers_readable S (views_of S F) c an } in
    fill_source S F c t ((F S.leader).entries (views_of S F c).length) (fill_effect S c (F c) t.ok (views_of S F c).length ((F S.leader).entries (views_of S F c).length) (omega arith) (omega (arith, leader_fits S F S.leader, h)))
follower_source S F s n r (follower_append c ld cn an full h e) =
    let t : Target S F c = record { below = cn; ok = answers_readable S (views_of S F) c an } in
    append_source S F c t S.leader ((views_of S F S.leader).epoch (views_of S F c).length) r.card (record { below = n; ok = r.leader }) h refl (λ w. like_entry S F c w e)
    (append_effect S c (F c) t.ok ((views_of S F S.leader).epoch (views_of S F c).length) (omega (arith, leader_fits S F S.leader, h)) (append_complete S F c r ld h e) (append_up S F c r ld full h))

pub stored_source : (S : Setting) (F : Cluster) (s : Store) → S.leader < S.shape.n → ReadyPlan S (views_of S F) → Due S F s → (c k : ℕ) → c < S.shape.n → (views_of S F c).readable ≡ true
    → k < (views_of S (after_store s F) c).length → Source S F (after_store s F) c k
stored_source S F s n r u c k cn ok h = go (ℕ_discrete c (store_replica s))
  where
    at_target : Due S F s → k < (views_of S (after_store s F) (store_replica s)).length → Source S F (after_store s F) (store_replica s) k
    at_target (by_leader e d) h = leader_source S F s n r d k h
    at_target (by_follower e f d) h = follower_source S F s n r d k h

    go : Dec (c ≡ store_replica s) → Source S F (after_store s F) c k
    go (yes q) = rw q (at_target u (rw q at h))
    go (no q) =
        let e = stored_off s F c q in
        let f : views_of S (after_store s F) c ≡ views_of S F c = unfold views_of in ap (view S c) e in
        record { from = c; below = cn; ok = ok; within = rw f at h; epochs = rw f; entries = λ w. rw e; card = λ w. w }
