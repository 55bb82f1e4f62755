-- What is seen after the first outstanding store is what was seen before with one slot changed: `next_seen`.
use Prim.Native.Nat.{ℕ, suc, ◌≤◌, ◌<◌}
use mathlib.Core.Path.{◌≡◌, refl, sym, ap, ◌∙◌, fun_ext}
use mathlib.Core.Bool.{Bool, true, false, cond, true≢false}
use mathlib.Core.Option.{some}
use native.Mathlib.Omega.{arith}
use lib.Dec.{eqb}
use borrow.Author.Tests.{lt-ltb, le-ltb}
use Rattle.search.proofs.UpdateLaws.{put_same, put_case}
use Rattle.record.specs.Meaning.{good, blank, Entry, intact, broken}
use Rattle.image.specs.Image.{Image}
use Rattle.image.specs.SetSlot.{set_record, set_entry}
use Rattle.image.specs.Cluster.{Cluster}
use Rattle.image.specs.View.{View, condition, epoch_of, view_of, condition_as, seen_as}
use Rattle.image.specs.declared.condition.Condition.{Condition}
use Rattle.image.specs.declared.condition.Condition.TheVariants.{Unused, Whole, Faulty}
use Rattle.image.proofs.StoreLaws.{record_condition, record_condition_other, record_epoch_lem, record_epoch_other}
use Rattle.planner.specs.Setting.{Setting, witness, views_of}
use Rattle.planner.specs.Rules.{is_record_lost}
use Rattle.protocol.specs.Store.{Store, store_entry, store_record, store_blank, store_replica}
use Rattle.protocol.specs.ClusterSteps.{after_store}
use Rattle.protocol.specs.Recovery.{next}
use Rattle.protocol.proofs.Effects.{view, is_complete, card_same, lost_card, Mended, Appended, view_ext, blank_effect, mend_effect, write_effect, append_effect, fill_effect}
use Rattle.protocol.proofs.Due.{Due, by_leader, by_follower, due_facts}
use Rattle.protocol.proofs.ReadyPlan.{ReadyPlan}
use Rattle.protocol.proofs.LeaderDue.{LeaderDue, leader_blank, leader_fetch, leader_write}
use Rattle.protocol.proofs.FollowerDue.{FollowerDue, follower_blank, follower_mend, follower_write, follower_fill, follower_append}
use Rattle.protocol.proofs.Slots.{answers_readable, below_differing, leader_entry, fetch_facts, donor_entry, leader_fits, append_up, append_complete}
use Rattle.protocol.proofs.Keeps.{stored_off}
use Rattle.recovery.specs.Note.{with_slot, seen_after, views_after}

-- ---- one slot changed

with_slot_lem : (a b : View) (k l : ℕ) (x : Condition) (e : ℕ) → b.readable ≡ a.readable → b.first ≡ a.first → b.length ≡ l → b.condition k ≡ x → b.epoch k ≡ e
    → ((j : ℕ) → (j ≡ k → ⊥) → b.condition j ≡ a.condition j) → ((j : ℕ) → (j ≡ k → ⊥) → b.epoch j ≡ a.epoch j) → b ≡ with_slot a k l x e
unfolding with_slot
with_slot_lem a b k l x e r f n c d cs es =
    view_ext b (with_slot a k l x e) r f n
    (λ j. put_case (λ (y : Condition). b.condition j ≡ y) a.condition k x j (λ q. rw q c) (cs j))
    (λ j. put_case (λ (y : ℕ). b.epoch j ≡ y) a.epoch k e j (λ q. rw q d) (es j))

mended_seen : (a b : View) (k : ℕ) → a.readable ≡ true → Mended k a b → b ≡ with_slot a k a.length Whole (a.epoch k)
mended_seen a b k ok t = with_slot_lem a b k a.length Whole (a.epoch k) (t.readable ∙ sym ok) t.first t.lengths t.whole (t.epochs k) t.conditions (λ j q. t.epochs j)

-- ---- the stores, on an image

module _ (S : Setting) (c : ℕ) (i : Image) (ok : (view S c i).readable ≡ true) where
  abbrev w : Bool
  w = witness S c

  -- a blank record is seen alike of both
  blank_as : (v : Bool) → condition_as v Unused ≡ Unused
  unfolding condition_as
  blank_as false = refl
  blank_as true = refl

  blank_seen : (l : ℕ) → (view S c i).length ≡ suc l → view S c (set_record i l blank) ≡ seen_after w (store_blank c l) (view S c i)
  unfolding seen_after seen_as view_of condition epoch_of
  blank_seen l h =
      let t = blank_effect S c i ok l h in
      with_slot_lem (view S c i) (view S c (set_record i l blank)) l l Unused 0 (t.readable ∙ sym ok) t.first t.is
      (ap (condition_as w) (record_condition S.shape.m i l blank) ∙ blank_as w) (record_epoch_lem S.shape.m i l blank)
      (λ j q. ap (condition_as w) (record_condition_other S.shape.m i l blank j q)) (record_epoch_other S.shape.m i l blank)

  mend_seen : (k d : ℕ) (x : Entry) → k < (view S c i).length → Mended k (view S c i) (view S c (set_entry i k x))
      → view S c (set_entry i k x) ≡ seen_after w (store_entry c k d) (view S c i)
  unfolding seen_after
  mend_seen k d x h t = rw (lt-ltb k (view S c i).length h) (mended_seen (view S c i) (view S c (set_entry i k x)) k ok t)

  fill_seen : (k d : ℕ) (x : Entry) → (view S c i).length ≤ k → k < S.shape.m → view S c (set_entry i k x) ≡ seen_after w (store_entry c k d) (view S c i)
  unfolding seen_after
  fill_seen k d x h room = rw (le-ltb k (view S c i).length h) (fill_effect S c i ok k x h room)

  write_seen : (k : ℕ) → k < (view S c i).length → w ≡ false → Mended k (view S c i) (view S c (set_record i k (good ((view S c i).epoch k))))
      → view S c (set_record i k (good ((view S c i).epoch k))) ≡ seen_after w (store_record c k ((view S c i).epoch k)) (view S c i)
  unfolding seen_after
  write_seen k h card t =
      rw (lt-ltb k (view S c i).length h) (mended_seen (view S c i) (view S c (set_record i k (good ((view S c i).epoch k)))) k ok t
      ∙ ap (λ (x : Condition). with_slot (view S c i) k (view S c i).length x ((view S c i).epoch k)) (sym (card_same w Whole card)))

  -- a good record that leaves nothing to do
  good_as : (v : Bool) (e : ℕ) (x : Entry) → is_complete (condition_as v (condition (good e) x)) ≡ true → condition_as v (condition (good e) x) ≡ condition_as v Whole
  unfolding condition_as condition is_complete
  good_as v e (broken b) h = go v h
    where
      go : (v : Bool) → is_complete (condition_as v Faulty) ≡ true → condition_as v Faulty ≡ condition_as v Whole
      go true h = refl
      go false h = absurd (true≢false (sym h))
  good_as v e (intact f p) h = go v (eqb e f) h
    where
      go : (v t : Bool) → is_complete (condition_as v (cond t Whole Faulty)) ≡ true → condition_as v (cond t Whole Faulty) ≡ condition_as v Whole
      go v true h = refl
      go true false h = refl
      go false false h = absurd (true≢false (sym h))

  append_seen : (e : ℕ) → Appended (view S c i).length e (view S c i) (view S c (set_record i (view S c i).length (good e)))
      → view S c (set_record i (view S c i).length (good e)) ≡ seen_after w (store_record c (view S c i).length e) (view S c i)
  unfolding seen_after seen_as view_of
  append_seen e t =
      let l = (view S c i).length in
      let new = record_condition S.shape.m i l (good e) in
      rw (le-ltb l l (omega arith))
      (with_slot_lem (view S c i) (view S c (set_record i l (good e))) l (suc l) (condition_as w Whole) e (t.readable ∙ sym ok) t.first t.is
      (ap (condition_as w) new ∙ good_as w e (i.entries l) (ap (λ (d : Condition). is_complete (condition_as w d)) (sym new) ∙ t.complete)) t.epoch
      (λ j q. ap (condition_as w) (record_condition_other S.shape.m i l (good e) j q)) (record_epoch_other S.shape.m i l (good e)))

-- ---- the store that is due

-- a record is lost on a card alone
lost_slot : (S : Setting) (F : Cluster) (c k : ℕ) → is_record_lost ((views_of S F c).condition k) ≡ true → witness S c ≡ false
unfolding views_of seen_as
lost_slot S F c k h = (lost_card (witness S c) _ h).card

leader_seen : (S : Setting) (F : Cluster) (s : Store) → ReadyPlan S (views_of S F) → LeaderDue S F s
    → views_of S (after_store s F) (store_replica s) ≡ seen_after (witness S (store_replica s)) s (views_of S F (store_replica s))
unfolding after_store store_replica views_of
leader_seen S F s r (leader_blank l h e) = rw put_same (blank_seen S S.leader (F S.leader) r.leader l h)
leader_seen S F s r (leader_fetch k h full e) =
    let d = fetch_facts S (views_of S F) k e in
    let y = donor_entry S F k d in
    rw put_same (mend_seen S S.leader (F S.leader) r.leader k _ _ (omega (arith, full))
    (rw y.is (mend_effect S S.leader (F S.leader) r.leader k y.payload d.faulty)))
leader_seen S F s r (leader_write k h full e) =
    rw put_same (write_seen S S.leader (F S.leader) r.leader k (omega (arith, full)) r.card (write_effect S S.leader (F S.leader) r.leader k e))

follower_seen : (S : Setting) (F : Cluster) (s : Store) → ReadyPlan S (views_of S F) → FollowerDue S F s
    → views_of S (after_store s F) (store_replica s) ≡ seen_after (witness S (store_replica s)) s (views_of S F (store_replica s))
unfolding after_store store_replica views_of
follower_seen S F s r (follower_blank c ld cn an l h e) = rw put_same (blank_seen S c (F c) (answers_readable S (views_of S F) c an) l h)
follower_seen S F s r (follower_mend c ld cn an full k h e) =
    let b = below_differing S (views_of S F) c k h in
    let y = leader_entry S F r.card r.leader ld k b.within in
    let z : (F S.leader).entries k ≡ intact ((views_of S F c).epoch k) y.payload = y.is ∙ ap (λ (v : ℕ). intact v y.payload) (sym b.epochs) in
    let ok = answers_readable S (views_of S F) c an in
    rw put_same (mend_seen S c (F c) ok k _ _ (omega (arith, full)) (rw z (mend_effect S c (F c) ok k y.payload e)))
follower_seen S F s r (follower_write c ld cn an full k h e) =
    let ok = answers_readable S (views_of S F) c an in
    rw put_same (write_seen S c (F c) ok k (omega (arith, full)) (lost_slot S F c k e) (write_effect S c (F c) ok k e))
follower_seen S F s r (follower_fill c ld cn an full h e) =
    rw put_same (fill_seen S c (F c) (answers_readable S (views_of S F) c an) (views_of S F c).length _ _ (omega arith) (omega (arith, leader_fits S F S.leader, h)))
follower_seen S F s r (follower_append c ld cn an full h e) =
    let ok = answers_readable S (views_of S F) c an in
    rw put_same (append_seen S c (F c) ok ((views_of S F S.leader).epoch (views_of S F c).length)
    (append_effect S c (F c) ok ((views_of S F S.leader).epoch (views_of S F c).length) (omega (arith, leader_fits S F S.leader, h)) (append_complete S F c r ld h e) (append_up S F c r ld full h)))

due_seen : (S : Setting) (F : Cluster) (s : Store) → ReadyPlan S (views_of S F) → Due S F s
    → views_of S (after_store s F) (store_replica s) ≡ seen_after (witness S (store_replica s)) s (views_of S F (store_replica s))
due_seen S F s r (by_leader e d) = leader_seen S F s r d
due_seen S F s r (by_follower e f d) = follower_seen S F s r d

-- the other replicas are seen as before
pub next_seen : (S : Setting) (F : Cluster) (s : Store) → next S F ≡ some s → views_of S (after_store s F) ≡ views_after S s (views_of S F)
unfolding views_after
next_seen S F s e =
    let u = due_facts S F s e in
    fun_ext (λ c. put_case (λ (v : View). views_of S (after_store s F) c ≡ v) (views_of S F) (store_replica s) (seen_after (witness S (store_replica s)) s (views_of S F (store_replica s))) c
    (λ q. rw q (due_seen S F s u.plan u.is_due))
    (λ q. unfold views_of in ap (view S c) (stored_off s F c q)))
