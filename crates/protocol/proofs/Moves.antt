-- The store that is due, made: how the views change (`moved`).
use mathlib.Core.Path.{◌≡◌, refl, sym, ap, ◌∙◌}
use mathlib.Core.Bool.{true, false, or-true}
use Prim.Native.Nat.{ℕ, ◌≤◌, ◌<◌}
use native.Mathlib.Omega.{arith}
use Rattle.search.specs.Put.{put}
use Rattle.search.proofs.UpdateLaws.{put_same, put_other}
use Rattle.record.specs.Meaning.{good, blank, Entry, intact}
use Rattle.image.specs.Image.{Image}
use Rattle.image.specs.SetSlot.{set_record, set_entry}
use Rattle.image.specs.Cluster.{Cluster}
use Rattle.image.specs.View.{View, seen_as}
use Rattle.image.specs.declared.condition.Condition.{Condition}
use Rattle.image.specs.declared.condition.Condition.TheVariants.{Unused, Whole, RecordLost, Faulty, Lost, RecordOnly}
use Rattle.image.proofs.StoreLaws.{entry_at_lem, entry_off, record_off}
use Rattle.planner.specs.Setting.{Setting, views_of}
use Rattle.planner.specs.Rules.{is_faulty, is_record_lost, answers, Keep, is_truncate, is_wait, rule, donor, end}
use Rattle.protocol.specs.Store.{Store}
use Rattle.protocol.specs.ClusterSteps.{after_store}
use Rattle.protocol.specs.Recovery.{first_differing, unlike}
use Rattle.protocol.proofs.Effects.{view, is_complete, Blanked, Mended, Appended, blank_effect, mend_effect, write_effect, append_effect, fill_effect}
use Rattle.protocol.proofs.ReadyPlan.{ReadyPlan}
use Rattle.protocol.proofs.LeaderDue.{LeaderDone, LeaderDue, leader_blank, leader_fetch, leader_write}
use Rattle.protocol.proofs.FollowerDue.{FollowerDue, follower_blank, follower_mend, follower_write, follower_fill, follower_append}
use Rattle.protocol.proofs.Due.{Due, by_leader, by_follower}
use Rattle.protocol.proofs.Slots.{entry_refl, answers_readable, answers_other, below_differing, leader_entry, fetch_facts, donor_entry, leader_fits, append_up, append_complete}

-- ---- a store made: one replica changes, and how
abbrev pub Off : ℕ → Cluster → Cluster → Type 0
Off c F G = (d : ℕ) → (d ≡ c → ⊥) → G d ≡ F d

pub data Move (S : Setting) (F G : Cluster) : Type 0 where
  leader_blanked : (l : ℕ) → Off S.leader F G → Blanked l (views_of S F S.leader) (views_of S G S.leader) → end S (views_of S F) ≤ l → Move S F G
  leader_mended : (k : ℕ) → Off S.leader F G → Mended k (views_of S F S.leader) (views_of S G S.leader)
      → k < end S (views_of S F) → end S (views_of S F) ≡ (views_of S F S.leader).length
      → is_truncate (rule S (views_of S F) k) ≡ false → is_wait (rule S (views_of S F) k) ≡ false → is_complete ((views_of S F S.leader).condition k) ≡ false → Move S F G
  follower_blanked : (c l : ℕ) → LeaderDone S (views_of S F) → c < S.shape.n → answers S (views_of S F) c ≡ true → Off c F G
      → Blanked l (views_of S F c) (views_of S G c) → first_differing S (views_of S F) c ≤ l → Move S F G
  follower_mended : (c k : ℕ) → LeaderDone S (views_of S F) → c < S.shape.n → answers S (views_of S F) c ≡ true → Off c F G
      → Mended k (views_of S F c) (views_of S G c) → k < first_differing S (views_of S F) c → first_differing S (views_of S F) c ≡ (views_of S F c).length
      → is_complete ((views_of S F c).condition k) ≡ false → unlike S G c ≡ unlike S F c → Move S F G
  follower_filled : (c : ℕ) → LeaderDone S (views_of S F) → c < S.shape.n → answers S (views_of S F) c ≡ true → Off c F G
      → views_of S G c ≡ views_of S F c → first_differing S (views_of S F) c ≡ (views_of S F c).length
      → (views_of S F c).length < (views_of S F S.leader).length → unlike S F c ≡ true → unlike S G c ≡ false → Move S F G
  follower_appended : (c : ℕ) → LeaderDone S (views_of S F) → c < S.shape.n → answers S (views_of S F) c ≡ true → Off c F G
      → Appended (views_of S F c).length ((views_of S F S.leader).epoch (views_of S F c).length) (views_of S F c) (views_of S G c)
      → first_differing S (views_of S F) c ≡ (views_of S F c).length → (views_of S F c).length < (views_of S F S.leader).length → unlike S F c ≡ false → Move S F G

faulty_incomplete : (d : Condition) → is_faulty d ≡ true → is_complete d ≡ false
unfolding is_faulty is_complete
faulty_incomplete Unused h = refl
faulty_incomplete Whole h = sym h
faulty_incomplete RecordLost h = refl
faulty_incomplete Faulty h = refl
faulty_incomplete Lost h = refl
faulty_incomplete RecordOnly h = sym h

lost_incomplete : (d : Condition) → is_record_lost d ≡ true → is_complete d ≡ false
unfolding is_record_lost is_complete
lost_incomplete Unused h = refl
lost_incomplete Whole h = sym h
lost_incomplete RecordLost h = refl
lost_incomplete Faulty h = refl
lost_incomplete Lost h = refl
lost_incomplete RecordOnly h = sym h

-- a slot whose record alone is lost is kept
lost_keep : (S : Setting) (W : ℕ → View) (k : ℕ) → is_record_lost ((W S.leader).condition k) ≡ true → rule S W k ≡ Keep
unfolding rule is_faulty is_record_lost
lost_keep S W k h = rw (not_faulty ((W S.leader).condition k) h)
  where
    not_faulty : (d : Condition) → is_record_lost d ≡ true → is_faulty d ≡ false
    not_faulty Unused h = refl
    not_faulty Whole h = refl
    not_faulty RecordLost h = refl
    not_faulty Faulty h = sym h
    not_faulty Lost h = refl
    not_faulty RecordOnly h = refl

pub unlike_same : (S : Setting) (F : Cluster) (c : ℕ) (i : Image) → answers S (views_of S F) c ≡ true → (view S c i).length ≡ (view S c (F c)).length
    → i.entries (view S c (F c)).length ≡ (F c).entries (view S c (F c)).length → unlike S (put F c i) c ≡ unlike S F c
unfolding unlike views_of seen_as
unlike_same S F c i an l e = rw (put_other F c i S.leader (λ q. answers_other S (views_of S F) c an (sym q)), put_same, l, e)

filled : (S : Setting) (F : Cluster) (c : ℕ) → ReadyPlan S (views_of S F) → LeaderDone S (views_of S F) → c < S.shape.n → answers S (views_of S F) c ≡ true
    → first_differing S (views_of S F) c ≡ (views_of S F c).length → (views_of S F c).length < (views_of S F S.leader).length → unlike S F c ≡ true
    → Move S F (put F c (set_entry (F c) (views_of S F c).length ((F S.leader).entries (views_of S F c).length)))
unfolding views_of unlike
filled S F c r ld cn an full h e =
    follower_filled c ld cn an (λ d q. put_other F c i d q) (rw put_same same) full h e
    (rw (put_other F c i S.leader (λ q. answers_other S (views_of S F) c an (sym q)), put_same, same, entry_at_lem (F c) l x, entry_refl x, or-true))
  where
    l : ℕ
    l = (views_of S F c).length

    x : Entry
    x = (F S.leader).entries l

    i : Image
    i = set_entry (F c) l x

    same : view S c (set_entry (F c) l x) ≡ view S c (F c)
    same = fill_effect S c (F c) (answers_readable S (views_of S F) c an) l x (omega arith) (omega (arith, leader_fits S F S.leader, h))

appended : (S : Setting) (F : Cluster) (c : ℕ) → ReadyPlan S (views_of S F) → LeaderDone S (views_of S F) → c < S.shape.n → answers S (views_of S F) c ≡ true
    → first_differing S (views_of S F) c ≡ (views_of S F c).length → (views_of S F c).length < (views_of S F S.leader).length → unlike S F c ≡ false
    → Move S F (put F c (set_record (F c) (views_of S F c).length (good ((views_of S F S.leader).epoch (views_of S F c).length))))
unfolding views_of
appended S F c r ld cn an full h e =
    follower_appended c ld cn an (λ d q. put_other F c (set_record (F c) l (good v)) d q)
    (rw put_same (append_effect S c (F c) (answers_readable S (views_of S F) c an) v (omega (arith, leader_fits S F S.leader, h)) (append_complete S F c r ld h e) (append_up S F c r ld full h)))
    full h e
  where
    l : ℕ
    l = (views_of S F c).length

    v : ℕ
    v = (views_of S F S.leader).epoch l

leader_moved : (S : Setting) (F : Cluster) (s : Store) → ReadyPlan S (views_of S F) → LeaderDue S F s → Move S F (after_store s F)
unfolding after_store views_of is_truncate is_wait
leader_moved S F s r (leader_blank l h e) =
    leader_blanked l (λ d q. put_other F S.leader (set_record (F S.leader) l blank) d q) (rw put_same (blank_effect S S.leader (F S.leader) r.leader l h)) e
leader_moved S F s r (leader_fetch k h full e) =
    let d = fetch_facts S (views_of S F) k e in
    let y = donor_entry S F k d in
    leader_mended k (λ j q. put_other F S.leader (set_entry (F S.leader) k ((F (donor S (views_of S F) k)).entries k)) j q)
    (rw (put_same, y.is) (mend_effect S S.leader (F S.leader) r.leader k y.payload d.faulty))
    h full (ap is_truncate e) (ap is_wait e) (faulty_incomplete ((views_of S F S.leader).condition k) d.faulty)
leader_moved S F s r (leader_write k h full e) =
    leader_mended k (λ j q. put_other F S.leader (set_record (F S.leader) k (good ((views_of S F S.leader).epoch k))) j q)
    (rw put_same (write_effect S S.leader (F S.leader) r.leader k e))
    h full (ap is_truncate (lost_keep S (views_of S F) k e)) (ap is_wait (lost_keep S (views_of S F) k e)) (lost_incomplete ((views_of S F S.leader).condition k) e)

follower_moved : (S : Setting) (F : Cluster) (s : Store) → ReadyPlan S (views_of S F) → FollowerDue S F s → Move S F (after_store s F)
unfolding after_store views_of
follower_moved S F s r (follower_blank c ld cn an l h e) =
    follower_blanked c l ld cn an (λ d q. put_other F c (set_record (F c) l blank) d q) (rw put_same (blank_effect S c (F c) (answers_readable S (views_of S F) c an) l h)) e
follower_moved S F s r (follower_mend c ld cn an full k h e) =
    let b = below_differing S (views_of S F) c k h in
    let y = leader_entry S F r.card r.leader ld k b.within in
    let z : (F S.leader).entries k ≡ intact ((views_of S F c).epoch k) y.payload = y.is ∙ ap (λ (v : ℕ). intact v y.payload) (sym b.epochs) in
    let t = mend_effect S c (F c) (answers_readable S (views_of S F) c an) k y.payload e in
    follower_mended c k ld cn an (λ j q. put_other F c (set_entry (F c) k ((F S.leader).entries k)) j q)
    (rw (put_same, z) t)
    h full (faulty_incomplete ((views_of S F c).condition k) e)
    (unlike_same S F c (set_entry (F c) k ((F S.leader).entries k)) an (rw z t.lengths) (entry_off (F c) k ((F S.leader).entries k) (view S c (F c)).length (omega (arith, full))))
follower_moved S F s r (follower_write c ld cn an full k h e) =
    let t = write_effect S c (F c) (answers_readable S (views_of S F) c an) k e in
    follower_mended c k ld cn an (λ j q. put_other F c (set_record (F c) k (good ((views_of S F c).epoch k))) j q)
    (rw put_same t)
    h full (lost_incomplete ((views_of S F c).condition k) e)
    (unlike_same S F c (set_record (F c) k (good ((views_of S F c).epoch k))) an t.lengths (record_off (F c) k (good ((views_of S F c).epoch k)) (view S c (F c)).length))
follower_moved S F s r (follower_fill c ld cn an full h e) = filled S F c r ld cn an full h e
follower_moved S F s r (follower_append c ld cn an full h e) = appended S F c r ld cn an full h e

pub moved : (S : Setting) (F : Cluster) (s : Store) → ReadyPlan S (views_of S F) → Due S F s → Move S F (after_store s F)
moved S F s r (by_leader e d) = leader_moved S F s r d
moved S F s r (by_follower e f d) = follower_moved S F s r d
