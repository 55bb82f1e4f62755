-- What a store that was due leaves alone: replicas that are away or unreadable, and intact entries; and where each entry comes from.
use mathlib.Core.Path.{◌≡◌, refl, sym, ap, ◌∙◌}
use mathlib.Core.Bool.{true, false, true≢false}
use Prim.Native.Nat.{ℕ, ◌≤◌, ◌<◌}
use native.Mathlib.Omega.{arith}
use native.Mathlib.Decide.{ℕ_discrete}
use borrow.Author.Tests.{eq-eqb}
use Rattle.search.specs.Put.{put}
use Rattle.search.proofs.UpdateLaws.{put_same, put_other}
use Rattle.slices.specs.Parts.{Bytes}
use Rattle.record.specs.Meaning.{Record, good, blank, bad, Entry, intact, broken}
use Rattle.image.specs.Cluster.{Cluster}
use Rattle.image.specs.SetSlot.{set_entry, set_record}
use Rattle.image.specs.View.{condition, epoch_of, condition_at, epoch_at, view_of, seen_as}
use Rattle.image.proofs.StoreLaws.{entry_off}
use Rattle.planner.specs.Setting.{Setting, witness, views_of}
use Rattle.planner.specs.Rules.{is_faulty, is_record_lost, donor}
use Rattle.protocol.specs.Store.{Store, store_entry, store_record, store_blank, store_replica, store_slot}
use Rattle.protocol.specs.ClusterSteps.{after_store}
use Rattle.protocol.proofs.Effects.{IntactAt, whole_intact, lost_whole, faulty_card, lost_card, whole_card}
use Rattle.protocol.proofs.ReadyPlan.{ReadyPlan}
use Rattle.protocol.proofs.LeaderDue.{LeaderDue, leader_blank, leader_fetch, leader_write}
use Rattle.protocol.proofs.FollowerDue.{FollowerDue, follower_blank, follower_mend, follower_write, follower_fill, follower_append}
use Rattle.protocol.proofs.Due.{Due, by_leader, by_follower}
use Rattle.protocol.proofs.Slots.{answers_readable, Donated, fetch_facts, leader_fits, leader_entry, unlike_card}
use Rattle.protocol.proofs.Reach.{Torn, torn}

pub stored_off : (s : Store) (F : Cluster) (c : ℕ) → (c ≡ store_replica s → ⊥) → after_store s F c ≡ F c
unfolding after_store store_replica
stored_off (store_entry c k d) F j q = put_other F c (set_entry (F c) k ((F d).entries k)) j q
stored_off (store_record c k e) F j q = put_other F c (set_record (F c) k (good e)) j q
stored_off (store_blank c k) F j q = put_other F c (set_record (F c) k blank) j q

pub torn_off : (s : Store) (F G : Cluster) → Torn F s G → (c : ℕ) → (c ≡ store_replica s → ⊥) → G c ≡ F c
unfolding store_replica
torn_off s F G (torn {c} {k} {d} b) j q = put_other F c (set_entry (F c) k (broken b)) j q

-- the replica that a store is made on
pub record Target (S : Setting) (F : Cluster) (c : ℕ) : Type 0 where
  pub below : c < S.shape.n
  pub ok : (views_of S F c).readable ≡ true

leader_target : (S : Setting) (F : Cluster) (s : Store) → S.leader < S.shape.n → ReadyPlan S (views_of S F) → LeaderDue S F s → Target S F (store_replica s)
unfolding store_replica
leader_target S F s n r (leader_blank l h e) = record { below = n; ok = r.leader }
leader_target S F s n r (leader_fetch k h full e) = record { below = n; ok = r.leader }
leader_target S F s n r (leader_write k h full e) = record { below = n; ok = r.leader }

follower_target : (S : Setting) (F : Cluster) (s : Store) → FollowerDue S F s → Target S F (store_replica s)
unfolding store_replica
follower_target S F s (follower_blank c ld cn an l h e) = record { below = cn; ok = answers_readable S (views_of S F) c an }
follower_target S F s (follower_mend c ld cn an full k h e) = record { below = cn; ok = answers_readable S (views_of S F) c an }
follower_target S F s (follower_write c ld cn an full k h e) = record { below = cn; ok = answers_readable S (views_of S F) c an }
follower_target S F s (follower_fill c ld cn an full h e) = record { below = cn; ok = answers_readable S (views_of S F) c an }
follower_target S F s (follower_append c ld cn an full h e) = record { below = cn; ok = answers_readable S (views_of S F) c an }

pub due_target : (S : Setting) (F : Cluster) (s : Store) → S.leader < S.shape.n → ReadyPlan S (views_of S F) → Due S F s → Target S F (store_replica s)
due_target S F s n r (by_leader e d) = leader_target S F s n r d
due_target S F s n r (by_follower e f d) = follower_target S F s d

-- ---- entries
-- a copy goes to a faulty slot, or behind the log
pub data Hole (S : Setting) (F : Cluster) (c k : ℕ) : Type 0 where
  faulty : is_faulty ((views_of S F c).condition k) ≡ true → Hole S F c k
  behind : (views_of S F c).length ≤ k → Hole S F c k

leader_hole : (S : Setting) (F : Cluster) (c k d : ℕ) → LeaderDue S F (store_entry c k d) → Hole S F c k
leader_hole S F c k d (leader_fetch j h full e) = faulty (fetch_facts S (views_of S F) k e).faulty

follower_hole : (S : Setting) (F : Cluster) (c k d : ℕ) → FollowerDue S F (store_entry c k d) → Hole S F c k
follower_hole S F c k d (follower_mend c' ld cn an full j h e) = faulty e
follower_hole S F c k d (follower_fill c' ld cn an full h e) = behind (omega arith)

pub copy_hole : (S : Setting) (F : Cluster) (c k d : ℕ) → Due S F (store_entry c k d) → Hole S F c k
copy_hole S F c k d (by_leader e u) = leader_hole S F c k d u
copy_hole S F c k d (by_follower e f u) = follower_hole S F c k d u

-- an intact entry of the slot's own epoch is not faulty
not_faulty : (r : Record) (x : Entry) (q : Bytes) → x ≡ intact (epoch_of r x) q → is_faulty (condition r x) ≡ true → ⊥
unfolding condition epoch_of is_faulty
not_faulty (good e) (intact f p) q h y = true≢false (sym (rw (same, eq-eqb f f refl) at y))
  where
    same : e ≡ f
    same = cc
not_faulty (good e) (broken b) q h y = let z : ◌≡◌ {A = ℕ} 0 1 = cc in omega arith
not_faulty blank x q h y = true≢false (sym y)
not_faulty (bad b) (intact f p) q h y = true≢false (sym y)
not_faulty (bad b) (broken d) q h y = true≢false (sym y)

no_hole : (S : Setting) (F : Cluster) (c k : ℕ) (q : Bytes) → k < (views_of S F c).length → (F c).entries k ≡ intact ((views_of S F c).epoch k) q → Hole S F c k → ⊥
unfolding views_of seen_as view_of condition_at epoch_at
no_hole S F c k q h e (faulty y) = not_faulty ((F c).records k) ((F c).entries k) q e (ap is_faulty (sym (faulty_card (witness S c) (condition_at (F c) k) y).same) ∙ y)
no_hole S F c k q h e (behind y) = omega arith

copy_entries : (F : Cluster) (c k : ℕ) (x : Entry) (d j : ℕ) → ((d ≡ c) → j ≡ k → ⊥) → (put F c (set_entry (F c) k x) d).entries j ≡ (F d).entries j
copy_entries F c k x d j h = go (ℕ_discrete d c)
  where
    go : Dec (d ≡ c) → (put F c (set_entry (F c) k x) d).entries j ≡ (F d).entries j
    go (yes q) = rw (q, put_same) (entry_off (F c) k x j (h q))
    go (no q) = rw (put_other F c (set_entry (F c) k x) d q)

record_entries : (F : Cluster) (c k : ℕ) (r : Record) (d j : ℕ) → (put F c (set_record (F c) k r) d).entries j ≡ (F d).entries j
unfolding set_record
record_entries F c k r d j = go (ℕ_discrete d c)
  where
    go : Dec (d ≡ c) → (put F c (set_record (F c) k r) d).entries j ≡ (F d).entries j
    go (yes q) = rw (q, put_same)
    go (no q) = rw (put_other F c (set_record (F c) k r) d q)

pub stored_entry : (S : Setting) (F : Cluster) (s : Store) → Due S F s → (c k : ℕ) (q : Bytes) → k < (views_of S F c).length → (F c).entries k ≡ intact ((views_of S F c).epoch k) q
    → (after_store s F c).entries k ≡ (F c).entries k
unfolding after_store
stored_entry S F (store_entry d j a) u c k q h e = copy_entries F d j ((F a).entries j) c k (λ x y. no_hole S F d j q (rw (← x, ← y) h) (rw (← x, ← y) e) (copy_hole S F d j a u))
stored_entry S F (store_record d j v) u c k q h e = record_entries F d j (good v) c k
stored_entry S F (store_blank d j) u c k q h e = record_entries F d j blank c k

pub torn_entry : (S : Setting) (F G : Cluster) (s : Store) → Due S F s → Torn F s G → (c k : ℕ) (q : Bytes) → k < (views_of S F c).length → (F c).entries k ≡ intact ((views_of S F c).epoch k) q
    → (G c).entries k ≡ (F c).entries k
torn_entry S F G s u (torn {c = d} {k = j} {d = a} b) c k q h e = copy_entries F d j (broken b) c k (λ x y. no_hole S F d j q (rw (← x, ← y) h) (rw (← x, ← y) e) (copy_hole S F d j a u))

-- ---- a store lies in the cluster, and a record is written only with the epoch of an intact entry
leader_slot : (S : Setting) (F : Cluster) (s : Store) → LeaderDue S F s → store_slot s < S.shape.m
unfolding store_slot
leader_slot S F s (leader_blank l h e) = omega (arith, h, leader_fits S F S.leader)
leader_slot S F s (leader_fetch k h full e) = omega (arith, full, leader_fits S F S.leader)
leader_slot S F s (leader_write k h full e) = omega (arith, full, leader_fits S F S.leader)

follower_slot : (S : Setting) (F : Cluster) (s : Store) → FollowerDue S F s → store_slot s < S.shape.m
unfolding store_slot
follower_slot S F s (follower_blank c ld cn an l h e) = omega (arith, h, leader_fits S F c)
follower_slot S F s (follower_mend c ld cn an full k h e) = omega (arith, full, leader_fits S F c)
follower_slot S F s (follower_write c ld cn an full k h e) = omega (arith, full, leader_fits S F c)
follower_slot S F s (follower_fill c ld cn an full h e) = omega (arith, h, leader_fits S F S.leader)
follower_slot S F s (follower_append c ld cn an full h e) = omega (arith, h, leader_fits S F S.leader)

pub due_slot : (S : Setting) (F : Cluster) (s : Store) → Due S F s → store_slot s < S.shape.m
due_slot S F s (by_leader e d) = leader_slot S F s d
due_slot S F s (by_follower e f d) = follower_slot S F s d

-- an entry is copied from a replica that is readable too
leader_donor : (S : Setting) (F : Cluster) (c k d : ℕ) → LeaderDue S F (store_entry c k d) → Target S F d
leader_donor S F c k d (leader_fetch j h full e) =
    let x = fetch_facts S (views_of S F) k e in
    record { below = x.below; ok = answers_readable S (views_of S F) d x.asked }

follower_donor : (S : Setting) (F : Cluster) (c k d : ℕ) → S.leader < S.shape.n → ReadyPlan S (views_of S F) → FollowerDue S F (store_entry c k d) → Target S F d
follower_donor S F c k d n r (follower_mend c' ld cn an full j h e) = record { below = n; ok = r.leader }
follower_donor S F c k d n r (follower_fill c' ld cn an full h e) = record { below = n; ok = r.leader }

pub due_donor : (S : Setting) (F : Cluster) (c k d : ℕ) → S.leader < S.shape.n → ReadyPlan S (views_of S F) → Due S F (store_entry c k d) → Target S F d
due_donor S F c k d n r (by_leader e u) = leader_donor S F c k d u
due_donor S F c k d n r (by_follower e f u) = follower_donor S F c k d n r u

-- entries are copied from card to card
pub record Cards (S : Setting) (c d : ℕ) : Type 0 where
  pub to : witness S c ≡ false
  pub from : witness S d ≡ false

faulty_slot : (S : Setting) (F : Cluster) (c k : ℕ) → is_faulty ((views_of S F c).condition k) ≡ true → witness S c ≡ false
unfolding views_of seen_as
faulty_slot S F c k h = (faulty_card (witness S c) _ h).card

pub donor_card : (S : Setting) (F : Cluster) (k : ℕ) → Donated S (views_of S F) k → witness S (donor S (views_of S F) k) ≡ false
unfolding views_of seen_as
donor_card S F k d = (whole_card (witness S (donor S (views_of S F) k)) _ d.whole).card

leader_cards : (S : Setting) (F : Cluster) (c k d : ℕ) → ReadyPlan S (views_of S F) → LeaderDue S F (store_entry c k d) → Cards S c d
leader_cards S F c k d r (leader_fetch j h full e) = record { to = r.card; from = donor_card S F k (fetch_facts S (views_of S F) k e) }

follower_cards : (S : Setting) (F : Cluster) (c k d : ℕ) → ReadyPlan S (views_of S F) → FollowerDue S F (store_entry c k d) → Cards S c d
follower_cards S F c k d r (follower_mend c' ld cn an full j h e) = record { to = faulty_slot S F c k e; from = r.card }
follower_cards S F c k d r (follower_fill c' ld cn an full h e) = record { to = unlike_card S F c e; from = r.card }

pub due_cards : (S : Setting) (F : Cluster) (c k d : ℕ) → ReadyPlan S (views_of S F) → Due S F (store_entry c k d) → Cards S c d
due_cards S F c k d r (by_leader e u) = leader_cards S F c k d r u
due_cards S F c k d r (by_follower e f u) = follower_cards S F c k d r u

pub record SomeEntry (S : Setting) (F : Cluster) (k e : ℕ) : Type 0 where
  pub from : ℕ
  pub card : witness S from ≡ false
  pub there : IntactAt e ((F from).entries k)

lost_entry : (S : Setting) (F : Cluster) (c k : ℕ) → is_record_lost ((views_of S F c).condition k) ≡ true → SomeEntry S F k ((views_of S F c).epoch k)
unfolding views_of seen_as view_of condition_at epoch_at
lost_entry S F c k h = record { from = c; card = (lost_card (witness S c) (condition_at (F c) k) h).card; there = whole_intact ((F c).records k) ((F c).entries k) (lost_whole (condition ((F c).records k) ((F c).entries k)) (ap is_record_lost (sym (lost_card (witness S c) (condition_at (F c) k) h).same) ∙ h)) }

leader_epoch : (S : Setting) (F : Cluster) (c k e : ℕ) → LeaderDue S F (store_record c k e) → SomeEntry S F k e
leader_epoch S F c k e (leader_write j h full x) = lost_entry S F S.leader k x

follower_epoch : (S : Setting) (F : Cluster) (c k e : ℕ) → ReadyPlan S (views_of S F) → FollowerDue S F (store_record c k e) → SomeEntry S F k e
follower_epoch S F c k e r (follower_write c' ld cn an full j h x) = lost_entry S F c k x
follower_epoch S F c k e r (follower_append c' ld cn an full h x) = record { from = S.leader; card = r.card; there = leader_entry S F r.card r.leader ld k h }

pub due_epoch : (S : Setting) (F : Cluster) (c k e : ℕ) → ReadyPlan S (views_of S F) → Due S F (store_record c k e) → SomeEntry S F k e
due_epoch S F c k e r (by_leader x u) = leader_epoch S F c k e u
due_epoch S F c k e r (by_follower x f u) = follower_epoch S F c k e r u
