-- A cluster before the damage, damaged, is one with histories.
use Prim.Native.Nat.{ℕ, ◌+◌, ◌-◌, ◌<◌}
use mathlib.Core.Path.{◌≡◌, refl, ap}
use mathlib.Core.Bool.{Bool, true, false, cond}
use mathlib.Core.List.{[]}
use native.Mathlib.Omega.{arith}
use Rattle.slices.specs.Parts.{Bytes}
use Rattle.record.specs.Meaning.{Header, proper, improper, first_index, Record, good, blank, Entry, intact, broken}
use Rattle.image.specs.Image.{Image, index}
use Rattle.image.specs.Cluster.{Cluster}
use Rattle.image.specs.View.{condition_at, epoch_of, epoch_at, log_length}
use Rattle.image.proofs.ViewLaws.{length_le, blank_next}
use Rattle.image.proofs.VerdictLaws.{is_stored}
use Rattle.planner.specs.Setting.{Setting}
use Rattle.demand3.specs.Supposed.{DamagedSlot, undamaged, record_bad, entry_bad, DamagedRecord, record_good, record_spoilt, DamagedHeader, own_header, no_header, Damaged, DamagedWitness, DamagedAs, card_left, witness_left, Supposed}
use Rattle.demand3.specs.Before.{Flight, FlightSlot, arrived, record_alone, Before, SlotDamage, spared, record_damaged, entry_damaged, unused_damaged, GoodRecord, is_good, WitnessBefore, BeforeAs, card_before, witness_before, RecordDamage, record_spared, WitnessDamage, DamageAs, card_damage, witness_damage, HeaderDamage, header_spared, header_refused, Damage, payload_in, payload_at, history_of, DamagedCluster}
use Rattle.demand3.specs.Before as damaged
use Rattle.protocol.proofs.AtRest.{whole_slot}

-- a slot that was stored is one whose record and entry arrived
stored_slot : (r : Record) (x : Entry) (e : ℕ) (p : Bytes) → r ≡ good e → x ≡ intact e p → FlightSlot (payload_in x) r x
unfolding payload_in
stored_slot r x e p a b = rw (a, b) arrived

-- The damaged slot is named apart from the one in flight, so that an epoch that stands in both is compared and not matched twice.
slot_damaged_as : {r q s : Record} {x w y : Entry} (p : Bytes) → FlightSlot p r x → SlotDamage q w s y → r ≡ q → x ≡ w → DamagedSlot (epoch_of r x) p s y
unfolding epoch_of
slot_damaged_as p arrived spared a b = rw (← a, ← b) undamaged
slot_damaged_as p arrived record_damaged a b = rw (← b) record_bad
slot_damaged_as p (arrived {e}) (entry_damaged {e = f} h) a b =
    let same : e ≡ f = ap (λ (z : Record). epoch_of z (broken [])) a in rw same (entry_bad h)
slot_damaged_as p arrived unused_damaged a b = absurd (let z : ◌≡◌ {A = ℕ} 0 1 = cc in omega arith)
slot_damaged_as p (record_alone h) spared a b = rw (← a, ← b) (entry_bad h)
slot_damaged_as p (record_alone {e} h) (record_damaged {e = f} {p = q}) a b =
    let same : e ≡ f = ap (λ (z : Record). epoch_of z (broken [])) a in absurd (h q (rw same b))
slot_damaged_as p (record_alone {e} h) (entry_damaged {e = f} g) a b =
    let same : e ≡ f = ap (λ (z : Record). epoch_of z (broken [])) a in rw same (entry_bad g)
slot_damaged_as p (record_alone h) unused_damaged a b = absurd (let z : ◌≡◌ {A = ℕ} 0 1 = cc in omega arith)

slot_damaged : {r s : Record} {x y : Entry} (p : Bytes) → FlightSlot p r x → SlotDamage r x s y → DamagedSlot (epoch_of r x) p s y
slot_damaged p f d = slot_damaged_as p f d refl refl

blank_kept : {r s : Record} {x y : Entry} → SlotDamage r x s y → r ≡ blank → s ≡ blank
blank_kept spared e = e
blank_kept record_damaged e = absurd (let z : ◌≡◌ {A = ℕ} 0 1 = cc in omega arith)
blank_kept (entry_damaged h) e = e
blank_kept unused_damaged e = e

-- a witness's slot
record_damaged_lem : {r s : Record} (x : Entry) → GoodRecord r → RecordDamage r s → DamagedRecord (epoch_of r x) s
unfolding epoch_of
record_damaged_lem x is_good record_spared = record_good
record_damaged_lem x is_good damaged.record_spoilt = record_spoilt

record_blank : {r s : Record} → RecordDamage r s → r ≡ blank → s ≡ blank
record_blank record_spared e = e
record_blank damaged.record_spoilt e = absurd (let z : ◌≡◌ {A = ℕ} 0 1 = cc in omega arith)

header_damaged : {h g : Header} → HeaderDamage h g → DamagedHeader (first_index h) g
unfolding first_index
header_damaged {h = proper first} header_spared = own_header
header_damaged {h = improper b} header_spared = no_header
header_damaged header_refused = no_header

-- the slot and its payload
flight_slot : (m : ℕ) (f : Flight) (i : Image) → Before m f i → (k : ℕ) → k < log_length m i → FlightSlot (payload_at f i k) (i.records k) (i.entries k)
unfolding payload_at
flight_slot m f i b k h = go (f.in_flight k) refl
  where
    go : (t : Bool) → f.in_flight k ≡ t → FlightSlot (cond t (f.payload k) (payload_in (i.entries k))) (i.records k) (i.entries k)
    go true e = b.flying k h e
    go false e =
        let w = whole_slot (i.records k) (i.entries k) (unfold condition_at in is_stored m i k (b.stored k h e)) in
        stored_slot (i.records k) (i.entries k) (epoch_of (i.records k) (i.entries k)) w.payload w.rec w.ent

-- the slot of an index
index_slot : (i : Image) (k : ℕ) → first_index i.header + k - first_index i.header ≡ k
index_slot i k = omega arith

card_damaged : (m : ℕ) (f : Flight) (i j : Image) → Before m f i → Damage m i j → Damaged m (history_of m f i) j
unfolding history_of epoch_at index
card_damaged m f i j b d = record {
  fits = length_le m i;
  used = λ k h. rw (index_slot i k) (slot_damaged (payload_at f i k) (flight_slot m f i b k h) (d.slots k (omega (arith, length_le m i))));
  unused = λ h. blank_kept (d.slots (log_length m i) h) (blank_next m i h);
}

witness_damaged : (m : ℕ) (f : Flight) (i j : Image) → WitnessBefore m i → WitnessDamage m i j → DamagedWitness m (history_of m f i) j
unfolding history_of epoch_at index
witness_damaged m f i j b d = record {
  fits = length_le m i;
  used = λ k h. rw (index_slot i k) (record_damaged_lem (i.entries k) (b.records k h) (d.records k (omega (arith, length_le m i))));
  unused = λ h. record_blank (d.records (log_length m i) h) (blank_next m i h);
}

history_damaged : {w : Bool} (m : ℕ) (f : Flight) (i j : Image) → BeforeAs m f i w → DamageAs m i j w → DamagedAs m (history_of m f i) j w
history_damaged m f i j (card_before b) (card_damage d) = card_left (card_damaged m f i j b d)
history_damaged m f i j (witness_before b) (witness_damage d) = witness_left (witness_damaged m f i j b d)

damage_header : {w : Bool} {m : ℕ} {i j : Image} → DamageAs m i j w → HeaderDamage i.header j.header
damage_header (card_damage d) = d.header
damage_header (witness_damage d) = d.header

pub damaged_cluster_lem : (S : Setting) (F : Cluster) (f : ℕ → Flight) (G : Cluster) (j e : ℕ) (p : Bytes) → DamagedCluster S F f G j e p → Supposed S G (λ c. history_of S.shape.m (f c) (F c)) j e p
damaged_cluster_lem S F f G j e p s = record {
  headers = λ c cn. unfold history_of in header_damaged (damage_header (s.damage c cn));
  damaged = λ c cn. history_damaged S.shape.m (f c) (F c) (G c) (s.before c cn) (s.damage c cn);
  agree = s.agree;
  on_majority = s.on_majority;
  on_card = s.on_card;
  leader_held = s.leader_held;
}
