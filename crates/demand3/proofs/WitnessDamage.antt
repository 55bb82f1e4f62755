-- The clusters with witnesses stood as demand 3 supposes before their damage, and the damage is of the kind that it supposes.
use Prim.Native.Nat.{ℕ, zero, suc, ◌+◌, ◌-◌, ◌≤◌, ◌<◌}
use mathlib.Core.Path.{◌≡◌, refl, sym, ◌∙◌}
use mathlib.Core.Bool.{Bool, true, false, ◌||◌, true≢false}
use mathlib.Core.List.{[], ◌∷◌}
use native.Mathlib.Omega.{arith}
use Rattle.search.specs.Sets.{has}
use Rattle.search.specs.Search.{lowest, count, sum, one_if}
use Rattle.slices.specs.Parts.{Bytes}
use Rattle.slices.specs.Same.{same}
use Rattle.record.specs.declared.Shape.{Shape}
use Rattle.record.specs.Layout.{is_witness}
use Rattle.record.specs.Meaning.{proper, first_index, good, Record, Entry}
use Rattle.image.specs.Image.{Image, index}
use Rattle.image.specs.Cluster.{decode, decode_with}
use Rattle.image.proofs.ClusterLaws.{with_one_lem}
use Rattle.image.specs.View.{epoch_of, epoch_at, is_blank, log_length}
use Rattle.planner.specs.Setting.{Setting, setting_of, witness}
use Rattle.planner.specs.Rules.{majority}
use Rattle.protocol.specs.Call.{named}
use Rattle.example.specs.Undamaged.{payload_a, image_with, empty_image, image_a}
use Rattle.witnessed.specs.Boxes.{box_with}
use Rattle.witnessed.specs.Kept.{of_kept, undamaged_kept, kept_cluster}
use Rattle.witnessed.specs.Alone.{of_alone, alone, undamaged_alone, alone_cluster}
use Rattle.witnessed.specs.Computed.{ImageIs}
use Rattle.witnessed.proofs.ComputedLaws.{kept_computed, alone_computed}
use Rattle.demand3.specs.Supposed.{History, Within, Agree, held, committed}
use Rattle.demand3.specs.Before.{Flight, FlightSlot, record_alone, Before, GoodRecord, WitnessBefore, BeforeAs, card_before, witness_before, is_good, SlotDamage, spared, entry_damaged, RecordDamage, record_spared, header_spared, Damage, WitnessDamage, DamageAs, card_damage, witness_damage, payload_in, payload_at, history_of, firsts_of, DamagedCluster}
use Rattle.demand3.specs.Histories.{written_to, no_flights}
use Rattle.demand3.specs.WitnessPlayed.{flights_alone}
use Rattle.demand3.proofs.ExampleDamage.{noisy, one_slot, paid_from, Alike}
use Rattle.demand3.proofs.EvenDamage.{before_either, alike_either}

-- ---- a witness's image

one_good : (k : ℕ) → k < 1 → GoodRecord ((box_with (good 2 ∷ [])).records k)
unfolding box_with
one_good zero h = is_good
one_good (suc k) h = absurd (omega arith)

box_before : WitnessBefore 1 (box_with (good 2 ∷ []))
unfolding box_with log_length lowest is_blank
box_before = record { records = one_good }

empty_before : WitnessBefore 1 (box_with [])
unfolding box_with log_length lowest is_blank
empty_before = record { records = λ k h. absurd (omega arith) }

one_record : (i j : Image) → RecordDamage (i.records 0) (j.records 0) → (k : ℕ) → k < 1 → RecordDamage (i.records k) (j.records k)
one_record i j d zero h = d
one_record i j d (suc k) h = absurd (omega arith)

-- ---- logs of one epoch agree, cards in what was written too

pub record Under (e : ℕ) (h : History) : Type 0 where
  pub epochs : (k : ℕ) → k < h.length → h.epoch (index h.first k) ≡ e

module _ (e : ℕ) (h : History) (i j : ℕ) (w : Within i h) (low : h.first ≤ j) (up : j ≤ i) where
  at : index h.first (j - h.first) ≡ j
  unfolding index
  at = omega arith

  below : j - h.first < h.length
  below = omega (arith, w.high)

  epoch_at_lem : Under e h → h.epoch j ≡ e
  epoch_at_lem a = rw at at (a.epochs (j - h.first) below)

  payload_at_lem : (paid : ℕ → Bytes) → Alike e paid h → h.payload j ≡ paid j
  payload_at_lem paid a = rw at at (a.payloads (j - h.first) below)

module _ (S : Setting) (e : ℕ) (paid : ℕ → Bytes) (H : ℕ → History) (under : (c : ℕ) → c < S.shape.n → Under e (H c))
    (alike : (c : ℕ) → c < S.shape.n → witness S c ≡ false → Alike e paid (H c)) where
  cards : (c d : ℕ) → (witness S c || witness S d) ≡ false → (witness S c ≡ false) × (witness S d ≡ false)
  cards c d = go (witness S c) (witness S d)
    where
      go : (x y : Bool) → (x || y) ≡ false → (x ≡ false) × (y ≡ false)
      go true y h = absurd (true≢false h)
      go false y h = (refl, h)

  agreed : Agree S H
  unfolding Agree
  agreed c d i cn dn h g x = record {
    epochs = λ j a b u. epoch_at_lem e (H c) i j h a u (under c cn) ∙ sym (epoch_at_lem e (H d) i j g b u (under d dn));
    payloads = λ both j a b u.
        payload_at_lem e (H c) i j h a u paid (alike c cn (cards c d both).0) ∙ sym (payload_at_lem e (H d) i j g b u paid (alike d dn (cards c d both).1));
  }

card_under : {e : ℕ} {paid : ℕ → Bytes} {h : History} → Alike e paid h → Under e h
card_under a = record { epochs = a.epochs }

box_under : (f : Flight) → Under 2 (history_of 1 f (box_with (good 2 ∷ [])))
unfolding history_of box_with epoch_at epoch_of log_length lowest is_blank index first_index
box_under f = record { epochs = go }
  where
    go : (k : ℕ) → k < 1 → (history_of 1 f (box_with (good 2 ∷ []))).epoch (1 + k) ≡ 2
    go zero h = refl
    go (suc k) h = absurd (omega arith)

empty_under : (f : Flight) → Under 2 (history_of 1 f (box_with []))
unfolding history_of box_with log_length lowest is_blank
empty_under f = record { epochs = λ k h. absurd (omega arith) }

-- ---- three cards and two witnesses

keeps : ℕ → Bool
keeps c = has 24 c

before_kept : (c : ℕ) → c < 5 → BeforeAs 1 (no_flights c) (undamaged_kept c) (keeps c)
unfolding undamaged_kept keeps has
before_kept zero h = card_before (before_either 0 true)
before_kept (suc zero) h = card_before (before_either 1 false)
before_kept (suc (suc zero)) h = card_before (before_either 2 true)
before_kept (suc (suc (suc zero))) h = witness_before box_before
before_kept (suc (suc (suc (suc zero)))) h = witness_before empty_before
before_kept (suc (suc (suc (suc (suc c))))) h = absurd (omega arith)

card_damage_lem : (i : Image) {Z : Shape} {b : Bytes} {c : ℕ} {r : Record} {x : Entry} → ImageIs Z b c r x → i.header ≡ proper 1 → SlotDamage (i.records 0) (i.entries 0) r x
    → Damage 1 i (decode Z b c)
card_damage_lem i {Z} {b} {c} m h d = record {
  header = rw (h, m.header) header_spared;
  slots = one_slot i (decode Z b c) (rw (m.rec, m.ent) d);
}

box_damage : (i : Image) {Z : Shape} {b : Bytes} {c : ℕ} {r : Record} {x : Entry} → ImageIs Z b c r x → i.header ≡ proper 1 → i.records 0 ≡ r
    → WitnessDamage 1 i (decode Z b c)
box_damage i {Z} {b} {c} m h d = record {
  header = rw (h, m.header) header_spared;
  records = one_record i (decode Z b c) (rw (d, m.rec) record_spared);
}

damage_kept : (c : ℕ) → c < 5 → DamageAs 1 (undamaged_kept c) (decode of_kept kept_cluster c) (keeps c)
unfolding undamaged_kept keeps has image_a empty_image image_with box_with
damage_kept zero h = card_damage (card_damage_lem image_a kept_computed.image_0 refl (entry_damaged noisy))
damage_kept (suc zero) h = card_damage (card_damage_lem empty_image kept_computed.image_1 refl spared)
damage_kept (suc (suc zero)) h = card_damage (card_damage_lem image_a kept_computed.image_2 refl spared)
damage_kept (suc (suc (suc zero))) h = witness_damage (box_damage (box_with (good 2 ∷ [])) kept_computed.image_3 refl refl)
damage_kept (suc (suc (suc (suc zero)))) h = witness_damage (box_damage (box_with []) kept_computed.image_4 refl refl)
damage_kept (suc (suc (suc (suc (suc c))))) h = absurd (omega arith)

unfoldable histories_kept : ℕ → History
histories_kept c = history_of 1 (no_flights c) (undamaged_kept c)

under_kept : (c : ℕ) → c < 5 → Under 2 (histories_kept c)
unfolding histories_kept undamaged_kept
under_kept zero h = card_under (alike_either 0 true)
under_kept (suc zero) h = card_under (alike_either 1 false)
under_kept (suc (suc zero)) h = card_under (alike_either 2 true)
under_kept (suc (suc (suc zero))) h = box_under (no_flights 3)
under_kept (suc (suc (suc (suc zero)))) h = empty_under (no_flights 4)
under_kept (suc (suc (suc (suc (suc c))))) h = absurd (omega arith)

alike_kept : (c : ℕ) → c < 5 → keeps c ≡ false → Alike 2 (paid_from 1) (histories_kept c)
unfolding histories_kept undamaged_kept keeps has
alike_kept zero h w = alike_either 0 true
alike_kept (suc zero) h w = alike_either 1 false
alike_kept (suc (suc zero)) h w = alike_either 2 true
alike_kept (suc (suc (suc zero))) h w = absurd (true≢false w)
alike_kept (suc (suc (suc (suc zero)))) h w = absurd (true≢false w)
alike_kept (suc (suc (suc (suc (suc c))))) h w = absurd (omega arith)

firsts_kept : (c : ℕ) → firsts_of undamaged_kept c ≡ 1
unfolding undamaged_kept image_a empty_image image_with box_with first_index
firsts_kept zero = refl
firsts_kept (suc zero) = refl
firsts_kept (suc (suc zero)) = refl
firsts_kept (suc (suc (suc zero))) = refl
firsts_kept (suc (suc (suc (suc c)))) = refl

-- whoever is present
module _ (present : ℕ) where
  abbrev S : Setting
  S = setting_of of_kept 1 present

  pub damaged_kept : DamagedCluster S undamaged_kept no_flights (decode_with of_kept (firsts_of undamaged_kept) kept_cluster) 1 2 payload_a
  unfolding setting_of is_witness keeps has majority histories_kept count sum one_if committed held history_of undamaged_kept image_a empty_image image_with box_with no_flights epoch_at epoch_of log_length lowest is_blank payload_in payload_at payload_a same first_index
  damaged_kept = record {
    before = before_kept;
    damage = λ c h. rw (with_one_lem of_kept (firsts_of undamaged_kept) kept_cluster c refl (firsts_kept c)) (damage_kept c h);
    agree = agreed S 2 (paid_from 1) histories_kept under_kept alike_kept;
    on_majority = omega arith;
    on_card = record { replica = 0; below = omega arith; card = refl; there = refl; payload = refl };
    leader_held = refl;
  }

-- ---- one card and two witnesses

boxed : ℕ → Bool
boxed c = has 6 c

-- A in flight: its record is there without its entry
flying_alone : (k : ℕ) → k < 1 → FlightSlot (written_to k) ((undamaged_alone 0).records k) ((undamaged_alone 0).entries k)
unfolding undamaged_alone image_with
flying_alone zero h = record_alone noisy
flying_alone (suc k) h = absurd (omega arith)

torn_before : Before 1 (flights_alone 0) (undamaged_alone 0)
unfolding flights_alone undamaged_alone image_with log_length lowest is_blank
torn_before = record { stored = λ k l e. absurd (true≢false e); flying = λ k l e. flying_alone k l }

before_alone : (c : ℕ) → c < 3 → BeforeAs 1 (flights_alone c) (undamaged_alone c) (boxed c)
unfolding undamaged_alone boxed has
before_alone zero h = card_before torn_before
before_alone (suc zero) h = witness_before box_before
before_alone (suc (suc zero)) h = witness_before box_before
before_alone (suc (suc (suc c))) h = absurd (omega arith)

damage_alone : (c : ℕ) → c < 3 → DamageAs 1 (undamaged_alone c) (decode of_alone alone_cluster c) (boxed c)
unfolding undamaged_alone boxed has image_with box_with
damage_alone zero h = card_damage (card_damage_lem (undamaged_alone 0) alone_computed.image_0 refl spared)
damage_alone (suc zero) h = witness_damage (box_damage (box_with (good 2 ∷ [])) alone_computed.image_1 refl refl)
damage_alone (suc (suc zero)) h = witness_damage (box_damage (box_with (good 2 ∷ [])) alone_computed.image_2 refl refl)
damage_alone (suc (suc (suc c))) h = absurd (omega arith)

unfoldable histories_alone : ℕ → History
histories_alone c = history_of 1 (flights_alone c) (undamaged_alone c)

alike_first : Alike 2 (paid_from 1) (histories_alone 0)
unfolding histories_alone history_of flights_alone undamaged_alone image_with epoch_at epoch_of log_length lowest is_blank payload_at written_to index first_index
alike_first = record { epochs = epochs; payloads = payloads }
  where
    epochs : (k : ℕ) → k < 1 → (histories_alone 0).epoch (index 1 k) ≡ 2
    epochs zero h = refl
    epochs (suc k) h = absurd (omega arith)

    payloads : (k : ℕ) → k < 1 → (histories_alone 0).payload (index 1 k) ≡ paid_from 1 (index 1 k)
    payloads zero h = refl
    payloads (suc k) h = absurd (omega arith)

under_alone : (c : ℕ) → c < 3 → Under 2 (histories_alone c)
unfolding histories_alone undamaged_alone
under_alone zero h = card_under alike_first
under_alone (suc c) h = box_under (flights_alone (suc c))

alike_alone : (c : ℕ) → c < 3 → boxed c ≡ false → Alike 2 (paid_from 1) (histories_alone c)
unfolding boxed has
alike_alone zero h w = alike_first
alike_alone (suc zero) h w = absurd (true≢false w)
alike_alone (suc (suc zero)) h w = absurd (true≢false w)
alike_alone (suc (suc (suc c))) h w = absurd (omega arith)

firsts_alone : (c : ℕ) → firsts_of undamaged_alone c ≡ 1
unfolding undamaged_alone image_with box_with first_index
firsts_alone zero = refl
firsts_alone (suc c) = refl

pub damaged_alone : DamagedCluster (named alone) undamaged_alone flights_alone (decode_with of_alone (firsts_of undamaged_alone) alone_cluster) 1 2 payload_a
unfolding alone setting_of is_witness boxed has majority histories_alone count sum one_if committed held history_of undamaged_alone image_with box_with flights_alone epoch_at epoch_of log_length lowest is_blank payload_in payload_at written_to payload_a same first_index
damaged_alone = record {
  before = before_alone;
  damage = λ c h. rw (with_one_lem of_alone (firsts_of undamaged_alone) alone_cluster c refl (firsts_alone c)) (damage_alone c h);
  agree = agreed (named alone) 2 (paid_from 1) histories_alone under_alone alike_alone;
  on_majority = omega arith;
  on_card = record { replica = 0; below = omega arith; card = refl; there = refl; payload = refl };
  leader_held = refl;
}
