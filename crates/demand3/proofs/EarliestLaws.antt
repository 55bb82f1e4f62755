-- The clusters of the table in `starred` stood as demand 3 supposes, with A on all but the don't-haves; what they mean is computed there.
use Prim.Native.Nat.{ℕ, ◌+◌, ◌≤◌, ◌<◌}
use mathlib.Core.Path.{◌≡◌, refl}
use mathlib.Core.Bool.{Bool, true, false, cond, ◌||◌}
use mathlib.Core.List.{[], ◌∷◌}
use native.Mathlib.Omega.{arith}
use lib.Dec.{eqb, ltb}
use borrow.Author.Tests.{leb-true, le-ltb}
use Rattle.search.specs.Search.{lowest, count}
use Rattle.search.proofs.CountLaws.{count_cong}
use Rattle.search.proofs.ListedLaws.{listed_at}
use Rattle.slices.specs.Parts.{Bytes}
use Rattle.slices.specs.Same.{same}
use Rattle.record.specs.Layout.{fresh_entry}
use Rattle.record.specs.Meaning.{proper, first_index, good, blank, intact, broken}
use Rattle.image.specs.Cluster.{decode, decode_with}
use Rattle.image.proofs.ClusterLaws.{with_one_lem}
use Rattle.image.specs.View.{is_size, epoch_of, epoch_at, is_blank, log_length}
use Rattle.image.proofs.CallLaws.{size_low, size_high}
use Rattle.planner.specs.Setting.{setting_of}
use Rattle.planner.specs.Rules.{majority, may_truncate}
use Rattle.planner.proofs.MajorityLaws.{too_few}
use Rattle.protocol.specs.Call.{named}
use Rattle.example.specs.Undamaged.{payload_a, image_with, empty_image, image_a}
use Rattle.starred.specs.Cards.{with_one, noise}
use Rattle.starred.specs.Sizes.{asked, cards}
use Rattle.starred.proofs.ComputedLaws.{computed}
use Rattle.starred.proofs.SeenLaws.{over, holds, record_of, entry_of, over_at}
use Rattle.demand3.specs.Supposed.{held, committed}
use Rattle.demand3.specs.Before.{SlotDamage, spared, entry_damaged, HeaderDamage, header_spared, Damage, payload_in, payload_at, history_of, firsts_of, DamagedCluster}
use Rattle.demand3.proofs.CardsLaws.{damaged_cards}
use Rattle.demand3.specs.Histories.{no_flights}
use Rattle.demand3.specs.Earliest.{rule_by, undamaged_but, TruncatesCommitted}
use Rattle.demand3.proofs.ExampleDamage.{one_slot, paid_from, agreed}
use Rattle.demand3.proofs.EvenDamage.{before_either, alike_either, first_either}

-- ---- one replica: it leads or not, and it has A or not

-- the leader's entry became noise, and no other changed
slot_damage : (leads has : Bool)
    → SlotDamage ((cond (leads || has) image_a empty_image).records 0) ((cond (leads || has) image_a empty_image).entries 0)
    (cond (leads || has) (good 2) blank) (cond leads (broken noise) (cond has (intact 2 (65 ∷ [])) (broken fresh_entry)))
unfolding image_a empty_image image_with payload_a
slot_damage true has = entry_damaged noisy
  where
    noisy : (q : Bytes) → broken noise ≡ intact 2 q → ⊥
    noisy q e = let z : ◌≡◌ {A = ℕ} 0 1 = cc in omega arith
slot_damage false true = spared
slot_damage false false = spared

header_damage : (t : Bool) → HeaderDamage (cond t image_a empty_image).header (proper 1)
unfolding image_a empty_image image_with
header_damage true = header_spared
header_damage false = header_spared

committed_is : (c : ℕ) (t : Bool) → committed false 1 2 payload_a (history_of 1 (no_flights c) (cond t image_a empty_image)) ≡ t
unfolding committed held history_of image_a empty_image image_with no_flights epoch_at epoch_of log_length lowest is_blank payload_in payload_at payload_a same first_index
committed_is c true = refl
committed_is c false = refl

leader_held_lem : held 1 2 (history_of 1 (no_flights 0) image_a) ≡ true
unfolding held history_of image_a image_with epoch_at epoch_of log_length lowest is_blank first_index
leader_held_lem = refl

-- ---- the clusters

module _ (n d : ℕ) (low : 3 ≤ n) (high : n ≤ 7) (few : majority n + d ≤ n) where
  seen : {A : Type 0} (f g : ℕ → ℕ → A) → over f ≡ over g → f n d ≡ g n d
  seen f g e = over_at f g e n d low high few

  damage_but : (c : ℕ) → c < n → Damage 1 (undamaged_but d c) (decode (with_one n) (cards n d) c)
  unfolding undamaged_but record_of entry_of
  damage_but c h =
      let header = listed_at n _ _ (seen _ _ computed.2.headers) c h in
      let rec = listed_at n _ _ (seen _ _ computed.2.records) c h in
      let ent = listed_at n _ _ (seen _ _ computed.2.entries) c h in
      record {
        header = rw header (header_damage (holds d c));
        slots = one_slot (undamaged_but d c) (decode (with_one n) (cards n d) c) (rw (rec, ent) (slot_damage (eqb c 0) (ltb d c)));
      }

  damaged_but : DamagedCluster (named (asked n d)) (undamaged_but d) no_flights (decode_with (with_one n) (firsts_of (undamaged_but d)) (cards n d)) 1 2 payload_a
  unfolding setting_of undamaged_but
  damaged_but = damaged_cards (named (asked n d)) refl (undamaged_but d) no_flights (decode_with (with_one n) (firsts_of (undamaged_but d)) (cards n d)) 1 2 payload_a (record {
    before = λ c h. before_either c (holds d c);
    damage = λ c h. rw (with_one_lem (with_one n) (firsts_of (undamaged_but d)) (cards n d) c refl (first_either (holds d c))) (damage_but c h);
    agree = agreed n 2 (paid_from 1) _ (λ c h. alike_either c (holds d c));
    on_majority =
        rw (count_cong (λ c. committed false 1 2 payload_a (history_of 1 (no_flights c) (undamaged_but d c))) (holds d) n (λ c h. committed_is c (holds d c)))
        (leb-true (majority n) (count (holds d) n) (seen _ _ computed.2.holders));
    leader_held = leader_held_lem;
  })

  truncates_committed : (test : ℕ → ℕ → Bool) → test n d ≡ true → TruncatesCommitted test n d
  unfolding rule_by setting_of
  truncates_committed test e = record {
    accepted = seen _ _ computed.2.accepted;
    committed = damaged_but;
    lacking = seen _ _ computed.2.lacking;
    waits = seen _ _ computed.2.waits;
    truncated =
        rw (seen _ _ computed.2.faulty, seen _ _ computed.2.donors, le-ltb n n (omega arith), seen _ _ computed.2.lacking, e) refl;
  }

pub earlier : (test : ℕ → ℕ → Bool) (n d : ℕ) → is_size n ≡ true → may_truncate n d ≡ false → test n d ≡ true → TruncatesCommitted test n d
earlier test n d sized waits e = truncates_committed n d (size_low n sized) (size_high n sized) (too_few n d waits) test e
