-- What the images and the step come to is computed.
use Prim.Native.Nat.{ℕ, zero, suc, ◌≤◌, ◌<◌}
use mathlib.Core.Path.{◌≡◌, refl, ◌∙◌}
use mathlib.Core.Bool.{false}
use native.Mathlib.Omega.{arith}
use Rattle.search.specs.Search.{lowest, count, sum, one_if}
use Rattle.slices.specs.Parts.{Bytes}
use Rattle.slices.specs.Same.{same}
use Rattle.record.specs.Meaning.{first_index, Record, Entry, intact, broken}
use Rattle.image.specs.Image.{index}
use Rattle.image.specs.View.{epoch_of, epoch_at, is_blank, log_length}
use Rattle.image.proofs.ClusterLaws.{with_header}
use Rattle.planner.specs.Setting.{setting_of}
use Rattle.planner.specs.Rules.{majority}
use Rattle.example.specs.Undamaged.{payload_a}
use Rattle.example_later.specs.Later.{image_from}
use Rattle.example_later.specs.Misheaded.{of_misheaded, misheaded, undamaged_misheaded, misheaded_cluster}
use Rattle.example_later.specs.LaterComputed.{MeansUnder}
use Rattle.example_later.proofs.LaterLaws.{later_computed}
use Rattle.demand3.specs.Supposed.{DamagedSlot, undamaged, entry_bad, Damaged, held, committed}
use Rattle.demand3.specs.Before.{payload_in, payload_at, history_of}
use Rattle.demand3.specs.Claim.{record_in}
use Rattle.demand3.specs.HeaderNeeded.{misheaded_logs, misheaded_images}
use Rattle.demand3.specs.Histories.{written_to, no_flights}
use Rattle.demand3.proofs.ExampleDamage.{paid_from, Alike, agreed}
use Rattle.demand3.proofs.LaterDamage.{rec_under, ent_under}
use Rattle.demand3.proofs.header_needed_claim.Goals as goal

strays : {b : Bytes} (q : Bytes) → broken b ≡ intact 2 q → ⊥
strays q e = let z : ◌≡◌ {A = ℕ} 0 1 = cc in omega arith

-- the one slot of replica c, as it means under index 3
module _ (c : ℕ) (r : Record) (x : Entry) (m : MeansUnder misheaded 3 misheaded_cluster c 0 r x) (d : DamagedSlot 2 payload_a r x) where
  slot : (k : ℕ) → k < 1 → DamagedSlot ((misheaded_logs c).epoch (index (misheaded_logs c).first k)) ((misheaded_logs c).payload (index (misheaded_logs c).first k))
      ((misheaded_images c).records k) ((misheaded_images c).entries k)
  unfolding misheaded_logs misheaded_images misheaded history_of undamaged_misheaded image_from no_flights epoch_at epoch_of payload_in payload_at index first_index
  slot zero h =
      rw (rec_under misheaded misheaded_cluster (λ c. (misheaded_logs c).first) c 0 3 r x refl m, ent_under misheaded misheaded_cluster (λ c. (misheaded_logs c).first) c 0 3 r x refl m) d
  slot (suc k) h = absurd (omega arith)

  image : Damaged 1 (misheaded_logs c) (misheaded_images c)
  unfolding misheaded_logs history_of undamaged_misheaded image_from log_length lowest is_blank
  image = record { fits = omega arith; used = slot; unused = λ h. absurd (omega arith) }

damaged : (c : ℕ) → c < 3 → Damaged 1 (misheaded_logs c) (misheaded_images c)
damaged zero h = image 0 _ _ later_computed.mis_0 (entry_bad strays)
damaged (suc zero) h = image 1 _ _ later_computed.mis_1 undamaged
damaged (suc (suc zero)) h = image 2 _ _ later_computed.mis_2 undamaged
damaged (suc (suc (suc c))) h = absurd (omega arith)

alike : (c : ℕ) → Alike 2 (paid_from 3) (misheaded_logs c)
unfolding misheaded_logs history_of no_flights undamaged_misheaded image_from epoch_at epoch_of log_length lowest is_blank payload_in payload_at written_to index first_index
alike c = record { epochs = epochs; payloads = payloads }
  where
    epochs : (k : ℕ) → k < 1 → (misheaded_logs c).epoch (index 3 k) ≡ 2
    epochs zero l = refl
    epochs (suc k) l = absurd (omega arith)

    payloads : (k : ℕ) → k < 1 → (misheaded_logs c).payload (index 3 k) ≡ paid_from 3 (index 3 k)
    payloads zero l = refl
    payloads (suc k) l = absurd (omega arith)

many : majority 3 ≤ count (λ c. committed false 3 2 payload_a (misheaded_logs c)) 3
unfolding majority count sum one_if committed held misheaded_logs history_of undamaged_misheaded image_from no_flights epoch_at epoch_of log_length lowest is_blank payload_in payload_at payload_a same first_index
many = omega arith

pub returns : goal.returns
unfolding misheaded setting_of record_in misheaded_images held misheaded_logs history_of undamaged_misheaded image_from no_flights epoch_at epoch_of log_length lowest is_blank first_index
returns c =
    record {
      accepted = later_computed.mis_accepted;
      damaged = damaged;
      agree = agreed 3 2 (paid_from 3) misheaded_logs (λ c h. alike c);
      on_majority = many;
      leader_held = refl;
      header = with_header of_misheaded (λ c. (misheaded_logs c).first) misheaded_cluster 0 ∙ later_computed.mis_header;
      before = later_computed.mis_before;
      after = later_computed.mis_after;
    }
