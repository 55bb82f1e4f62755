-- The premises of mending are computed; the rest follows from part B.
use Prim.Native.Nat.{ℕ, zero, suc, ◌<◌}
use mathlib.Core.Path.{◌≡◌}
use mathlib.Core.Bool.{true}
use mathlib.Core.List.{[]}
use native.Mathlib.Omega.{arith}
use Rattle.search.specs.Sets.{has}
use Rattle.planner.specs.Setting.{setting_of}
use Rattle.protocol.specs.CallResult.{is_spent}
use Rattle.example.specs.Undamaged.{payload_a}
use Rattle.witnessed.specs.Kept.{kept_away, kept_all, undamaged_kept, kept_cluster}
use Rattle.witnessed.proofs.ComputedLaws.{kept_computed}
use Rattle.demand3.specs.CallList.{finished}
use Rattle.demand3.specs.Claim.{readable}
use Rattle.demand3.specs.Histories.{no_flights}
use Rattle.demand3.proofs.WitnessDamage.{damaged_kept}
use Rattle.demand3.proofs.PartB.{part_b_whole}
use Rattle.demand3.proofs.witness_exhibit_claim.Goals as goal

-- all five are present and readable
readable_kept : (c : ℕ) → c < 5 → readable kept_all kept_cluster c ≡ true
unfolding readable has kept_all
readable_kept zero h = rw kept_computed.image_0.reads
readable_kept (suc zero) h = rw kept_computed.image_1.reads
readable_kept (suc (suc zero)) h = rw kept_computed.image_2.reads
readable_kept (suc (suc (suc zero))) h = rw kept_computed.image_3.reads
readable_kept (suc (suc (suc (suc zero)))) h = rw kept_computed.image_4.reads
readable_kept (suc (suc (suc (suc (suc c))))) h = absurd (omega arith)

pub returns : goal.returns
unfolding kept_away kept_all setting_of
returns c =
    let part = part_b_whole kept_all [] undamaged_kept no_flights kept_cluster kept_cluster 1 2 payload_a (damaged_kept 31) finished in
    record {
      accepted_away = kept_computed.accepted_away;
      damaged_away = damaged_kept 27;
      waits = kept_computed.waits;
      cut_without = kept_computed.cuts;
      accepted = kept_computed.accepted_all;
      damaged = damaged_kept 31;
      is_ready = kept_computed.is_ready;
      whole_run = kept_computed.whole_run;
      mended = λ c h. part.mended 1 15 kept_computed.is_ready (unfold is_spent in rw kept_computed.whole_run) c h (readable_kept c h);
    }
