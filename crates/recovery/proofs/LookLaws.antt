-- What is found in a survey's numbers is what is seen of the replicas.
use Prim.Native.Nat.{ℕ, suc, ◌+◌, ◌*◌, ◌≤◌, ◌<◌}
use mathlib.Core.Path.{◌≡◌, refl, ◌∙◌}
use mathlib.Core.Bool.{Bool, true, not, ◌&&◌}
use mathlib.Core.List.{List}
use native.Mathlib.Omega.{arith}
use lib.Dec.{eqb, ltb}
use lib.ListN.{get_or}
use borrow.Author.Tests.{lt-ltb, le-ltb}
use Rattle.search.specs.Search.{lowest}
use Rattle.search.proofs.SearchLaws.{lowest_le, lowest_passes, lowest_cong}
use Rattle.image.specs.View.{View}
use Rattle.image.specs.declared.condition.Condition.{Condition}
use Rattle.image.specs.declared.condition.Condition.TheVariants.{Unused, Whole, RecordLost, Faulty, Lost, RecordOnly}
use Rattle.image.specs.View.{condition_number}
use Rattle.image.proofs.ScannedLaws.{taken_at}
use Rattle.planner.specs.Setting.{Setting}
use Rattle.planner.proofs.RuleLaws.{end_le}
use Rattle.planner.specs.Rules.{is_faulty, is_record_lost, Rule, Keep, Fetch, Truncate, Wait, is_fetch, rule, donor, end}
use Rattle.planner.specs.Plan.{kept_byte, rule_byte, plan_byte, plan_bytes}
use Rattle.planner.specs.Survey.{Planned}
use Rattle.protocol.specs.Recovery.{differs, first_differing}
use Rattle.recovery.specs.Look.{Looked}

-- ---- conditions by number

lost_number : (a : Condition) → eqb (condition_number a) 2 ≡ is_record_lost a
unfolding is_record_lost
lost_number Unused = refl
lost_number Whole = refl
lost_number RecordLost = refl
lost_number Faulty = refl
lost_number Lost = refl
lost_number RecordOnly = refl

faulty_number : (a : Condition) → eqb (condition_number a) 3 ≡ is_faulty a
unfolding is_faulty
faulty_number Unused = refl
faulty_number Whole = refl
faulty_number RecordLost = refl
faulty_number Faulty = refl
faulty_number Lost = refl
faulty_number RecordOnly = refl

module _ {m : ℕ} {v : View} {c length : ℕ} {conditions epochs : List ℕ} (s : Looked m v c length conditions epochs) where
  pub lost_found : (b : ℕ) → b ≤ m → lowest (λ k. eqb (get_or conditions (c * 64 + k) 0) 2) b ≡ lowest (λ k. is_record_lost (v.condition k)) b
  lost_found b h =
      lowest_cong (λ k. eqb (get_or conditions (c * 64 + k) 0) 2) (λ k. is_record_lost (v.condition k)) b
      (λ k l. rw (s.condition_is k (omega arith)) (lost_number (v.condition k)))

  pub faulty_found : (b : ℕ) → b ≤ m → lowest (λ k. eqb (get_or conditions (c * 64 + k) 0) 3) b ≡ lowest (λ k. is_faulty (v.condition k)) b
  faulty_found b h =
      lowest_cong (λ k. eqb (get_or conditions (c * 64 + k) 0) 3) (λ k. is_faulty (v.condition k)) b
      (λ k l. rw (s.condition_is k (omega arith)) (faulty_number (v.condition k)))

-- ---- the plan bytes below the end

fetch_byte : (r : Rule) (a : Condition) (d : ℕ) → ltb 10 (rule_byte r a d) ≡ is_fetch r
unfolding rule_byte kept_byte is_fetch
fetch_byte Keep Unused d = refl
fetch_byte Keep Whole d = refl
fetch_byte Keep RecordLost d = refl
fetch_byte Keep Faulty d = refl
fetch_byte Keep Lost d = refl
fetch_byte Keep RecordOnly d = refl
fetch_byte Fetch a d = lt-ltb 10 (10 + suc d) (omega arith)
fetch_byte Truncate a d = refl
fetch_byte Wait a d = refl

donor_byte : (r : Rule) (a : Condition) (d : ℕ) → is_fetch r ≡ true → rule_byte r a d ≡ 11 + d
unfolding rule_byte is_fetch
donor_byte Keep a d e = absurd (let z : ◌≡◌ {A = ℕ} 0 1 = cc in omega arith)
donor_byte Fetch a d e = omega arith
donor_byte Truncate a d e = absurd (let z : ◌≡◌ {A = ℕ} 0 1 = cc in omega arith)
donor_byte Wait a d e = absurd (let z : ◌≡◌ {A = ℕ} 0 1 = cc in omega arith)

module _ (S : Setting) (W : ℕ → View) where
  module _ {bytes : List ℕ} {final waiting : ℕ} (p : Planned S W bytes final waiting) (fits : (W S.leader).length ≤ S.shape.m) where
    byte_at : (k : ℕ) → k < end S W → get_or bytes k 0 ≡ rule_byte (rule S W k) ((W S.leader).condition k) (donor S W k)
    unfolding plan_bytes plan_byte
    byte_at k h =
        let l = end_le S W in
        taken_at S.shape.m (plan_byte S W) bytes 0 p.bytes_are k (omega arith)
        ∙ rw (lt-ltb k (W S.leader).length (omega arith), le-ltb (end S W) k (omega arith))

    pub fetch_found : lowest (λ k. ltb 10 (get_or bytes k 0)) (end S W) ≡ lowest (λ k. is_fetch (rule S W k)) (end S W)
    fetch_found =
        lowest_cong (λ k. ltb 10 (get_or bytes k 0)) (λ k. is_fetch (rule S W k)) (end S W)
        (λ k h. rw (byte_at k h) (fetch_byte (rule S W k) ((W S.leader).condition k) (donor S W k)))

    pub donor_found : (k : ℕ) → k < end S W → is_fetch (rule S W k) ≡ true → get_or bytes k 0 ≡ 11 + donor S W k
    donor_found k h e = byte_at k h ∙ donor_byte (rule S W k) ((W S.leader).condition k) (donor S W k) e

  pub differing_found : {m c leader limit length : ℕ} {conditions epochs : List ℕ} → S.leader ≡ leader
      → Looked m (W leader) leader limit conditions epochs → Looked m (W c) c length conditions epochs
      → lowest (λ k. not (ltb k limit && eqb (get_or epochs (c * 64 + k) 0) (get_or epochs (leader * 64 + k) 0))) length ≡ first_differing S W c
  unfolding first_differing differs
  differing_found {m} {c} {leader} {limit} {length} {conditions} {epochs} e x y =
      rw (e, x.length_is, y.length_is)
      (lowest_cong (λ k. not (ltb k (W leader).length && eqb (get_or epochs (c * 64 + k) 0) (get_or epochs (leader * 64 + k) 0)))
      (λ k. not (ltb k (W leader).length && eqb ((W c).epoch k) ((W leader).epoch k))) (W c).length
      (λ k h. let f = y.log_fits in rw (x.epoch_is k (omega arith), y.epoch_is k (omega arith))))

-- ---- what a search found

module _ (p : ℕ → Bool) (b : ℕ) {f : ℕ} (e : f ≡ lowest p b) where
  pub found_within : f ≤ b
  found_within = rw e (lowest_le p b)

  pub found_passes : f < b → p f ≡ true
  found_passes h = rw e (lowest_passes p b (rw e at h))
