-- Document 02, request Two: reference places of verdict 6, and of what is not 6. The record's epoch is 2.
use Rattle.std.specs.Prelude.{ℕ, ◌≡◌, false, ◌++◌}
use Rattle.slices.specs.Parts.{Bytes}
use Rattle.record.specs.Layout.{header_bytes, record_bytes, fresh_entry}
use Rattle.image.specs.Image.{decode_image}
use Rattle.image.specs.View.{read_refusal}
use Rattle.image.specs.Verdict.{verdict_at}
use Rattle.image.specs.Read.{has_payload}
use Rattle.planner.specs.Plan.{views_in, plan_byte}
use Rattle.protocol.specs.Call.{plan, named}
use Rattle.protocol.specs.CallResult.{Result, call_result, ready, waiting}
use Rattle.starred.specs.Cards.{with_one, with_two, whole, one, two, has, lacks, five}

-- the refusal and the verdict of slot 1, whose entry is x: the last used one, or with one more behind it
unfoldable pub last : Bytes → ℕ × ℕ
last x = (read_refusal (with_one 3) 1 (one (record_bytes 2 1) x), verdict_at 1 (decode_image (with_one 3) 1 (one (record_bytes 2 1) x)) 0)

unfoldable pub before : Bytes → ℕ × ℕ
before x = (
  read_refusal (with_two 3) 1 (two (record_bytes 2 1) (record_bytes 2 2) x (whole 2 2)),
  verdict_at 2 (decode_image (with_two 3) 1 (two (record_bytes 2 1) (record_bytes 2 2) x (whole 2 2))) 0,
)

-- the image of replica c of five, with one slot: its entry is of epoch 1
unfoldable pub stale : ℕ → Bytes
stale c = header_bytes (with_one 5) c 1 ++ (record_bytes 2 1 ++ whole 1 1)

-- the answer of the planner for such a cluster, with this present set, and the plan byte of the slot
unfoldable pub planned : ℕ → Bytes → Result × ℕ
planned present b = (call_result (five present) (plan 1 5) b, plan_byte (named (five present)) (views_in (named (five present)) b) 0)

pub record StalePlaces : Type 0 where
  -- an intact entry of an earlier epoch: 6, at the last used slot too; of a later one: 6
  pub earlier_last : last (whole 1 1) ≡ (0, 6)
  pub earlier_before : before (whole 1 1) ≡ (0, 6)
  pub later_last : last (whole 3 1) ≡ (0, 6)
  -- an entry that is intact for slot 2 is noise
  pub misplaced_last : last (whole 2 2) ≡ (0, 4)
  pub misplaced_before : before (whole 2 2) ≡ (0, 3)
  -- a write that never arrived on a fresh entry leaves spaces
  pub fresh_last : last fresh_entry ≡ (0, 4)
  pub fresh_before : before fresh_entry ≡ (0, 3)
  -- no payload at 6
  pub no_payload : has_payload 1 (decode_image (with_one 3) 1 (one (record_bytes 2 1) (whole 1 1))) 1 ≡ false
  -- document 01's places for n = 5, with stale for faulty: three don't-have, one away: cut
  pub three_one : planned 15 (stale 1 ++ (lacks 2 ++ (lacks 3 ++ (lacks 4 ++ has 5)))) ≡ (ready 0, 4)
  -- two don't-have, two away: wait
  pub two_two : planned 7 (stale 1 ++ (lacks 2 ++ (lacks 3 ++ (has 4 ++ has 5)))) ≡ (waiting 1, 3)
  -- two don't-have, one stale, one away: wait
  pub two_one_one : planned 15 (stale 1 ++ (lacks 2 ++ (lacks 3 ++ (stale 4 ++ has 5)))) ≡ (waiting 1, 3)
  -- three don't-have, one intact: fetch
  pub three_intact : planned 31 (stale 1 ++ (lacks 2 ++ (lacks 3 ++ (lacks 4 ++ has 5)))) ≡ (ready 1, 15)
