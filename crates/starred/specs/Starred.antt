-- Document 01, "Reference places": the starred ones.
use Rattle.std.specs.Prelude.{◌≡◌, [], ◌∷◌, ◌++◌}
use Rattle.slices.specs.Parts.{part}
use Rattle.checksum.specs.Checksum.{checksum_of}
use Rattle.column.specs.Column.{column}
use Rattle.record.specs.Layout.{record_bytes, blank_record, fresh_entry}
use Rattle.image.specs.Image.{decode_image}
use Rattle.image.specs.View.{read_refusal}
use Rattle.image.specs.Verdict.{verdict_at}
use Rattle.image.specs.Append.{append_refusal}
use Rattle.planner.specs.Plan.{views_in, plan_bytes}
use Rattle.protocol.specs.Call.{plan, named}
use Rattle.protocol.specs.CallResult.{call_result, ready, waiting}
use Rattle.starred.specs.Cards.{with_one, with_two, noise, scratch, whole, one, two, faulty, has, lacks, five}

pub record Starred : Type 0 where
  -- check of no bytes: 1; of byte 65: 4,325,442
  pub no_bytes : checksum_of [] ≡ 1
  pub byte_65 : checksum_of (65 ∷ []) ≡ 4325442
  -- line of epoch 1, index 1: its check column has 546505443, and that is the check of what stands before it
  pub line_1_1 : part (record_bytes 1 1) 22 11 ≡ column 11 546505443
  pub line_1_1_sum : checksum_of (part (record_bytes 1 1) 0 22) ≡ 546505443
  -- appending at the last epoch is accepted, one lower is 8
  pub same_epoch : append_refusal (with_two 3) 1 (two (record_bytes 2 1) blank_record (whole 2 1) fresh_entry) 2 1 ≡ 0
  pub lower_epoch : append_refusal (with_two 3) 1 (two (record_bytes 2 1) blank_record (whole 2 1) fresh_entry) 1 1 ≡ 8
  -- bad line, intact cell: verdict 2; both lost: 6; blank line before a good one: 5
  pub line_lost : verdict_at 1 (decode_image (with_one 3) 1 (one scratch (whole 1 1))) 0 ≡ 2
  pub line_lost_read : read_refusal (with_one 3) 1 (one scratch (whole 1 1)) ≡ 0
  pub both_lost : read_refusal (with_one 3) 1 (one scratch noise) ≡ 6
  pub gap : read_refusal (with_two 3) 1 (two blank_record (record_bytes 1 2) fresh_entry (whole 1 2)) ≡ 5
  -- noise beside the last good line: 4; one more used place behind it: 3; neither image is refused
  pub noise_last : verdict_at 1 (decode_image (with_one 3) 1 (one (record_bytes 1 1) noise)) 0 ≡ 4
  pub noise_last_read : read_refusal (with_one 3) 1 (one (record_bytes 1 1) noise) ≡ 0
  pub noise_before : verdict_at 2 (decode_image (with_two 3) 1 (two (record_bytes 1 1) (record_bytes 1 2) noise (whole 1 2))) 0 ≡ 3
  pub noise_before_read : read_refusal (with_two 3) 1 (two (record_bytes 1 1) (record_bytes 1 2) noise (whole 1 2)) ≡ 0
  -- n = 5, the lead's place faulty. Three don't-have, one away: cut
  pub three_one : call_result (five 15) (plan 1 5) (faulty 1 ++ (lacks 2 ++ (lacks 3 ++ (lacks 4 ++ has 5)))) ≡ ready 0
  pub three_one_byte : plan_bytes (named (five 15)) (views_in (named (five 15)) (faulty 1 ++ (lacks 2 ++ (lacks 3 ++ (lacks 4 ++ has 5))))) ≡ 4 ∷ []
  -- two don't-have, two away: wait
  pub two_two : call_result (five 7) (plan 1 5) (faulty 1 ++ (lacks 2 ++ (lacks 3 ++ (has 4 ++ has 5)))) ≡ waiting 1
  pub two_two_byte : plan_bytes (named (five 7)) (views_in (named (five 7)) (faulty 1 ++ (lacks 2 ++ (lacks 3 ++ (has 4 ++ has 5))))) ≡ 3 ∷ []
  -- two don't-have, one faulty, one away: wait
  pub two_one_one : call_result (five 15) (plan 1 5) (faulty 1 ++ (lacks 2 ++ (lacks 3 ++ (faulty 4 ++ has 5)))) ≡ waiting 1
  pub two_one_one_byte : plan_bytes (named (five 15)) (views_in (named (five 15)) (faulty 1 ++ (lacks 2 ++ (lacks 3 ++ (faulty 4 ++ has 5))))) ≡ 3 ∷ []
  -- three don't-have, one intact: fetch
  pub three_intact : call_result (five 31) (plan 1 5) (faulty 1 ++ (lacks 2 ++ (lacks 3 ++ (lacks 4 ++ has 5)))) ≡ ready 1
  pub three_intact_byte : plan_bytes (named (five 31)) (views_in (named (five 31)) (faulty 1 ++ (lacks 2 ++ (lacks 3 ++ (lacks 4 ++ has 5))))) ≡ 15 ∷ []
