-- For computing: where this unfolds, so does every definition that an image is read and appended to by, and a cluster planned and recovered.
use Prim.Native.Nat.{ℕ}
use Rattle.search.specs.Search.{lowest, count, sum, one_if, all, listed, joined}
use Rattle.slices.specs.Parts.{part, spliced}
use Rattle.slices.specs.Same.{same}
use Rattle.checksum.specs.Checksum.{sum_a, sum_b, checksum_of}
use Rattle.column.specs.Column.{digits, column, digit_step, value_from, value_of}
use Rattle.record.specs.Layout.{is_witness, header_word, gives_first, header_size, sealed, first_column, header_bytes, record_bytes, blank_record, padded, entry_bytes, fresh_entry}
use Rattle.record.specs.Meaning.{is_epoch, first_index, is_first, header_first, is_header, read_header, is_good, record_epoch, read_record, is_intact, entry_epoch, entry_payload, read_entry}
use Rattle.image.specs.Refusal.{refuse, ◌else◌}
use Rattle.image.specs.Image.{entries_size, index, image_size, record_at, entry_at, decode_under, first_in, decode_image}
use Rattle.image.specs.View.{condition_as, seen_as, kind_refusal, condition, epoch_of, condition_at, epoch_at, is_blank, is_proper, is_lost, log_length, no_gap, none_lost, rising, image_refusal, call_refusal, read_refusal, view_of, is_size, is_replica, is_slots, is_edition, named_refusal}
use Rattle.image.specs.Verdict.{verdict_of, verdict_at, is_fresh}
use Rattle.image.specs.Append.{last_epoch, append_refusal}
use Rattle.image.specs.Read.{is_whole, has_payload}
use Rattle.image.specs.Cluster.{image_at, image_part, first_at, decode, decode_with}
use Rattle.search.specs.Sets.{has}
use Rattle.planner.specs.Setting.{setting_of, views_of}
use Rattle.planner.specs.Rules.{may_lead, is_record_only, majority, may_truncate, is_faulty, is_record_lost, is_used, is_truncate, is_fetch, is_wait, answers, agrees, have, dont_have, donor, rule, end, first_waiting, same_firsts, answer}
use Rattle.planner.specs.Plan.{views_in, shape_refusal, cluster_refusal, lent_refusal, plan_refusal, kept_byte, rule_byte, plan_byte, plan_bytes}
use Rattle.protocol.specs.Store.{store_replica, store_slot, store_kind, same_entry}
use Rattle.protocol.specs.Recovery.{◌or◌, if_below, leader_store, differs, first_differing, follower_store, is_some, first_of, if_ready, unlike, due, followers_store, next, after}
use Rattle.protocol.specs.StepBytes.{next_in, after_store_bytes, steps_bytes, stores_bytes}
use Rattle.protocol.specs.Call.{budget_of, refusal_of}
use Rattle.protocol.specs.CallResult.{step_result, run_result, answered, ready_result, accepted_result, call_result, call_bytes}

unfoldable pub opened : ℕ
unfolding lowest count sum one_if all listed joined part spliced same sum_a sum_b checksum_of digits column digit_step value_from value_of gives_first header_size sealed first_column header_word header_bytes record_bytes blank_record padded entry_bytes fresh_entry is_epoch first_index is_first header_first is_header read_header is_good record_epoch read_record is_intact entry_epoch entry_payload read_entry refuse ◌else◌ index entries_size image_size record_at entry_at decode_under first_in decode_image condition epoch_of condition_at epoch_at is_blank is_proper is_lost log_length no_gap none_lost rising image_refusal call_refusal read_refusal kind_refusal view_of is_size is_replica is_slots is_edition named_refusal verdict_of verdict_at is_fresh last_epoch append_refusal is_whole has_payload image_at image_part first_at decode decode_with setting_of has is_witness condition_as seen_as views_of majority may_truncate is_faulty is_record_lost is_record_only is_used is_truncate is_fetch is_wait answers agrees have dont_have donor rule end first_waiting may_lead same_firsts answer views_in shape_refusal cluster_refusal lent_refusal plan_refusal kept_byte rule_byte plan_byte plan_bytes store_replica store_slot store_kind same_entry ◌or◌ if_below leader_store differs first_differing follower_store is_some first_of if_ready unlike due followers_store next after next_in after_store_bytes steps_bytes stores_bytes budget_of refusal_of step_result run_result answered ready_result accepted_result call_result call_bytes
opened = 0
