-- `append_witness` answers the first refusal that applies, and else writes the record of the first unused slot.
use Rattle.std.proofs.Common.{◌≡◌, length, arith, rules}
use Rattle.image.specs.Witness.{record_appended}
use Rattle.image.specs.Answers.{numbered}
use Rattle.image.proofs.AppendSteps.{number_above, record_call, refused_record, used_short, record_free, record_done}
use Rattle.append_witness.proofs.append_witness.Goals as goal

pub returns-in_err-found-clause-answer : goal.returns-in_err-found-clause-answer
unfolding numbered
returns-in_err-found-clause-answer c =
    let s = c.args in
    let is = record_call s.shape s.replica s.image.now s.epoch _ c.in_err-found.ensures.refusal in
    grind (arith, number_above)

pub returns-in_err-found-clause-image : goal.returns-in_err-found-clause-image
unfolding record_appended
returns-in_err-found-clause-image c =
    let s = c.args in
    let is = record_call s.shape s.replica s.image.now s.epoch _ c.in_err-found.ensures.refusal in
    grind (arith, number_above)

pub last_epoch-last-requires : goal.last_epoch-last-requires
last_epoch-last-requires c =
    let s = c.args in
    let sized : length c.in_ok-found.found.slots ≡ 64 = search rules in
    omega (arith, sized, used_short s.shape s.replica s.image.now s.epoch c.in_ok-found.ensures.refusal c.in_ok-found.ensures.seen)

pub returns-in_err-vet_append-clause-answer : goal.returns-in_err-vet_append-clause-answer
unfolding numbered
returns-in_err-vet_append-clause-answer c =
    let s = c.args in
    let is = refused_record s.shape s.replica s.image.now s.epoch c.in_ok-found.ensures.refusal c.in_ok-found.ensures.seen c.last_epoch-last.ensures c.in_err-vet_append.ensures in
    grind (arith, number_above)

pub returns-in_err-vet_append-clause-image : goal.returns-in_err-vet_append-clause-image
unfolding record_appended
returns-in_err-vet_append-clause-image c =
    let s = c.args in
    let is = refused_record s.shape s.replica s.image.now s.epoch c.in_ok-found.ensures.refusal c.in_ok-found.ensures.seen c.last_epoch-last.ensures c.in_err-vet_append.ensures in
    grind (arith, number_above)

pub record_slot-requires : goal.record_slot-requires
record_slot-requires c =
    let s = c.args in
    record_free s.shape s.replica s.image.now s.epoch c.in_ok-found.ensures.refusal c.in_ok-found.ensures.seen c.last_epoch-last.ensures c.in_ok-vet_append.ensures (omega arith)

pub overflow_add-result : goal.overflow_add-result
overflow_add-result c =
    let s = c.args in
    omega (arith, used_short s.shape s.replica s.image.now s.epoch c.in_ok-found.ensures.refusal c.in_ok-found.ensures.seen)

pub returns : goal.returns
returns c =
    let s = c.args in
    let view = c.in_ok-found.ensures.seen in
    let is = refused_record s.shape s.replica s.image.now s.epoch c.in_ok-found.ensures.refusal view c.last_epoch-last.ensures c.in_ok-vet_append.ensures in
    let both = record_done s.shape s.replica s.image.now s.epoch is (omega (arith, view.first_is)) (omega (arith, view.length_is)) c.record_slot.ensures in record { answer = both.0; image = both.1 }
