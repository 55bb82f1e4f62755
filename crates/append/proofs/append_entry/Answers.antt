-- `append_entry` answers the first refusal that applies, and else stores the first unused slot.
use Rattle.std.proofs.Common.{◌≡◌, length, arith, rules}
use Rattle.image.specs.Append.{appended}
use Rattle.image.specs.Answers.{numbered}
use Rattle.image.proofs.AppendSteps.{number_above, refused_call, refused_append, used_few, slot_free, append_done}
use Rattle.append.proofs.append_entry.Goals as goal

pub returns-in_err-seen-clause-answer : goal.returns-in_err-seen-clause-answer
unfolding numbered
returns-in_err-seen-clause-answer c =
    let s = c.args in
    let is = refused_call s.shape s.replica s.image.now s.epoch (length s.payload.now) _ c.in_err-seen.ensures.refusal in
    grind (arith, number_above)

pub returns-in_err-seen-clause-image : goal.returns-in_err-seen-clause-image
unfolding appended
returns-in_err-seen-clause-image c =
    let s = c.args in
    let is = refused_call s.shape s.replica s.image.now s.epoch (length s.payload.now) _ c.in_err-seen.ensures.refusal in
    grind (arith, number_above)

pub last_epoch-last-requires : goal.last_epoch-last-requires
last_epoch-last-requires c =
    let s = c.args in
    let sized : length c.in_ok-seen.seen.slots ≡ 64 = search rules in
    omega (arith, sized, used_few s.shape s.replica s.image.now s.epoch (length s.payload.now) c.in_ok-seen.ensures.refusal c.in_ok-seen.ensures.seen)

pub returns-in_err-vet_append-clause-answer : goal.returns-in_err-vet_append-clause-answer
unfolding numbered
returns-in_err-vet_append-clause-answer c =
    let s = c.args in
    let is = refused_append s.shape s.replica s.image.now s.epoch (length s.payload.now) c.in_ok-seen.ensures.refusal c.in_ok-seen.ensures.seen c.last_epoch-last.ensures c.in_err-vet_append.ensures in
    grind (arith, number_above)

pub returns-in_err-vet_append-clause-image : goal.returns-in_err-vet_append-clause-image
unfolding appended
returns-in_err-vet_append-clause-image c =
    let s = c.args in
    let is = refused_append s.shape s.replica s.image.now s.epoch (length s.payload.now) c.in_ok-seen.ensures.refusal c.in_ok-seen.ensures.seen c.last_epoch-last.ensures c.in_err-vet_append.ensures in
    grind (arith, number_above)

pub put_slot-requires : goal.put_slot-requires
put_slot-requires c =
    let s = c.args in
    slot_free s.shape s.replica s.image.now s.epoch (length s.payload.now) c.in_ok-seen.ensures.refusal c.in_ok-seen.ensures.seen c.last_epoch-last.ensures c.in_ok-vet_append.ensures (omega arith)

pub overflow_add-result : goal.overflow_add-result
overflow_add-result c =
    let s = c.args in
    omega (arith, used_few s.shape s.replica s.image.now s.epoch (length s.payload.now) c.in_ok-seen.ensures.refusal c.in_ok-seen.ensures.seen)

pub returns : goal.returns
returns c =
    let s = c.args in
    let view = c.in_ok-seen.ensures.seen in
    let is = refused_append s.shape s.replica s.image.now s.epoch (length s.payload.now) c.in_ok-seen.ensures.refusal view c.last_epoch-last.ensures c.in_ok-vet_append.ensures in
    let both = append_done s.shape s.replica s.image.now s.epoch s.payload.now is (omega (arith, view.first_is)) (omega (arith, view.length_is)) c.put_slot.ensures in record { answer = both.0; image = both.1 }
