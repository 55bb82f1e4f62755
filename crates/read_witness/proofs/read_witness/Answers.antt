-- `read_witness` writes only once nothing refuses.
use Rattle.std.proofs.Common.{rules}
use Rattle.image.specs.Refusal.{◌else◌, unless_refused}
use Rattle.image.specs.Answers.{numbered}
use Rattle.image.specs.Witness.{epochs_refusal}
use Rattle.image.proofs.CallLaws.{slots_high}
use Rattle.image.proofs.ReadLaws.{witnessed_slots, epochs_lent, epochs_none, witness_refused, witness_done, seen_epochs}
use Rattle.image.proofs.DecodeLaws.{first_is}
use native.Mathlib.Omega.{arith}
use Rattle.read_witness.proofs.read_witness.Goals as goal

pub returns-in_err-view : goal.returns-in_err-view
unfolding epochs_refusal ◌else◌ unless_refused numbered
returns-in_err-view c = search rules

pub returns-then-epochs-shape : goal.returns-then-epochs-shape
returns-then-epochs-shape c =
    let s = c.args in
    witness_refused (epochs_lent s.shape s.replica s.image.now _ 0 c.in_ok-view.ensures.refusal (omega arith) (λ e. omega (arith, e, c.if-epochs-shape.true))) (omega arith) _ _ _

pub fill_epochs-requires : goal.fill_epochs-requires
fill_epochs-requires c =
    omega (arith, slots_high _ (witnessed_slots _ _ _ 0 c.in_ok-view.ensures.refusal (omega arith)), c.if-epochs-shape.false)

pub returns : goal.returns
returns c =
    let s = c.args in
    let opened = c.in_ok-view.ensures in
    witness_done (epochs_none s.shape s.replica s.image.now _ 0 opened.refusal (omega arith) (omega (arith, c.if-epochs-shape.false))) _ _ _ _ _ _ _
    (omega (arith, opened.seen.length_is))
    (omega (arith, opened.seen.first_is, first_is s.shape s.replica s.image.now))
    (seen_epochs _ _ _ _ opened.seen _ (omega (arith, c.if-epochs-shape.false)) c.fill_epochs.ensures)
