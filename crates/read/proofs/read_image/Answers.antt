-- `read_image` writes only once nothing refuses.
use Rattle.std.proofs.Common.{rules}
use Rattle.image.specs.Refusal.{◌else◌, unless_refused}
use Rattle.image.specs.Answers.{numbered}
use Rattle.image.specs.Read.{lent_refusal}
use Rattle.image.proofs.CallLaws.{slots_high}
use Rattle.image.proofs.ReadLaws.{opened_slots, opened_size, opened_card, lent_epochs, lent_verdicts, lent_none, read_refused, read_done, seen_verdicts, seen_epochs}
use Rattle.image.proofs.DecodeLaws.{entries_end, first_is, under_first}
use native.Mathlib.Omega.{arith}
use Rattle.read.proofs.read_image.Goals.{then-epochs-shape-via-then-epochs-shape, then-epochs-shape-via-else-epochs-shape+then-verdicts-shape}
use Rattle.read.proofs.read_image.Goals as goal

pub returns-in_err-view : goal.returns-in_err-view
unfolding lent_refusal ◌else◌ unless_refused numbered
returns-in_err-view c = search rules

pub returns-then-epochs-shape : goal.returns-then-epochs-shape
returns-then-epochs-shape c =
    let s = c.args in
    elim c.then-epochs-shape.branch [
      | then-epochs-shape-via-then-epochs-shape w ↦ read_refused (lent_epochs s.shape s.replica s.image.now _ _ 0 c.in_ok-view.ensures.refusal (omega arith) w.if-epochs-shape.true) (omega arith) _ _ _ _ _
      | then-epochs-shape-via-else-epochs-shape+then-verdicts-shape w ↦ read_refused (lent_verdicts s.shape s.replica s.image.now _ _ 0 c.in_ok-view.ensures.refusal (omega arith) w.if-verdicts-shape.true) (omega arith) _ _ _ _ _
    ]

pub fill_epochs-requires : goal.fill_epochs-requires
fill_epochs-requires c =
    omega (arith, slots_high _ (opened_slots _ _ _ 0 c.in_ok-view.ensures.refusal (omega arith)), c.if-epochs-shape.false)

pub fill_verdicts-requires : goal.fill_verdicts-requires
fill_verdicts-requires c =
    let s = c.args in
    let opened = c.in_ok-view.ensures.refusal in
    (slots_high _ (opened_slots s.shape s.replica s.image.now 0 opened (omega arith)), omega (arith, opened_size s.shape s.replica s.image.now 0 opened (omega arith), entries_end s.shape s.replica (opened_card s.shape s.replica s.image.now 0 opened (omega arith))), c.if-verdicts-shape.false)

pub returns : goal.returns
returns c =
    let s = c.args in
    let opened = c.in_ok-view.ensures in
    read_done (lent_none s.shape s.replica s.image.now _ _ 0 opened.refusal (omega arith) c.if-epochs-shape.false c.if-verdicts-shape.false) _ _ _ _ _ _ _ _ _ _
    (omega (arith, opened.seen.length_is))
    (omega (arith, opened.seen.first_is, first_is s.shape s.replica s.image.now))
    (seen_epochs _ _ _ _ opened.seen _ c.if-epochs-shape.false c.fill_epochs.ensures)
    (seen_verdicts _ _ _ _ opened.seen (rw (under_first _ _ _ opened.seen.first_is) at (c.fill_verdicts.ensures s.replica (opened_card s.shape s.replica s.image.now 0 opened.refusal (omega arith)))))
