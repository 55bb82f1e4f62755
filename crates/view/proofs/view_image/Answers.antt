-- `view_image` judges the header, and then what its scan holds.
use Prim.Native.Nat.{ℕ, ◌-◌}
use mathlib.Core.Path.{◌≡◌, ◌∙◌}
use lib.ListN.{take, length-take}
use mathlib.Core.List.{List}
use Rattle.std.specs.Prelude.{Option}
use Rattle.record.specs.declared.Shape.{Shape}
use Rattle.record.specs.Layout.{header_size}
use Rattle.record.specs.Meaning.{read_header}
use Rattle.record.specs.Judged.{header_answer}
use Rattle.image.specs.Image.{Image, decode_under}
use Rattle.image.specs.declared.condition.Slot.{Slot}
use Rattle.image.specs.Seen.{Seen}
use Rattle.image.specs.Scan.{Scanned}
use Rattle.image.proofs.CallLaws.{slots_high}
use Rattle.image.proofs.RefusalLaws.{handed_on}
use Rattle.image.proofs.DecodeLaws.{size_is}
use Rattle.image.proofs.ScanLaws.{length_within}
use Rattle.image.proofs.SeenLaws.{view_improper, view_scanned, view_seen}
use native.Mathlib.Omega.{arith}
use Rattle.view.proofs.view_image.Goals as goal

-- the header as it is lent, up to an end that the code works out
front-judged : (Z : Shape) (c : ℕ) (b : List ℕ) {e : ℕ} {a : Option ℕ} → e ≡ header_size Z → a ≡ header_answer (read_header Z c (take (e - 0) b))
    → a ≡ header_answer (read_header Z c (take (header_size Z) b))
front-judged Z c b {e} q h = let z : e - 0 ≡ header_size Z = omega arith in rw z at h

-- the code answers the law's number
by : (y : ℕ) {x r : ℕ} → x ≡ y → y ≡ r → x ≡ r
by y e h = e ∙ h

-- the scan and the view, for numbers that are the first index
scanned-from : (Z : Shape) (c : ℕ) (b : List ℕ) (first : ℕ) {f : ℕ} {slots : List Slot} → f ≡ first → Scanned Z.m (decode_under Z c f b) slots
    → Scanned Z.m (decode_under Z c first b) slots
scanned-from Z c b first e s = rw e at s

seen-from : (m : ℕ) (i : Image) (first : ℕ) {f len : ℕ} {slots : List Slot} → f ≡ first → Seen m i first len slots → Seen m i f len slots
seen-from m i first e s = rw e s

pub slice_bounds-judge_header-end : goal.slice_bounds-judge_header-end
slice_bounds-judge_header-end c =
    omega (arith, c.requires.1, size_is c.args.shape c.args.replica)

pub returns-in_default-clause-refusal : goal.returns-in_default-clause-refusal
returns-in_default-clause-refusal c =
    let s = c.args in
    by 4 (omega arith) (view_improper s.shape s.replica s.image.now (front-judged s.shape s.replica s.image.now c.header_size-e.ensures c.judge_header.ensures) c.in_default.is)

pub scan-slots-requires : goal.scan-slots-requires
scan-slots-requires c =
    (slots_high _ c.requires.0, c.requires.1)

pub slice_bounds-slots-end : goal.slice_bounds-slots-end
slice_bounds-slots-end c =
    omega (arith, slots_high _ c.requires.0)

pub slice_bounds-log_length-end : goal.slice_bounds-log_length-end
slice_bounds-log_length-end c =
    simp length-take (omega (arith, slots_high _ c.requires.0))

pub slice_bounds-slots-end-2 : goal.slice_bounds-slots-end-2
slice_bounds-slots-end-2 c =
    omega (arith, slots_high _ c.requires.0)

pub slice_bounds-vet_scan-end : goal.slice_bounds-vet_scan-end
slice_bounds-vet_scan-end c =
    simp length-take (omega (arith, slots_high _ c.requires.0))

pub vet_scan-requires : goal.vet_scan-requires
vet_scan-requires c =
    length_within _ c.log_length-length.ensures

pub returns-in_err-vet_scan-clause-refusal : goal.returns-in_err-vet_scan-clause-refusal
returns-in_err-vet_scan-clause-refusal c =
    let s = c.args in
    let judged = front-judged s.shape s.replica s.image.now c.header_size-e.ensures c.judge_header.ensures in
    let scanned = scanned-from s.shape s.replica s.image.now c.in-Some.first (omega arith) c.scan-slots.ensures in
    handed_on c.from_residual.result c.in_err-vet_scan.field-0.0 c.from_residual.ensures.1
    ∙ view_scanned s.shape s.replica s.image.now judged c.in-Some.is scanned c.log_length-length.ensures c.in_err-vet_scan.ensures

pub returns-clause-refusal : goal.returns-clause-refusal
returns-clause-refusal c =
    let s = c.args in
    let judged = front-judged s.shape s.replica s.image.now c.header_size-e.ensures c.judge_header.ensures in
    let scanned = scanned-from s.shape s.replica s.image.now c.in-Some.first (omega arith) c.scan-slots.ensures in
    view_scanned s.shape s.replica s.image.now judged c.in-Some.is scanned c.log_length-length.ensures c.in_ok-vet_scan.ensures

pub returns-clause-seen : goal.returns-clause-seen
returns-clause-seen c =
    let s = c.args in
    let judged = front-judged s.shape s.replica s.image.now c.header_size-e.ensures c.judge_header.ensures in
    let scanned = scanned-from s.shape s.replica s.image.now c.in-Some.first (omega arith) c.scan-slots.ensures in
    seen-from _ _ c.in-Some.first (omega arith) (view_seen s.shape s.replica s.image.now judged c.in-Some.is scanned c.log_length-length.ensures)
