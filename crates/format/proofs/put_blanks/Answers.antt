use mathlib.Core.Path.{◌∙◌}
use native.Mathlib.Omega.{arith}
use Rattle.record.specs.Layout.{header_size, blank_record}
use Rattle.record.proofs.LayoutLaws.{length_blank}
use Rattle.image.proofs.DecodeLaws.{record_begins}
use Rattle.image.proofs.PutLaws.{fill_start, fill_length, fill_step}
use Rattle.format.proofs.put_blanks.Goals as goal

pub loop-k-init : goal.loop-k-init
loop-k-init c =
    fill_start _ _ 34 blank_record length_blank

pub put_blank-requires : goal.put_blank-requires
put_blank-requires c =
    let w = c.loop-k in
    let l = fill_length c.args.image.now (header_size c.args.shape) 34 blank_record length_blank w.k w.invariant (omega arith) in
    omega (arith, record_begins c.args.shape w.k)

pub loop-k-preserved : goal.loop-k-preserved
loop-k-preserved c =
    let w = c.loop-k in
    fill_step c.args.image.now (header_size c.args.shape) 34 blank_record length_blank w.k (c.record_at.ensures ∙ record_begins c.args.shape w.k) w.invariant c.put_blank.ensures (omega arith)
