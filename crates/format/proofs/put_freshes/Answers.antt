use Prim.Native.Nat.{◌+◌, ◌*◌}
use mathlib.Core.Path.{◌∙◌}
use native.Mathlib.Omega.{arith}
use Rattle.record.specs.Layout.{header_size, fresh_entry}
use Rattle.record.proofs.LayoutLaws.{length_fresh}
use Rattle.image.proofs.DecodeLaws.{entry_begins}
use Rattle.image.proofs.PutLaws.{fill_start, fill_length, fill_step}
use Rattle.format.proofs.put_freshes.Goals as goal

pub loop-k-init : goal.loop-k-init
loop-k-init c =
    fill_start _ _ 240 fresh_entry length_fresh

pub put_fresh-requires : goal.put_fresh-requires
put_fresh-requires c =
    let w = c.loop-k in
    let l = fill_length c.args.image.now (header_size c.args.shape + 34 * c.args.shape.m) 240 fresh_entry length_fresh w.k w.invariant (omega arith) in
    omega (arith, entry_begins c.args.shape w.k)

pub loop-k-preserved : goal.loop-k-preserved
loop-k-preserved c =
    let w = c.loop-k in
    fill_step c.args.image.now (header_size c.args.shape + 34 * c.args.shape.m) 240 fresh_entry length_fresh w.k (c.entry_at.ensures ∙ entry_begins c.args.shape w.k) w.invariant c.put_fresh.ensures (omega arith)
