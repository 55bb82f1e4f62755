-- `is_fresh` looks at the part of the image at which the entry of slot k stands.
use Rattle.image.proofs.DecodeLaws.{entry_ends}
use Rattle.image.proofs.VerdictSteps.{fresh_judged}
use native.Mathlib.Omega.{arith}
use Rattle.read_verdicts.proofs.is_fresh.Goals as goal

pub overflow_add-e : goal.overflow_add-e
overflow_add-e c =
    omega (arith, entry_ends c.args.shape c.args.k c.requires.1, c.requires.2)

pub slice_bounds-all_bytes-end : goal.slice_bounds-all_bytes-end
slice_bounds-all_bytes-end c =
    omega (arith, entry_ends c.args.shape c.args.k c.requires.1, c.requires.2)

pub returns : goal.returns
returns c =
    λ i first card. fresh_judged _ first _ _ c.requires.2 c.entry_at-a.ensures c.all_bytes.ensures i card c.requires.1
