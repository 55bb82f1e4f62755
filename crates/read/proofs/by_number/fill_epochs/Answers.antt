use mathlib.Core.Path.{refl}
use Rattle.image.proofs.SlotLaws.{list_start, list_more, list_end}
use borrow.Author.Rules.{rules}
use native.Mathlib.Omega.{arith}
use Rattle.read.proofs.by_number.fill_epochs.Goals as goal

pub loop-k-init : goal.loop-k-init
loop-k-init c =
    (search rules, list_start _)

pub loop-k-preserved : goal.loop-k-preserved
loop-k-preserved c =
    (search rules, list_more _ _ _ _ (omega arith) c.loop-k.invariant.1 refl)

pub returns : goal.returns
returns c =
    list_end _ c.loop-k.k _ _ (omega arith) (omega arith) c.loop-k.invariant.1
