use Rattle.std.proofs.Common.{rules, arith, ◌∙◌}
use Rattle.image.proofs.SlotLaws.{list_start}
use Rattle.image.proofs.VerdictSteps.{verdict_byte, verdicts_end}
use Rattle.read_verdicts.proofs.ByNumberLaws.{verdicts_more}
use Rattle.read_verdicts.proofs.by_number.fill_verdicts.Goals as goal

pub loop-k-init : goal.loop-k-init
loop-k-init c =
    (search rules, λ i card s. list_start _)

pub loop-k-preserved : goal.loop-k-preserved
loop-k-preserved c =
    (search rules, λ i card. verdicts_more _ _ _ _ _ _ _ (omega arith) c.condition_of-condition.ensures (omega arith) (verdict_byte c.verdict.result ∙ c.verdict.ensures i card) (c.loop-k.invariant.1 i card))

pub returns : goal.returns
returns c =
    λ i card s. verdicts_end _ _ c.loop-k.k _ (omega arith) (omega arith) (c.loop-k.invariant.1 i card s)
