use mathlib.Core.Path.{sym, ◌∙◌}
use native.Mathlib.Omega.{arith}
use Rattle.image.proofs.CallLaws.{size_high, replica_low, replica_high, is_replica_lem}
use Rattle.report.proofs.CommandLaws as law
use Rattle.print_command.proofs.leader_alone.Goals as goal

pub returns-then-not-is_size : goal.returns-then-not-is_size
returns-then-not-is_size c =
    law.unsized_none _ _ (sym c.is_size.ensures ∙ c.if-not-is_size.true)

pub returns-then-leading-lt1 : goal.returns-then-leading-lt1
returns-then-leading-lt1 c =
    law.leader_none _ _ (replica_low _ _ (omega arith))

pub returns-then-n-leading : goal.returns-then-n-leading
returns-then-n-leading c =
    let sized = sym c.is_size.ensures ∙ c.if-not-is_size.false in
    law.leader_none _ _ (replica_high _ _ (omega (arith, size_high _ sized)))

pub overflow_cast-result : goal.overflow_cast-result
overflow_cast-result c =
    omega (arith, size_high _ (sym c.is_size.ensures ∙ c.if-not-is_size.false))

pub overflow_shl-result : goal.overflow_shl-result
overflow_shl-result c =
    omega (arith, size_high _ (sym c.is_size.ensures ∙ c.if-not-is_size.false))

pub returns : goal.returns
returns c =
    let sized = sym c.is_size.ensures ∙ c.if-not-is_size.false in
    law.leader_bit _ _ sized (is_replica_lem _ _ (omega arith) (omega arith)) (omega arith) (omega (arith, size_high _ sized))
