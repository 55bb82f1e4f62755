use native.Mathlib.Omega.{arith}
use Rattle.report.proofs.CommandLaws as law
use Rattle.print_command.proofs.command_of.Goals as goal

pub returns-in_default : goal.returns-in_default
returns-in_default c =
    law.no_n _ _ _ _ c.in_default.not-Number

pub returns-in_default-m : goal.returns-in_default-m
returns-in_default-m c =
    law.no_m _ _ _ _ c.in-Number.is c.in_default-m.not-Number

pub returns-in_default-leading : goal.returns-in_default-leading
returns-in_default-leading c =
    law.no_leader _ _ _ _ c.in-Number.is c.in-Number-m.is c.in_default-leading.not-Number

pub overflow_cast-result : goal.overflow_cast-result
overflow_cast-result c =
    omega (arith, c.requires _ c.in-Number-set.is)

pub returns-in-Number-set : goal.returns-in-Number-set
returns-in-Number-set c =
    law.with_set _ _ _ _ c.in-Number.is c.in-Number-m.is c.in-Number-leading.is c.in-Number-set.is

pub returns-in-Blank : goal.returns-in-Blank
returns-in-Blank c =
    law.with_blank _ _ _ _ c.in-Number.is c.in-Number-m.is c.in-Number-leading.is c.in-Blank.is

pub returns-in-Malformed : goal.returns-in-Malformed
returns-in-Malformed c =
    law.no_set _ _ _ _ c.in-Number.is c.in-Number-m.is c.in-Number-leading.is c.in-Malformed.is
