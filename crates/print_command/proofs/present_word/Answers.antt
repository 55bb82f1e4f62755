use Rattle.report.proofs.CommandLaws as law
use Rattle.print_command.proofs.present_word.Goals as goal

pub returns-in_default : goal.returns-in_default
returns-in_default c =
    law.present_blank _ _ _ c.in_default.is c.leader_alone.ensures

pub returns : goal.returns
returns c =
    law.present_set _ _ _ c.in-Set.is
