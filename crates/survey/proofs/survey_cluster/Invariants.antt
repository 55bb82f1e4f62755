use Rattle.planner.specs.Setting.{setting_of}
use Rattle.planner.specs.Plan.{views_in}
use Rattle.planner.proofs.SeenLaws.{Partly}
use Rattle.survey.proofs.survey_cluster.Given as goal

abbrev pub invariant-replicas : goal.invariant-replicas
invariant-replicas l =
    Partly l.shape.m (views_in (setting_of l.shape 0 l.present) l.cluster) l.readable l.firsts l.lengths l.conditions l.epochs l.c
