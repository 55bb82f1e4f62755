-- `run_cluster` reads the images once, and notes each store that it makes.
use Rattle.recovery.specs.Answers.{numbers}
use Rattle.recovery.proofs.Noting.{Noting}
use Rattle.run.proofs.run_cluster.Given as goal

abbrev pub invariant-loop-made : goal.invariant-loop-made
invariant-loop-made l =
    Noting (numbers l.shape l.leading l.present) l.initial.cluster l.initial.store l.leader l.budget l.made l.cluster l.survey l.store
