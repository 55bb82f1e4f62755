use Rattle.std.proofs.Common.{refl, sym, ◌∙◌, arith}
use Rattle.image.proofs.CallLaws.{slots_high, size_high}
use Rattle.planner.proofs.SeenLaws.{partly_none, partly_skip, partly_all, absent_off, refused_off, not_refused, is_refused, seen_more, surveyed_any}
use Rattle.survey.proofs.survey_cluster.Goals as goal

pub replicas-init : goal.replicas-init
replicas-init c = partly_none _ _ _ _ _ _ refl refl refl refl

pub replicas-preserved-then-not-contains : goal.replicas-preserved-then-not-contains
replicas-preserved-then-not-contains c =
    partly_skip _ c.replicas.invariant (absent_off _ _ _ _ (sym c.contains.ensures ∙ c.if-not-contains.true))

pub replicas-preserved-in_default : goal.replicas-preserved-in_default
replicas-preserved-in_default c =
    partly_skip _ c.replicas.invariant (refused_off _ _ _ _ (is_refused c.view_replica.ensures.refusal c.in_default.is))

pub replicas-preserved : goal.replicas-preserved
replicas-preserved c =
    seen_more _ _ _ _ c.is_witness-witness.ensures (omega arith) c.replicas.invariant (omega (arith, size_high _ c.requires.0)) (slots_high _ c.requires.1)
    (sym c.contains.ensures ∙ c.if-not-contains.false) (not_refused c.view_replica.ensures.refusal c.in-Ok.is) (rw c.in-Ok.is at c.view_replica.ensures.seen)
    c.copy_slots.ensures.conditions c.copy_slots.ensures.epochs c.insert-readable.ensures (omega arith) (omega arith)

pub returns : goal.returns
returns c =
    surveyed_any _ _ _ (partly_all _ _ c.replicas.invariant (omega arith) c.replicas-test.false)
