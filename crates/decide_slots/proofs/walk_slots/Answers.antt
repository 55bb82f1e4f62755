use Rattle.std.proofs.Common.{refl, sym, ◌∙◌, arith}
use Rattle.planner.specs.Survey.{survey_setting, survey_views}
use Rattle.planner.proofs.RuleLaws.{walked_none, walked_more, walked_end, zero_at, kept_slot, fetched_slot, waiting_slot, truncated_slot}
use Rattle.decide_slots.proofs.walk_slots.Goals.{then-n-c+else-may_truncate, else-n-c+then-has_slot}
use Rattle.decide_slots.proofs.walk_slots.Goals as goal

pub slots-init : goal.slots-init
slots-init c = (refl, walked_none _ _ _ refl (zero_at 64))

pub slots-preserved-then-condition-ne-FAULTY : goal.slots-preserved-then-condition-ne-FAULTY
slots-preserved-then-condition-ne-FAULTY c =
    let kept = kept_slot _ _ c.args.length _ _ _ _ c.if-condition-ne-FAULTY.true c.kept_byte.ensures in
    (c.slots.invariant.0, walked_more _ _ _ c.slots.invariant.1 (omega arith) kept.0 kept.1)

pub slots-preserved : goal.slots-preserved
slots-preserved c = (
  c.loop-c.invariant.1,
  elim c.if-n-c.branch [
    | else-n-c+then-has_slot w ↦
        let fetches = rw w.donor-is at c.faulty_byte.ensures in
        let fetched = fetched_slot _ _ c.args.length _ _ _ _ c.if-condition-ne-FAULTY.false _ w.if-n-c.false (sym (w.has_slot.ensures _ _) ∙ w.if-has_slot.true, c.loop-c.invariant.2) (omega (arith, fetches)) in
        walked_more _ _ _ c.slots.invariant.1 (omega arith) fetched.0 fetched.1
    | then-n-c+else-may_truncate w ↦
        let waiting = waiting_slot _ _ c.args.length _ _ _ _ c.if-condition-ne-FAULTY.false (λ j h. c.loop-c.invariant.2 j (omega arith)) (sym (w.may_truncate.ensures _) ∙ w.if-may_truncate.false) (rw w.donor-is at c.faulty_byte.ensures) in
        walked_more _ _ _ c.slots.invariant.1 (omega arith) waiting.0 waiting.1
  ],
)

pub returns-after-slots-clause-end : goal.returns-after-slots-clause-end
unfolding survey_setting survey_views
returns-after-slots-clause-end c = omega (arith, c.slots.invariant.0, walked_end _ _ _ c.slots.invariant.1 (omega arith) (λ h. absurd (omega arith)))

pub returns-then-may_truncate-clause-end : goal.returns-then-may_truncate-clause-end
unfolding survey_setting survey_views
returns-then-may_truncate-clause-end c =
    walked_end _ _ _ c.slots.invariant.1 (omega arith)
    (λ _. truncated_slot _ _ c.args.length _ _ _ _ c.if-condition-ne-FAULTY.false (λ j h. c.loop-c.invariant.2 j (omega arith)) (sym (c.may_truncate.ensures _) ∙ c.if-may_truncate.true))
