use Rattle.planner.proofs.RuleLaws.{Marked}
use Rattle.decide_slots.proofs.mark_truncated.Given as goal

abbrev pub invariant-loop-k : goal.invariant-loop-k
invariant-loop-k l = Marked l.initial.marked l.marked l.end l.length l.k
