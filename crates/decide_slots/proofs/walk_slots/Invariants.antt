use Rattle.std.proofs.Common.{ℕ, ◌-◌, ◌<◌, ◌≤◌, ◌≡◌, false}
use Rattle.planner.specs.Rules.{have}
use Rattle.planner.specs.Survey.{survey_setting, survey_views, Walked}
use Rattle.decide_slots.proofs.walk_slots.Given as goal

abbrev pub invariant-slots : goal.invariant-slots
invariant-slots l = (l.end ≡ l.length) × Walked (survey_setting l.n l.leader) (survey_views l.length l.readable l.conditions l.epochs) l.bytes l.k

abbrev pub invariant-loop-c : goal.invariant-loop-c
invariant-loop-c l = (l.c ≤ l.n) × (l.end ≡ l.length) × ((j : ℕ) → j < l.c → have (survey_setting l.n l.leader) (survey_views l.length l.readable l.conditions l.epochs) l.k j ≡ false)

abbrev pub decreases-loop-c : goal.decreases-loop-c
decreases-loop-c l = l.n - l.c
