use Rattle.std.proofs.Common.{rules, tests, ◌∙◌, arith}
use Rattle.std.proofs.lemmas.Iterator.{YieldsList-from_range}
use Rattle.std.proofs.lemmas.Iterator.Consumers.{fold_from_yields_List, YieldsList-from_filter}
use Rattle.planner.specs.Rules.{dont_have}
use Rattle.planner.specs.Sets.{inserted}
use Rattle.planner.specs.Survey.{survey_setting, survey_views}
use Rattle.decide_answers.proofs.SetLaws.{set_gathered}
use Rattle.decide_answers.proofs.lacking.Goals as goal

pub returns : goal.returns
returns c =
    λ l.
    let a = c.args in
    let lacks = dont_have (survey_setting a.n a.leader) (survey_views l a.readable a.conditions.now a.epochs.now) a.k in
    fold_from_yields_List _ inserted 0 _ c.fold.ensures.ran (YieldsList-from_filter _ lacks (YieldsList-from_range 0 a.n a.n (search rules) (omega arith)) c.filter.ensures.closure (λ x b q h. search (rules, tests))) (λ s x b q h. search (rules, tests)) ∙ set_gathered lacks a.n
