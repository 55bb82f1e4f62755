use Rattle.std.proofs.Common.{ℕ, Bool, not, ◌||◌, eqb, get_or, ◌∙◌, arith, rules, tests}
use Rattle.std.proofs.lemmas.Iterator.{YieldsList-from_range}
use Rattle.std.proofs.lemmas.Iterator.Search.{all_from_yields_List}
use Rattle.search.specs.Sets.{has}
use Rattle.planner.specs.Survey.{same_numbers}
use Rattle.survey_refuse.proofs.RangeLaws.{all_range}
use Rattle.survey_refuse.proofs.same_firsts.Goals as goal

pub returns : goal.returns
unfolding same_numbers
returns c =
    let a = c.args in
    let same : ℕ → Bool = λ k. not (has a.readable k) || eqb (get_or a.firsts.now k 0) (get_or a.firsts.now a.leader 0) in
    all_from_yields_List same _ _ _ c.all.ensures.ran (YieldsList-from_range 0 a.n a.n (search rules) (omega arith)) (λ x b q k. search (rules, tests)) ∙ all_range same a.n
