-- What a replica answers, by a survey's numbers.
use Rattle.std.proofs.Common.{ℕ, ◌+◌, ◌*◌, ◌≡◌, List, get_or, not, ◌&&◌, ◌||◌, eqb, refl}
use Rattle.search.specs.Sets.{has}
use Rattle.planner.specs.Rules.{answers, agrees, have, dont_have}
use Rattle.planner.specs.Survey.{survey_setting, survey_views, agrees_at}
use Rattle.planner.proofs.SurveyLaws.{used_number, whole_number}

module _ (n l leader readable : ℕ) (conditions epochs : List ℕ) (k c : ℕ) where
  pub have_is : have (survey_setting n leader) (survey_views l readable conditions epochs) k c
      ≡ ((not (eqb c leader) && has readable c) && (eqb (get_or conditions (c * 64 + k) 0) 1 || eqb (get_or conditions (c * 64 + k) 0) 2) && agrees_at conditions epochs leader c k)
  unfolding have answers agrees agrees_at survey_setting survey_views
  have_is = rw (whole_number (get_or conditions (c * 64 + k) 0), used_number (get_or conditions (c * 64 + k) 0)) refl

  pub lacks_is : dont_have (survey_setting n leader) (survey_views l readable conditions epochs) k c
      ≡ ((not (eqb c leader) && has readable c) && not (agrees_at conditions epochs leader c k))
  unfolding dont_have answers agrees agrees_at survey_setting survey_views
  lacks_is = rw (used_number (get_or conditions (c * 64 + k) 0)) refl
