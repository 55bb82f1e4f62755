use Rattle.planner.proofs.SeenLaws.{view_there}
use Rattle.survey.proofs.view_replica.Goals as goal

pub returns : goal.returns
returns c =
    let both = view_there _ _ _ c.requires.1 c.requires.3 c.image_at-start.ensures c.image_size.ensures _ _ _ _ c.view_image.ensures.refusal c.view_image.ensures.seen in record { refusal = both.0; seen = both.1 }
