use Rattle.call_sizes.proofs.SizeLaws.{is_measured}
use Rattle.call_sizes.proofs.image_at.Goals as goal

pub returns : goal.returns
returns c =
    is_measured _ _ c.find_image.result c.measured.result c.find_image.ensures c.measured.ensures
