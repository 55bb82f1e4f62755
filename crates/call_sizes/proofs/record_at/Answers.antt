use Rattle.call_sizes.proofs.SizeLaws.{is_measured}
use Rattle.call_sizes.proofs.record_at.Goals as goal

pub returns : goal.returns
returns c =
    is_measured _ _ c.find_record.result c.measured.result c.find_record.ensures c.measured.ensures
