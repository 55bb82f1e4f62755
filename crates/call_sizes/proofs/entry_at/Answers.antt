use Rattle.call_sizes.proofs.SizeLaws.{is_measured}
use Rattle.call_sizes.proofs.entry_at.Goals as goal

pub returns : goal.returns
returns c =
    is_measured _ _ c.find_entry.result c.measured.result c.find_entry.ensures c.measured.ensures
