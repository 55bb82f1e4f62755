use Rattle.call_sizes.proofs.SizeLaws.{is_measured}
use Rattle.call_sizes.proofs.cluster_size.Goals as goal

pub returns : goal.returns
returns c =
    is_measured _ _ c.find_cluster_size.result c.measured.result c.find_cluster_size.ensures c.measured.ensures
