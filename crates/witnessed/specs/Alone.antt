-- One card and two witnesses with one slot: A stood committed on the witnesses, which alone are a majority of three. On the leader it was in
-- flight: its record arrived, and its entry was torn.
use Rattle.std.specs.Prelude.{zero, suc, [], ◌∷◌, ◌++◌}
use Rattle.slices.specs.Parts.{Bytes}
use Rattle.record.specs.declared.Shape.{Shape}
use Rattle.record.specs.Layout.{header_bytes, record_bytes}
use Rattle.record.specs.Meaning.{good, broken}
use Rattle.image.specs.Cluster.{Cluster}
use Rattle.protocol.specs.Call.{Numbers}
use Rattle.example.specs.Undamaged.{noise, image_with}
use Rattle.witnessed.specs.Boxes.{box_with}

-- replicas 2 and 3 are witnesses
abbrev pub of_alone : Shape
of_alone = record { n = 3; m = 1; edition = 1; witnesses = 6 }

-- leader 1, all three present
unfoldable pub alone : Numbers
alone = record { shape = of_alone; leader = 1; present = 7 }

unfoldable pub undamaged_alone : Cluster
undamaged_alone zero = image_with (good 2 ∷ []) (broken noise ∷ [])
undamaged_alone (suc c) = box_with (good 2 ∷ [])

unfoldable pub alone_cluster : Bytes
alone_cluster = (header_bytes of_alone 1 1 ++ (record_bytes 2 1 ++ noise)) ++ ((header_bytes of_alone 2 1 ++ record_bytes 2 1) ++ (header_bytes of_alone 3 1 ++ record_bytes 2 1))
