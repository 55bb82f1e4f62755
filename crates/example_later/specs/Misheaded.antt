-- A cluster of edition 2 in which a header was damaged into a good one of another first index (02, Six): three replicas with one slot, whose
-- logs begin at 3 and hold A there under epoch 2. The leader's header now says 5, and an entry that was written for index 5 stands in place
-- of A's. The others are away.
use Rattle.std.specs.Prelude.{[], ◌∷◌, ◌++◌}
use Rattle.slices.specs.Parts.{Bytes}
use Rattle.record.specs.declared.Shape.{Shape}
use Rattle.record.specs.Layout.{header_bytes, record_bytes, entry_bytes}
use Rattle.record.specs.Meaning.{good, intact}
use Rattle.image.specs.Cluster.{Cluster}
use Rattle.protocol.specs.Call.{Numbers}
use Rattle.example.specs.Undamaged.{payload_a, payload_c}
use Rattle.example_later.specs.Later.{image_from}

-- three replicas with one slot
abbrev pub of_misheaded : Shape
of_misheaded = record { n = 3; m = 1; edition = 2; witnesses = 0 }

-- leader 1, nobody else present
unfoldable pub misheaded : Numbers
misheaded = record { shape = of_misheaded; leader = 1; present = 1 }

-- before the damage
unfoldable pub undamaged_misheaded : Cluster
undamaged_misheaded c = image_from (good 2 ∷ []) (intact 2 payload_a ∷ []) 3

unfoldable pub misheaded_cluster : Bytes
misheaded_cluster =
    (header_bytes of_misheaded 1 5 ++ (record_bytes 2 3 ++ entry_bytes 1 5 payload_c))
    ++ ((header_bytes of_misheaded 2 3 ++ (record_bytes 2 3 ++ entry_bytes 2 3 payload_a)) ++ (header_bytes of_misheaded 3 3 ++ (record_bytes 2 3 ++ entry_bytes 2 3 payload_a)))
