-- A damaged cluster of four replicas with one slot: A stood committed on three of them, no more than a majority. The leader has an entry of
-- epoch 1 in its place, replica 2 noise, replica 3 has it whole, and replica 4 never had it.
use Rattle.std.specs.Prelude.{◌++◌, ◌+◌}
use Rattle.slices.specs.Parts.{Bytes, spliced}
use Rattle.record.specs.declared.Shape.{Shape}
use Rattle.record.specs.Layout.{header_bytes, record_bytes, blank_record, entry_bytes, fresh_entry}
use Rattle.image.specs.Image.{entry_at}
use Rattle.image.specs.Cluster.{image_at}
use Rattle.protocol.specs.Call.{Numbers}
use Rattle.example.specs.Undamaged.{payload_a, payload_c, noise}

-- four replicas with one slot
abbrev pub of_four : Shape
of_four = record { n = 4; m = 1; edition = 1; witnesses = 0 }

-- leader 1, all four present
unfoldable pub four : Numbers
four = record { shape = of_four; leader = 1; present = 15 }

unfoldable pub even_cluster : Bytes
even_cluster =
    (header_bytes of_four 1 1 ++ (record_bytes 2 1 ++ entry_bytes 1 1 payload_c))
    ++ ((header_bytes of_four 2 1 ++ (record_bytes 2 1 ++ noise))
    ++ ((header_bytes of_four 3 1 ++ (record_bytes 2 1 ++ entry_bytes 2 1 payload_a)) ++ (header_bytes of_four 4 1 ++ (blank_record ++ fresh_entry))))

-- the power failed while the leader's entry was fetched
unfoldable pub even_torn : Bytes
even_torn = spliced even_cluster (image_at of_four 0 + entry_at of_four 0) noise
