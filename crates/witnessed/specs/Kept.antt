-- Three cards and two witnesses with one slot: A stood committed on the leader, on card 3 and on witness 4, a majority of five. The leader's
-- entry is damaged; card 2 and witness 5 never had it.
use Rattle.std.specs.Prelude.{zero, suc, [], ◌∷◌, ◌++◌}
use Rattle.slices.specs.Parts.{Bytes}
use Rattle.record.specs.declared.Shape.{Shape}
use Rattle.record.specs.Layout.{header_bytes, record_bytes, blank_record, entry_bytes, fresh_entry}
use Rattle.record.specs.Meaning.{good}
use Rattle.image.specs.Cluster.{Cluster}
use Rattle.protocol.specs.Call.{Numbers}
use Rattle.example.specs.Undamaged.{payload_a, noise, empty_image, image_a}
use Rattle.witnessed.specs.Boxes.{box_with}

-- replicas 4 and 5 are witnesses
abbrev pub of_kept : Shape
of_kept = record { n = 5; m = 1; edition = 1; witnesses = 24 }

-- leader 1; card 3 is away, and all are present
unfoldable pub kept_away : Numbers
kept_away = record { shape = of_kept; leader = 1; present = 27 }

unfoldable pub kept_all : Numbers
kept_all = record { shape = of_kept; leader = 1; present = 31 }

unfoldable pub undamaged_kept : Cluster
undamaged_kept zero = image_a
undamaged_kept (suc zero) = empty_image
undamaged_kept (suc (suc zero)) = image_a
undamaged_kept (suc (suc (suc zero))) = box_with (good 2 ∷ [])
undamaged_kept (suc (suc (suc (suc c)))) = box_with []

-- the cards, and the two witnesses with these records
unfoldable pub kept_with : Bytes → Bytes → Bytes
kept_with fourth fifth =
    (header_bytes of_kept 1 1 ++ (record_bytes 2 1 ++ noise))
    ++ ((header_bytes of_kept 2 1 ++ (blank_record ++ fresh_entry))
    ++ ((header_bytes of_kept 3 1 ++ (record_bytes 2 1 ++ entry_bytes 2 1 payload_a))
    ++ ((header_bytes of_kept 4 1 ++ fourth) ++ (header_bytes of_kept 5 1 ++ fifth))))

unfoldable pub kept_cluster : Bytes
kept_cluster = kept_with (record_bytes 2 1) blank_record

-- the same, had witness 4 not stored its record
unfoldable pub forgotten_cluster : Bytes
forgotten_cluster = kept_with blank_record blank_record
