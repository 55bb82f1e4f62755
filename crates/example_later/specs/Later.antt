-- A damaged cluster of edition 2 (02, Six): three replicas with two slots. Epoch 2 wrote A to index 7 and B to index 8. The leader's log and
-- that of replica 2 begin at 7, that of replica 3 at 8.
use Rattle.std.specs.Prelude.{ℕ, zero, suc, ◌+◌, List, [], ◌∷◌, ◌++◌, get_or, replicate}
use Rattle.slices.specs.Parts.{Bytes, spliced}
use Rattle.record.specs.declared.Shape.{Shape}
use Rattle.record.specs.Layout.{header_bytes, record_bytes, blank_record, entry_bytes, fresh_entry}
use Rattle.record.specs.Meaning.{proper, Record, good, blank, Entry, intact, broken}
use Rattle.image.specs.Image.{Image, entry_at}
use Rattle.image.specs.Cluster.{Cluster, image_at}
use Rattle.protocol.specs.Call.{Numbers}
use Rattle.example.specs.Undamaged.{payload_a, payload_b, noise}

-- three replicas with two slots
abbrev pub of_later : Shape
of_later = record { n = 3; m = 2; edition = 2; witnesses = 0 }

-- leader 1, all three present
unfoldable pub later : Numbers
later = record { shape = of_later; leader = 1; present = 7 }

-- ---- before the damage

-- an image of a log that begins at an index
unfoldable pub image_from : List Record → List Entry → ℕ → Image
image_from rs xs first = record { header = proper first; records = λ k. get_or rs k blank; entries = λ k. get_or xs k (broken fresh_entry) }

-- A and B at the leader, A at replica 2, B at replica 3
unfoldable pub undamaged_later : Cluster
undamaged_later zero = image_from (good 2 ∷ good 2 ∷ []) (intact 2 payload_a ∷ intact 2 payload_b ∷ []) 7
undamaged_later (suc zero) = image_from (good 2 ∷ []) (intact 2 payload_a ∷ []) 7
undamaged_later (suc (suc c)) = image_from (good 2 ∷ []) (intact 2 payload_b ∷ []) 8

-- ---- in bytes, damaged

-- the leader: noise in place of A's entry, B whole
unfoldable pub later_first : Bytes
later_first = header_bytes of_later 1 7 ++ (record_bytes 2 7 ++ (record_bytes 2 8 ++ (noise ++ entry_bytes 2 8 payload_b)))

-- A whole
unfoldable pub later_second : Bytes
later_second = header_bytes of_later 2 7 ++ (record_bytes 2 7 ++ (blank_record ++ (entry_bytes 2 7 payload_a ++ fresh_entry)))

-- B whole, the header damaged
unfoldable pub later_slots : Bytes
later_slots = record_bytes 2 8 ++ (blank_record ++ (entry_bytes 2 8 payload_b ++ fresh_entry))

-- 39 bytes that are no header
unfoldable pub long_scrawl : Bytes
long_scrawl = replicate 39 9

unfoldable pub later_cluster : Bytes
later_cluster = later_first ++ (later_second ++ (long_scrawl ++ later_slots))

-- with that header whole, two readable logs begin at different indices
unfoldable pub other_firsts : Bytes
other_firsts = later_first ++ (later_second ++ (header_bytes of_later 3 8 ++ later_slots))

-- the power failed while the leader's entry was fetched
unfoldable pub torn_later : Bytes
torn_later = replicate 240 8

unfoldable pub later_torn : Bytes
later_torn = spliced later_cluster (image_at of_later 0 + entry_at of_later 0) torn_later
