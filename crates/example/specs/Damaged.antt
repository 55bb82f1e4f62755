-- The damaged cluster of five replicas with three slots, in the writer's bytes (Undamaged.antt has what it was before).
use Rattle.std.specs.Prelude.{◌++◌, replicate}
use Rattle.slices.specs.Parts.{Bytes}
use Rattle.record.specs.declared.Shape.{Shape}
use Rattle.record.specs.Layout.{header_bytes, record_bytes, blank_record, entry_bytes, fresh_entry}
use Rattle.protocol.specs.Call.{Numbers}
use Rattle.example.specs.Undamaged.{payload_a, payload_b, payload_c, noise}

-- five replicas with three slots
abbrev pub of_five : Shape
of_five = record { n = 5; m = 3; edition = 1; witnesses = 0 }

-- leader 1, all five present
unfoldable pub five : Numbers
five = record { shape = of_five; leader = 1; present = 31 }

-- 34 bytes that are neither a good nor a blank record
unfoldable pub scratch : Bytes
scratch = replicate 34 9

-- the leader: an entry of epoch 1 in place of A, B's record lost, C in flight with its record and without its entry
unfoldable pub first : Bytes
first =
    header_bytes of_five 1 1
    ++ (record_bytes 2 1 ++ (scratch ++ (record_bytes 2 3 ++ (entry_bytes 1 1 payload_c ++ (entry_bytes 2 2 payload_b ++ noise)))))

-- A and B whole
unfoldable pub second : Bytes
second =
    header_bytes of_five 2 1
    ++ (record_bytes 2 1 ++ (record_bytes 2 2 ++ (blank_record ++ (entry_bytes 2 1 payload_a ++ (entry_bytes 2 2 payload_b ++ fresh_entry)))))

-- nothing
unfoldable pub third : Bytes
third = header_bytes of_five 3 1 ++ (blank_record ++ (blank_record ++ (blank_record ++ (fresh_entry ++ (fresh_entry ++ fresh_entry)))))

-- A whole, B's entry damaged
unfoldable pub fourth : Bytes
fourth =
    header_bytes of_five 4 1
    ++ (record_bytes 2 1 ++ (record_bytes 2 2 ++ (blank_record ++ (entry_bytes 2 1 payload_a ++ (noise ++ fresh_entry)))))

-- A whole; of B and C in flight only C's record is there: refused by 5
unfoldable pub fifth : Bytes
fifth =
    header_bytes of_five 5 1
    ++ (record_bytes 2 1 ++ (blank_record ++ (record_bytes 2 3 ++ (entry_bytes 2 1 payload_a ++ (fresh_entry ++ fresh_entry)))))

unfoldable pub damaged_cluster : Bytes
damaged_cluster = first ++ (second ++ (third ++ (fourth ++ fifth)))
