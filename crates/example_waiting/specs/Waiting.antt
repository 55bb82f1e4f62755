-- A damaged cluster of three replicas with one slot, whose plan waits: A is damaged at the leader and at replica 2, and replica 3's header is
-- damaged, so that it counts as away.
use Rattle.std.specs.Prelude.{◌++◌, replicate}
use Rattle.slices.specs.Parts.{Bytes}
use Rattle.record.specs.declared.Shape.{Shape}
use Rattle.record.specs.Layout.{header_bytes, record_bytes, entry_bytes}
use Rattle.protocol.specs.Call.{Numbers}
use Rattle.example.specs.Undamaged.{payload_a, noise}

-- three replicas with one slot
abbrev pub of_three : Shape
of_three = record { n = 3; m = 1; edition = 1; witnesses = 0 }

-- leader 1, all three present
unfoldable pub three : Numbers
three = record { shape = of_three; leader = 1; present = 7 }

-- 28 bytes that are no header
unfoldable pub scrawl : Bytes
scrawl = replicate 28 9

unfoldable pub waiting_cluster : Bytes
waiting_cluster =
    (header_bytes of_three 1 1 ++ (record_bytes 2 1 ++ noise))
    ++ ((header_bytes of_three 2 1 ++ (record_bytes 2 1 ++ noise)) ++ (scrawl ++ (record_bytes 2 1 ++ entry_bytes 2 1 payload_a)))
