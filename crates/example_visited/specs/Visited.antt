-- The clusters on the way from the damaged one, while it is recovered among power failures.
use Rattle.std.specs.Prelude.{◌+◌}
use Rattle.slices.specs.Parts.{Bytes, spliced}
use Rattle.image.specs.Image.{entry_at}
use Rattle.image.specs.Cluster.{image_at}
use Rattle.protocol.specs.Store.{store_entry, store_blank}
use Rattle.protocol.specs.StepBytes.{steps_bytes, after_store_bytes}
use Rattle.protocol.specs.Call.{named}
use Rattle.example.specs.Damaged.{of_five, five, damaged_cluster}
use Rattle.example.specs.Undamaged.{noise}

-- a record blanked, noise in the leader's first entry, that entry fetched, two stores more, then all but the last
-- and the last
unfoldable pub blanked_one : Bytes
blanked_one = after_store_bytes of_five (store_blank 0 2) damaged_cluster

unfoldable pub torn_one : Bytes
torn_one = spliced blanked_one (image_at of_five 0 + entry_at of_five 0) noise

unfoldable pub fetched_one : Bytes
fetched_one = steps_bytes (named five) 1 torn_one

unfoldable pub two_more : Bytes
two_more = steps_bytes (named five) 2 fetched_one

unfoldable pub last_stored : Bytes
last_stored = after_store_bytes of_five (store_entry 3 1 0) (steps_bytes (named five) 3 two_more)

unfoldable pub last_cluster : Bytes
last_cluster = steps_bytes (named five) 45 last_stored
