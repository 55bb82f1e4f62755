-- For proofs only. An image that is taken apart, with one record or one entry written anew.
use Rattle.std.specs.Prelude.{ℕ}
use Rattle.search.specs.Put.{put}
use Rattle.record.specs.Meaning.{Record, Entry}
use Rattle.image.specs.Image.{Image}

unfoldable pub set_record : Image → ℕ → Record → Image
set_record i k r = record { header = i.header; records = put i.records k r; entries = i.entries }

unfoldable pub set_entry : Image → ℕ → Entry → Image
set_entry i k x = record { header = i.header; records = i.records; entries = put i.entries k x }
