-- The image of a witness (02, Seven), taken apart: it has no entries.
use Rattle.std.specs.Prelude.{List, [], get_or}
use Rattle.record.specs.Meaning.{proper, Record, blank, broken}
use Rattle.image.specs.Image.{Image}

-- with these records; what is not listed is blank
unfoldable pub box_with : List Record → Image
box_with rs = record { header = proper 1; records = λ k. get_or rs k blank; entries = λ k. broken [] }
