-- `format_image` writes header, records and entries behind each other, which is all of the image.
use Rattle.std.proofs.Common.{arith}
use Rattle.image.specs.Append.{formatted}
use Rattle.image.specs.Answers.{numbered}
use Rattle.image.proofs.DecodeLaws.{size_is}
use Rattle.image.proofs.AppendSteps.{number_above, format_few, format_size, headed_size, blanked_size, format_done}
use Rattle.format.proofs.format_image.Goals as goal

pub returns-in_err-vet_format-clause-answer : goal.returns-in_err-vet_format-clause-answer
unfolding numbered
returns-in_err-vet_format-clause-answer c = grind (arith, number_above)

pub returns-in_err-vet_format-clause-image : goal.returns-in_err-vet_format-clause-image
unfolding formatted
returns-in_err-vet_format-clause-image c = grind (arith, number_above)

pub put_header-requires : goal.put_header-requires
put_header-requires c =
    let s = c.args in
    omega (arith, format_size s.shape s.replica s.first s.image.now c.in_ok-vet_format.ensures, size_is s.shape s.replica)

pub put_blanks-requires : goal.put_blanks-requires
put_blanks-requires c =
    let s = c.args in
    let free = c.in_ok-vet_format.ensures in
    (format_few s.shape s.replica s.first s.image.now free, omega (arith, headed_size s.shape s.replica s.first s.image.now free _ c.put_header.ensures, size_is s.shape s.replica))

pub put_entries-requires : goal.put_entries-requires
put_entries-requires c =
    let s = c.args in
    let free = c.in_ok-vet_format.ensures in
    (format_few s.shape s.replica s.first s.image.now free, blanked_size s.shape s.replica s.first s.image.now free _ c.put_header.ensures c.put_blanks.ensures)

pub returns : goal.returns
returns c =
    let s = c.args in
    let both = format_done s.shape s.replica s.first s.image.now c.in_ok-vet_format.ensures _ c.put_header.ensures c.put_blanks.ensures (omega arith) c.put_entries.ensures in record { answer = both.0; image = both.1 }
