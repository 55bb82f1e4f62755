use Rattle.slices.specs.Parts.{part}
use Rattle.read_payload.proofs.payload_of.Goals as goal

pub returns : goal.returns
unfolding part
returns c =
    c.payload_span-span.ensures.1.0
