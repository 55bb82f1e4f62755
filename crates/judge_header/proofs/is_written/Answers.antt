-- The writer writes, and the bytes are compared.
use mathlib.Core.Path.{◌∙◌, ap}
use Rattle.slices.specs.Same.{same}
use Rattle.judge_header.proofs.is_written.Goals as goal

pub returns : goal.returns
returns c =
    c.same_bytes.ensures ∙ ap (same _) c.write_header.ensures
