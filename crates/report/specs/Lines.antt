-- For proofs only. The lines of the leader's slots as they are made of a survey's epochs, which begin at an offset, and the plan bytes.
use Rattle.std.specs.Prelude.{ℕ, ◌+◌, List, get_or}
use Rattle.slices.specs.Parts.{Bytes}
use Rattle.report.specs.Report.{slot_line}

unfoldable pub line_from : List ℕ → ℕ → List ℕ → ℕ → Bytes
line_from epochs from plan k = slot_line k (get_or epochs (from + k) 0) (get_or plan k 0)
