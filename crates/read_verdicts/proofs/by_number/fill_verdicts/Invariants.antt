-- `fill_verdicts` fills from the front.
use Prim.Native.Nat.{ℕ}
use mathlib.Core.Path.{◌≡◌}
use mathlib.Core.Bool.{false}
use lib.ListN.{length, take}
use Rattle.search.specs.Search.{listed}
use Rattle.record.specs.Layout.{is_witness}
use Rattle.image.specs.Image.{decode_under}
use Rattle.image.specs.Verdict.{verdict_at}
use Rattle.read_verdicts.specs.ByNumber.{Marked}
use Rattle.read_verdicts.proofs.by_number.fill_verdicts.Given as goal

abbrev pub invariant-loop-k : goal.invariant-loop-k
invariant-loop-k l = (length l.verdicts ≡ length l.initial.verdicts) × ((c : ℕ) → is_witness l.shape c ≡ false → Marked l.shape.m (decode_under l.shape c l.first l.image) l.used l.conditions → take l.k l.verdicts ≡ listed l.k (verdict_at l.shape.m (decode_under l.shape c l.first l.image)))
