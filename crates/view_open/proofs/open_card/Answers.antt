-- `open_card` is `open_kind` for cards.
use mathlib.Core.Path.{refl, sym}
use native.Mathlib.Omega.{arith}
use Rattle.record.proofs.WitnessLaws.{kind_of}
use Rattle.image.proofs.KindLaws.{kind_is}
use Rattle.view_open.proofs.open_card.Goals as goal

pub returns : goal.returns
returns c =
    record { refusal = kind_is _ _ _ c.open_kind.ensures.refusal (sym (kind_of _ _ (omega arith) c.is_witness-other.ensures refl)); seen = c.open_kind.ensures.seen }
