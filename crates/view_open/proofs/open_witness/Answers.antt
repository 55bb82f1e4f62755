-- `open_witness` is `open_kind` for witnesses.
use mathlib.Core.Path.{refl, sym, ap}
use mathlib.Core.Bool.{not}
use native.Mathlib.Omega.{arith}
use Rattle.record.proofs.WitnessLaws.{kind_of}
use Rattle.image.proofs.KindLaws.{kind_is}
use Rattle.view_open.proofs.open_witness.Goals as goal

pub returns : goal.returns
returns c =
    record { refusal = kind_is _ _ _ c.open_kind.ensures.refusal (ap not (sym (kind_of _ _ (omega arith) c.is_witness-witness.ensures refl))); seen = c.open_kind.ensures.seen }
