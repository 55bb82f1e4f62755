-- A card's fresh entries, and of a witness none.
use native.Mathlib.Omega.{arith}
use borrow.Author.Rules.{rules}
use Rattle.record.proofs.WitnessLaws.{kind_of}
use Rattle.image.proofs.DecodeLaws.{size_card}
use Rattle.image.proofs.AppendSteps.{entries_none}
use Rattle.format.proofs.put_entries.Goals as goal

pub put_freshes-requires : goal.put_freshes-requires
put_freshes-requires c =
    (search rules, omega (arith, c.requires.1, size_card c.args.shape c.args.replica (kind_of _ _ (omega arith) c.is_witness.ensures c.if-not-is_witness.true)))

pub returns-else-not-is_witness : goal.returns-else-not-is_witness
returns-else-not-is_witness c =
    entries_none _ _ _ _ (kind_of _ _ (omega arith) c.is_witness.ensures c.if-not-is_witness.false)
