-- A witness has no entry, and a card's is judged.
use native.Mathlib.Omega.{arith}
use Rattle.record.proofs.WitnessLaws.{kind_of}
use Rattle.image.proofs.DecodeLaws.{entries_end}
use Rattle.image.proofs.SlotLaws.{entry_none}
use borrow.Author.Rules.{rules}
use Rattle.view_slot.proofs.entry_of.Goals as goal

pub returns-then-is_witness : goal.returns-then-is_witness
returns-then-is_witness c =
    entry_none _ _ _ _ _ (kind_of _ _ (omega arith) c.is_witness.ensures c.if-is_witness.true) cc

pub entry_state-requires : goal.entry_state-requires
entry_state-requires c =
    (search rules, search rules, omega (arith, c.requires.2, entries_end c.args.shape c.args.replica (kind_of _ _ (omega arith) c.is_witness.ensures c.if-is_witness.false)))

pub returns : goal.returns
returns c =
    c.entry_state.ensures _ (kind_of _ _ (omega arith) c.is_witness.ensures c.if-is_witness.false)
