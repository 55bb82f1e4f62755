-- Behind the front stands the seal, or the first index and the seal.
use mathlib.Core.Path.{sym, ◌∙◌}
use Rattle.record.proofs.WriteLaws as law
use Rattle.record.proofs.LayoutLaws.{header_size_low, header_size_two}
use native.Mathlib.Omega.{arith}
use borrow.Author.Rules.{rules}
use Rattle.write_header.proofs.write_header.Goals as goal

pub put_front-requires : goal.put_front-requires
put_front-requires c =
    omega (arith, header_size_low c.args.shape)

pub put_number-requires : goal.put_number-requires
put_number-requires c =
    omega (arith, header_size_two c.args.shape (sym c.gives_first.ensures ∙ c.if-gives_first.true))

pub put_seal-requires : goal.put_seal-requires
put_seal-requires c =
    (search rules, omega (arith, header_size_two c.args.shape (sym c.gives_first.ensures ∙ c.if-gives_first.true)))

pub returns-then-gives_first : goal.returns-then-gives_first
returns-then-gives_first c =
    law.first_written _ _ _ _ _ (sym c.gives_first.ensures ∙ c.if-gives_first.true) (omega arith) (omega arith) (omega arith) c.put_number.ensures c.put_seal.ensures c.put_front.ensures (omega arith)

pub put_seal-requires-2 : goal.put_seal-requires-2
put_seal-requires-2 c =
    (search rules, omega (arith, header_size_low c.args.shape))

pub returns : goal.returns
returns c =
    law.header_written _ _ _ _ (sym c.gives_first.ensures ∙ c.if-gives_first.false) (omega arith) c.put_seal-2.ensures c.put_front.ensures (omega arith)
