-- The word and four numbers, one behind the other.
use Rattle.record.proofs.WriteLaws as law
use native.Mathlib.Omega.{arith}
use Rattle.write_header.proofs.put_front.Goals as goal

pub returns : goal.returns
returns c =
    law.front_written _ _ _ _ _ _ _ _ c.requires (omega arith) (omega arith) (omega arith) (omega arith) c.put_word.ensures c.put_number.ensures c.put_number-2.ensures c.put_number-3.ensures c.put_number-4.ensures
