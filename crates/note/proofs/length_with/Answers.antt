-- `length_with` grows a log only by an unused slot.
use mathlib.Core.Path.{refl}
use native.Mathlib.Numerals.{add-one}
use borrow.Author.Tests.{lt-ltb, le-ltb}
use Rattle.note.proofs.length_with.Goals as goal

pub returns-then-k-length : goal.returns-then-k-length
returns-then-k-length c =
    rw (lt-ltb _ _ c.if-k-length.true) refl

pub returns : goal.returns
returns c =
    rw (le-ltb _ _ c.if-k-length.false) (add-one _)
