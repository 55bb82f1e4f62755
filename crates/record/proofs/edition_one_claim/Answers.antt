-- The claim's parts are laws.
use Prim.Native.Nat.{ℕ}
use mathlib.Core.Path.{◌≡◌}
use mathlib.Core.Bool.{true, false}
use mathlib.Core.List.{◌++◌, append-nil}
use native.Mathlib.Omega.{arith}
use Rattle.column.specs.Column.{column}
use Rattle.record.specs.declared.Shape.{Shape}
use Rattle.record.specs.Layout.{is_witness, gives_first, sealed, fixed_word, witness_word, header_bytes}
use Rattle.record.proofs.LayoutLaws.{word_card, word_witness, header_size_one, first_none, gives_other}
use Rattle.record.proofs.HeaderLaws.{first_one, first_other, read_first_one}
use Rattle.record.proofs.edition_one_claim.Goals as goal

none : (Z : Shape) → Z.edition ≡ 1 → gives_first Z ≡ false
none Z e = gives_other Z (λ two. omega arith)

as_it_was : (Z : Shape) (c first : ℕ) → Z.edition ≡ 1 → is_witness Z c ≡ false
    → header_bytes Z c first ≡ sealed (fixed_word ++ (column 3 1 ++ (column 3 c ++ (column 3 Z.n ++ column 3 Z.m))))
unfolding header_bytes
as_it_was Z c first e card = rw (word_card Z c card, first_none Z first (none Z e), e, append-nil)

of-a-witness : (Z : Shape) (c first : ℕ) → Z.edition ≡ 1 → is_witness Z c ≡ true
    → header_bytes Z c first ≡ sealed (witness_word ++ (column 3 1 ++ (column 3 c ++ (column 3 Z.n ++ column 3 Z.m))))
unfolding header_bytes
of-a-witness Z c first e witness = rw (word_witness Z c witness, first_none Z first (none Z e), e, append-nil)

pub returns : goal.returns
returns c =
    record {
      header = as_it_was;
      witness_header = of-a-witness;
      size = λ Z e. header_size_one Z (none Z e);
      first = λ Z c b e. read_first_one Z c b (none Z e);
      only = λ Z first e h. first_one Z first h (none Z e);
      one = λ Z e. first_other Z 1 (none Z e);
    }
