-- An input that is written column by column is read as what it was written from.
use Prim.Native.Nat.{ℕ, ◌+◌, ◌≤◌, ◌<◌}
use mathlib.Core.Path.{◌≡◌, refl, sym, ap, ap₂, ◌∙◌}
use mathlib.Core.List.{[], ◌∷◌, ◌++◌}
use native.Mathlib.Omega.{arith}
use lib.ListN.{length, drop, get_or, length-append}
use lib.Seq.{drop_at, get_or-take, get_or-drop}
use borrow.Author.Tests.{le-ltb}
use Rattle.slices.specs.Parts.{Bytes, part}
use Rattle.slices.proofs.PartLaws.{part_front, part_first, part_back, part_middle, part_last}
use Rattle.column.specs.Column.{column}
use Rattle.column.specs.ColumnState.{column_state}
use Rattle.column.specs.declared.ColumnState.TheVariants.{Number}
use Rattle.column.proofs.ColumnLaws.{length_column}
use Rattle.column.proofs.StateLaws.{number_written, blank_spaces}
use Rattle.record.specs.declared.Shape.{Shape}
use Rattle.report.specs.Command.{command_of, command_line, present_of}
use Rattle.report.specs.Report.{cluster_report, first_edition, command_report, report_of}
use Rattle.report.specs.SetClaim.{input_of, blank_set, Writable}
use Rattle.report.specs.declared.Command.{Command}
use Rattle.report.specs.declared.Present.TheVariants.{Set, LeaderAlone}
use Rattle.report.proofs.CommandLaws.{with_set, with_blank, with_columns, present_set}

module _ (Z : Shape) (leader : ℕ) (set b : Bytes) (four : length set ≡ 4) where
  abbrev back : Bytes
  back = column 3 leader ++ (set ++ (10 ∷ []))

  abbrev line : Bytes
  line = column 3 Z.n ++ (column 3 Z.m ++ back)

  length_line : length line ≡ 14
  length_line = simp (length-append, length_column, four)

  length_input : length (line ++ b) ≡ 14 + length b
  length_input = length-append line b ∙ ap (λ (l : ℕ). l + length b) length_line

  -- the columns, where they stand
  in_line : (a l : ℕ) → a + l ≤ 14 → part (line ++ b) a l ≡ part line a l
  in_line a l h = part_front line b a l (omega (arith, length_line))

  n_at : part (line ++ b) 0 3 ≡ column 3 Z.n
  n_at = in_line 0 3 (omega arith) ∙ part_first (column 3 Z.n) _ 3 (length_column 3 Z.n)

  m_at : part (line ++ b) 3 3 ≡ column 3 Z.m
  m_at = in_line 3 3 (omega arith) ∙ part_middle (column 3 Z.n) (column 3 Z.m) back 3 3 (length_column 3 Z.n) (length_column 3 Z.m)

  leader_at : part (line ++ b) 6 3 ≡ column 3 leader
  leader_at =
      in_line 6 3 (omega arith) ∙ part_back (column 3 Z.n) (column 3 Z.m ++ back) 3 3 3 (length_column 3 Z.n)
      ∙ part_middle (column 3 Z.m) (column 3 leader) _ 3 3 (length_column 3 Z.m) (length_column 3 leader)

  set_at : part (line ++ b) 9 4 ≡ set
  set_at =
      in_line 9 4 (omega arith) ∙ part_back (column 3 Z.n) (column 3 Z.m ++ back) 6 4 3 (length_column 3 Z.n) ∙ part_back (column 3 Z.m) back 3 4 3 (length_column 3 Z.m)
      ∙ part_middle (column 3 leader) set (10 ∷ []) 3 4 (length_column 3 leader) four

  newline_at : get_or (line ++ b) 13 0 ≡ 10
  unfolding part
  newline_at =
      sym (get_or-take 1 (drop 13 (line ++ b)) 0 0 (omega arith) ∙ get_or-drop 13 (line ++ b) 0 0)
      ∙ ap (λ (x : Bytes). get_or x 0 0)
      (in_line 13 1 (omega arith) ∙ part_back (column 3 Z.n) (column 3 Z.m ++ back) 10 1 3 (length_column 3 Z.n) ∙ part_back (column 3 Z.m) back 7 1 3 (length_column 3 Z.m)
      ∙ part_back (column 3 leader) (set ++ (10 ∷ [])) 4 1 3 (length_column 3 leader) ∙ part_last set (10 ∷ []) 4 1 four refl)

  -- what is read of it
  module _ (w : Writable Z leader b) {c : Command} (is : c ≡ command_of (Number Z.n) (Number Z.m) (Number leader) (column_state set)) where
    read_as : c ≡ command_line (line ++ b)
    read_as =
        with_columns (line ++ b) (omega (arith, length_input)) newline_at
        (sym (ap column_state n_at ∙ number_written 3 Z.n w.n_fits))
        (sym (ap column_state m_at ∙ number_written 3 Z.m w.m_fits))
        (sym (ap column_state leader_at ∙ number_written 3 leader w.leader_fits))
        (sym (ap column_state set_at)) is

    printed : report_of (input_of Z leader set b) ≡ command_report c b
    unfolding report_of input_of
    printed =
        let short : length (line ++ b) ≤ 65536 = omega (arith, length_input, w.cluster_fits) in
        rw (le-ltb _ _ short, ← read_as, drop_at line b 14 length_line) refl

module _ (Z : Shape) (leader : ℕ) (b : Bytes) (w : Writable Z leader b) where
  -- it names n and m alone
  own_shape : first_edition Z.n Z.m ≡ Z
  own_shape = λ i. record { n = Z.n; m = Z.m; edition = sym w.edition_one i; witnesses = sym w.no_witnesses i }

  pub printed_blank : {x : ℕ} → x ≡ present_of Z.n leader LeaderAlone → report_of (input_of Z leader blank_set b) ≡ cluster_report Z leader x b
  unfolding command_report
  printed_blank e =
      printed Z leader blank_set b refl w (with_blank _ _ _ _ refl refl refl (blank_spaces 4 (omega arith)))
      ∙ ap₂ (λ (Y : Shape) (x : ℕ). cluster_report Y leader x b) own_shape (sym e)

  pub printed_full : (x : ℕ) → x < 10000 → report_of (input_of Z leader (column 4 x) b) ≡ cluster_report Z leader x b
  unfolding command_report
  printed_full x h =
      printed Z leader (column 4 x) b (length_column 4 x) w (with_set _ _ _ _ refl refl refl (number_written 4 x h))
      ∙ ap₂ (λ (Y : Shape) (y : ℕ). cluster_report Y leader y b) own_shape (sym (present_set Z.n leader (Set x) refl))
