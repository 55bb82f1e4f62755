-- A header judged: the first index that it could give, and the bytes that the writer writes for that.
use Prim.Native.Nat.{ℕ, ◌≤◌}
use mathlib.Core.Path.{◌≡◌, sym, ap, ◌∙◌}
use mathlib.Core.Bool.{Bool, true, false}
use native.Mathlib.Omega.{arith}
use lib.ListN.{length, take, drop}
use Rattle.std.specs.Prelude.{Some, None}
use Rattle.slices.specs.Parts.{Bytes, part}
use Rattle.slices.specs.Same.{same}
use Rattle.slices.proofs.SameLaws.{and_left, and_off, same_lengths}
use Rattle.column.specs.Column.{value_of}
use Rattle.record.specs.declared.Shape.{Shape}
use Rattle.record.specs.Layout.{gives_first, header_size, header_bytes}
use Rattle.record.specs.Meaning.{is_first, header_first, is_header, read_header}
use Rattle.record.specs.Judged.{header_answer}
use Rattle.record.proofs.LayoutLaws.{length_header}
use Rattle.record.proofs.HeaderLaws.{first_high}

-- the number in its column, or 1 where a header has no such column
module _ (Z : Shape) (b : Bytes) {r : ℕ} where
  pub first_given : gives_first Z ≡ true → r ≡ value_of (take 11 (drop 16 b)) → r ≡ header_first Z b
  unfolding header_first part
  first_given e h = sym (rw (e, h))

  pub first_known : gives_first Z ≡ false → r ≡ 1 → r ≡ header_first Z b
  unfolding header_first
  first_known e h = sym (rw (e, h))

module _ (Z : Shape) (c first : ℕ) (b : Bytes) {g : ℕ} {t : Bool} (is : t ≡ is_first Z g) (same_first : g ≡ first) where
  first_is : is_first Z first ≡ t
  first_is = ap (is_first Z) (sym same_first) ∙ sym is

  pub header_no_first : t ≡ false → false ≡ is_header Z c first b
  unfolding is_header
  header_no_first h = sym (rw (first_is, h))

  -- the bytes decide, of the writer's header for these numbers
  pub header_bytes_lem : t ≡ true → {d f : ℕ} {r : Bool} → d ≡ c → f ≡ first → r ≡ same b (header_bytes Z d f) → r ≡ is_header Z c first b
  unfolding is_header
  header_bytes_lem h {d} {f} p q e = e ∙ sym (rw (first_is, h, p, q))

module _ (Z : Shape) (c : ℕ) (b : Bytes) where
  -- no header has another length
  other_size : (first : ℕ) → ¬ (length b ≡ header_size Z) → is_header Z c first b ≡ false
  unfolding is_header
  other_size first h = rw (same_lengths b (header_bytes Z c first) (λ e. h (e ∙ length_header Z c first))) (and_off (is_first Z first))

  pub answer_size : ¬ (length b ≡ header_size Z) → None ≡ header_answer (read_header Z c b)
  unfolding read_header header_answer
  answer_size h = sym (rw (other_size (header_first Z b) h))

  module _ {first : ℕ} (is : first ≡ header_first Z b) where
    pub answer_proper : {f : ℕ} → f ≡ first → is_header Z c first b ≡ true → Some f ≡ header_answer (read_header Z c b)
    unfolding read_header header_answer
    answer_proper e t = sym (rw (← is, t, e))

    pub answer_improper : is_header Z c first b ≡ false → None ≡ header_answer (read_header Z c b)
    unfolding read_header header_answer
    answer_improper t = sym (rw (← is, t))

pub header_fits : (Z : Shape) (c first : ℕ) (b : Bytes) → is_header Z c first b ≡ true → first ≤ 4294967295
unfolding is_header
header_fits Z c first b t = omega (arith, first_high Z first (and_left (is_first Z first) (same b (header_bytes Z c first)) t))
