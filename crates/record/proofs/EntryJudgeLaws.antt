-- The tests of an entry decide whether it is intact.
use Prim.Native.Nat.{ℕ, ◌+◌, ◌<◌, ◌≤◌}
use mathlib.Core.Path.{◌≡◌, sym, ◌∙◌, ap}
use mathlib.Core.Bool.{true, false, ◌&&◌}
use mathlib.Core.List.{◌++◌, append_assoc}
use native.Mathlib.Omega.{arith}
use lib.Dec.{leb}
use lib.ListN.{length, take, drop, length-append, length-take, length-drop}
use borrow.Author.Tests.{leb-true, le-leb, lt-leb}
use Rattle.std.specs.Prelude.{Some, None}
use Rattle.slices.specs.Parts.{Bytes, part}
use Rattle.slices.specs.Same.{same}
use Rattle.slices.proofs.SameLaws.{and_left, and_right, and_off, and_assoc, same_refl, and_on}
use Rattle.slices.proofs.PartLaws.{length_part, part_take}
use Rattle.column.specs.Column.{column, value_of}
use Rattle.column.proofs.ColumnLaws.{length_column}
use Rattle.record.specs.Layout.{padded, entry_bytes}
use Rattle.record.specs.Meaning.{is_epoch, is_intact, entry_epoch, entry_payload, read_entry}
use Rattle.record.specs.Judged.{entry_answer}
use Rattle.record.specs.Seal.{is_front}
use Rattle.record.specs.declared.Intact.{Intact}
use Rattle.record.proofs.LayoutLaws.{length_sealed}
use Rattle.record.proofs.RecordLaws.{epoch_high}
use Rattle.record.proofs.JudgeLaws.{same_front, same_column, sealed_is, close}

abbrev pub intact_of : ℕ → ℕ → Intact
intact_of e size = record { epoch = e; size = size }

-- what the seal of an entry covers, its payload's length being n
abbrev covered : ℕ → ℕ → ℕ → Bytes → Bytes
covered e k n p = column 11 e ++ (column 11 k ++ (column 4 n ++ p))

length_covered : (e k n : ℕ) (p : Bytes) → length p ≡ n → length (covered e k n p) ≡ 26 + n
length_covered e k n p h = simp (length-append, length_column) (omega arith)

entry_closed : (e k n : ℕ) (p : Bytes) → length p ≡ n → entry_bytes e k p ≡ covered e k n p ++ close (26 + n) (covered e k n p)
unfolding entry_bytes padded
entry_closed e k n p h =
    rw (h, length_sealed, length_covered e k n p h, sealed_is) (append_assoc (covered e k n p) _ _)

covered_tests : (e k n : ℕ) (s : Bytes) → 26 + n ≤ length s → same (take (26 + n) s) (covered e k n (part s 26 n))
    ≡ same (part s 0 11) (column 11 e) && (same (part s 11 11) (column 11 k) && same (part s 22 4) (column 4 n))
covered_tests e k n s h =
    let w : 26 + n ≡ 11 + (11 + (4 + n)) = omega arith in
    rw (← part_take s (26 + n), w, same_column s (column 11 k ++ (column 4 n ++ part s 26 n)) 0 11 (11 + (4 + n)) e (omega arith))
    (rw (same_column s (column 4 n ++ part s 26 n) 11 11 (4 + n) k (omega arith), same_column s (part s 26 n) 22 4 n n (omega arith))
    (rw (same_refl (part s 26 n), and_on (same (part s 22 4) (column 4 n)))))

-- a part that reaches past the end is longer than any payload
part_short : (s : Bytes) (n : ℕ) → length s ≡ 240 → length (part s 26 n) ≤ 200 → length (part s 26 n) ≡ n
unfolding part
part_short s n h l =
    let w = simp (length-take, length-drop) at l in
    simp (length-take, length-drop) (omega arith)

module _ (k e n : ℕ) (s : Bytes) (h : length s ≡ 240) where
  entry_tests : n ≤ 200 → same s (entry_bytes e k (part s 26 n))
      ≡ (same (part s 0 11) (column 11 e) && (same (part s 11 11) (column 11 k) && same (part s 22 4) (column 4 n)))
      && same (drop (26 + n) s) (close (26 + n) (take (26 + n) s))
  entry_tests l =
      let w : length (part s 26 n) ≡ n = length_part s 26 n (omega arith) in
      ap (same s) (entry_closed e k n (part s 26 n) w)
      ∙ same_front s (covered e k n (part s 26 n)) (26 + n) (close (26 + n)) (length_covered e k n (part s 26 n) w) (omega arith)
      ∙ rw (covered_tests e k n s (omega arith))

  intact_tests : n ≤ 200 → is_intact k e (part s 26 n) s
      ≡ is_front k e s && (same (part s 22 4) (column 4 n) && same (drop (26 + n) s) (close (26 + n) (take (26 + n) s)))
  unfolding is_intact is_front
  intact_tests l =
      let w : length (part s 26 n) ≡ n = length_part s 26 n (omega arith) in
      rw (w, le-leb n 200 l, entry_tests l) (simp and_assoc)

  pub intact_too_long : 200 < n → false ≡ is_intact k e (part s 26 n) s
  unfolding is_intact part
  intact_too_long l =
      let w : 200 < length (part s 26 n) = simp (length-take, length-drop) (omega arith) in
      sym (rw (lt-leb (length (part s 26 n)) 200 w) (simp and_off))

  -- another front
  pub intact_no_front : n ≤ 200 → false ≡ is_front k e s → false ≡ is_intact k e (part s 26 n) s
  intact_no_front l i = sym (rw (intact_tests l, ← i))

  -- behind the writer's the length and what follows the payload decide
  pub intact_behind : n ≤ 200 → true ≡ is_front k e s → is_intact k e (part s 26 n) s
      ≡ same (part s 22 4) (column 4 n) && same (drop (26 + n) s) (close (26 + n) (take (26 + n) s))
  intact_behind l i = rw (intact_tests l, ← i)

  -- the payload is as long as its column says
  pub intact_size : is_intact k e (part s 26 n) s ≡ true → length (part s 26 n) ≡ n
  unfolding is_intact
  intact_size t =
      let u = leb (length (part s 26 n)) 200 in
      let v = same s (entry_bytes e k (part s 26 n)) in
      part_short s n h (leb-true _ 200 (and_left u v (and_right (is_epoch e) (u && v) t)))

  module _ (he : e ≡ value_of (take 11 s)) (hn : n ≡ value_of (take 4 (drop 22 s))) where
    entry_epoch_is : entry_epoch s ≡ e
    unfolding entry_epoch part
    entry_epoch_is = sym he

    entry_payload_is : entry_payload s ≡ part s 26 n
    unfolding entry_payload part
    entry_payload_is = ap (part s 26) (sym hn)

    pub answer_intact : is_intact k e (part s 26 n) s ≡ true → Some (intact_of e n) ≡ entry_answer (read_entry k s)
    unfolding read_entry entry_answer
    answer_intact t = sym (rw (entry_epoch_is, entry_payload_is, t) (ap (λ (z : ℕ). Some (intact_of e z)) (intact_size t)))

    pub answer_broken : is_intact k e (part s 26 n) s ≡ false → None ≡ entry_answer (read_entry k s)
    unfolding read_entry entry_answer
    answer_broken t = sym (rw (entry_epoch_is, entry_payload_is, t))

pub intact_fits : (k e : ℕ) (p s : Bytes) → is_intact k e p s ≡ true → e ≤ 4294967295
unfolding is_intact
intact_fits k e p s t = epoch_high e (and_left (is_epoch e) _ t)
