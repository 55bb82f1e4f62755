-- Lines written part after part, and line behind line.
use Prim.Native.Nat.{ℕ, suc, ◌+◌, ◌*◌, ◌-◌, ◌<◌, ◌≤◌}
use mathlib.Core.Path.{◌≡◌, refl, ap, ◌∙◌}
use mathlib.Core.List.{[], ◌∷◌, ◌++◌, append_assoc, append-nil}
use native.Mathlib.Omega.{arith}
use native.Mathlib.Numerals.{add-one}
use lib.ListN.{length, take, drop, get_or, length-append, length-take, length-drop}
use lib.Seq.{length-take-le, take_at}
use borrow.Rule.Slice.PartMut.{put_mid}
use Rattle.search.specs.Search.{joined}
use Rattle.search.proofs.ListedLaws.{length_joined}
use Rattle.slices.specs.Parts.{Bytes, spliced}
use Rattle.slices.proofs.SpliceLaws.{spliced_lent}
use Rattle.column.specs.Column.{column}
use Rattle.column.proofs.ColumnLaws.{length_column}
use Rattle.record.proofs.WriteLaws.{Begins, start, then, whole}
use Rattle.report.specs.Report.{refused_word, refused_line, head_line, slot_line, Prints}
use Rattle.report.specs.Lines.{line_from}

module _ (s₀ : Bytes) where
  pub refused_written : (r : ℕ) (s₁ s₂ s₃ : Bytes) → length s₀ ≡ 12 → s₁ ≡ spliced s₀ 0 refused_word → s₂ ≡ spliced s₁ 7 (column 4 r)
      → s₃ ≡ spliced s₂ 11 (10 ∷ []) → s₃ ≡ refused_line r
  unfolding refused_line
  refused_written r s₁ s₂ s₃ h h₁ h₂ h₃ =
      let lr = length_column 4 r in
      let w₁ = then 12 0 refused_word (start 12 s₀ h) refl (omega arith) h₁ in
      let w₂ = then 12 7 (column 4 r) w₁ refl (omega arith) h₂ in
      let w₃ = then 12 11 (10 ∷ []) w₂ (simp length-append (omega arith)) (omega arith) h₃ in
      whole w₃ (simp length-append (omega arith)) ∙ simp append_assoc

  pub head_written : (a b c d : ℕ) (s₁ s₂ s₃ s₄ s₅ : Bytes) → length s₀ ≡ 17 → s₁ ≡ spliced s₀ 0 (column 4 a) → s₂ ≡ spliced s₁ 4 (column 4 b)
      → s₃ ≡ spliced s₂ 8 (column 4 c) → s₄ ≡ spliced s₃ 12 (column 4 d) → s₅ ≡ spliced s₄ 16 (10 ∷ []) → s₅ ≡ head_line a b c d
  unfolding head_line
  head_written a b c d s₁ s₂ s₃ s₄ s₅ h h₁ h₂ h₃ h₄ h₅ =
      let la = length_column 4 a in
      let lb = length_column 4 b in
      let lc = length_column 4 c in
      let ld = length_column 4 d in
      let w₁ = then 17 0 (column 4 a) (start 17 s₀ h) refl (omega arith) h₁ in
      let w₂ = then 17 4 (column 4 b) w₁ la (omega arith) h₂ in
      let w₃ = then 17 8 (column 4 c) w₂ (simp length-append (omega arith)) (omega arith) h₃ in
      let w₄ = then 17 12 (column 4 d) w₃ (simp length-append (omega arith)) (omega arith) h₄ in
      let w₅ = then 17 16 (10 ∷ []) w₄ (simp length-append (omega arith)) (omega arith) h₅ in
      whole w₅ (simp length-append (omega arith)) ∙ simp append_assoc

  pub slot_written : (k e p : ℕ) (s₁ s₂ s₃ s₄ : Bytes) → length s₀ ≡ 20 → s₁ ≡ spliced s₀ 0 (column 4 (k + 1)) → s₂ ≡ spliced s₁ 4 (column 11 e)
      → s₃ ≡ spliced s₂ 15 (column 4 p) → s₄ ≡ spliced s₃ 19 (10 ∷ []) → s₄ ≡ slot_line k e p
  unfolding slot_line
  slot_written k e p s₁ s₂ s₃ s₄ h h₁ h₂ h₃ h₄ =
      let lk = length_column 4 (k + 1) in
      let le = length_column 11 e in
      let lp = length_column 4 p in
      let w₁ = then 20 0 (column 4 (k + 1)) (start 20 s₀ h) refl (omega arith) h₁ in
      let w₂ = then 20 4 (column 11 e) w₁ lk (omega arith) h₂ in
      let w₃ = then 20 15 (column 4 p) w₂ (simp length-append (omega arith)) (omega arith) h₃ in
      let w₄ = then 20 19 (10 ∷ []) w₃ (simp length-append (omega arith)) (omega arith) h₄ in
      whole w₄ (simp length-append (omega arith)) ∙ simp (append_assoc, add-one)

pub length_slot : (k e p : ℕ) → length (slot_line k e p) ≡ 20
unfolding slot_line
length_slot k e p = simp length-append (omega (arith, length_column 4 (suc k), length_column 11 e, length_column 4 p))

pub length_head : (a b c d : ℕ) → length (head_line a b c d) ≡ 17
unfolding head_line
length_head a b c d = simp length-append (omega (arith, length_column 4 a, length_column 4 b, length_column 4 c, length_column 4 d))

pub length_refused : (r : ℕ) → length (refused_line r) ≡ 12
unfolding refused_line
length_refused r = simp length-append (omega (arith, length_column 4 r))

-- a line in its lent part
pub slot_lent : (s : Bytes) (at k e p : ℕ) {v : Bytes} → v ≡ slot_line k e p → put_mid at (at + 20 - at) s v ≡ spliced s at (slot_line k e p)
slot_lent s at k e p {v} h =
    let n : at + 20 - at ≡ 20 = omega arith in
    rw (n, h) (spliced_lent s at 20 (slot_line k e p) (length_slot k e p))

-- ---- the lines of the slots, behind the first line

-- the buffer holds the first k lines behind what stands first in `out`
pub record Lines (out epochs : Bytes) (from : ℕ) (plan : Bytes) (k : ℕ) (s : Bytes) : Type 0 where
  pub written : Begins (take 17 out ++ joined k (line_from epochs from plan)) s
  pub sized : length s ≡ 1297

module _ (out epochs : Bytes) (from : ℕ) (plan : Bytes) where
  length_line : (k : ℕ) → length (line_from epochs from plan k) ≡ 20
  unfolding line_from
  length_line k = length_slot k (get_or epochs (from + k) 0) (get_or plan k 0)

  pub lines_start : length out ≡ 1297 → Lines out epochs from plan 0 out
  unfolding joined
  lines_start h = record { written = rw append-nil (ap (λ (n : ℕ). take n out) (length-take-le 17 out (omega arith))); sized = h }

  module _ (h : length out ≡ 1297) (k : ℕ) where
    length_lines : length (take 17 out ++ joined k (line_from epochs from plan)) ≡ 17 + 20 * k
    length_lines =
        length-append (take 17 out) (joined k (line_from epochs from plan))
        ∙ omega (arith, length-take-le 17 out (omega arith), length_joined k 20 (line_from epochs from plan) (λ j l. length_line j))

    pub lines_step : {s t : Bytes} → k < 64 → Lines out epochs from plan k s
        → t ≡ spliced s (17 + 20 * k) (slot_line k (get_or epochs (from + k) 0) (get_or plan k 0)) → Lines out epochs from plan (k + 1) t
    unfolding joined line_from
    lines_step l w e =
        let t = then 1297 (17 + 20 * k) (line_from epochs from plan k) (record { begins = w.written; sized = w.sized }) length_lines (omega (arith, length_line k)) e in
        record { written = rw (add-one, ← append_assoc) t.begins; sized = t.sized }

    pub lines_end : (count : ℕ) {s : Bytes} → k ≤ count → count ≤ k → Lines out epochs from plan k s
        → take (17 + 20 * count) s ≡ take 17 out ++ joined count (line_from epochs from plan)
    lines_end count l g w = let e : k ≡ count = omega arith in rw (← e, ← length_lines) w.written

-- ---- a page of 1,297 bytes with its first line

pub refused_page : (page : Bytes) (r : ℕ) {v : Bytes} → 1297 ≡ length page → v ≡ refused_line r → Prints (refused_line r) (v ++ drop 12 page) 12
refused_page page r {v} h e =
    let l : length v ≡ 12 = ap length e ∙ length_refused r in
    record { fits = simp (length-append, length-drop) (omega arith); bytes = take_at v (drop 12 page) 12 l ∙ e }

module _ (page : Bytes) (a b c d : ℕ) {v : Bytes} (head : v ≡ head_line a b c d) where
  length_first : length v ≡ 17
  length_first = ap length head ∙ length_head a b c d

  pub head_page : 1297 ≡ length page → length (v ++ drop 17 page) ≡ 1297
  head_page h = simp (length-append, length-drop) (omega (arith, length_first))

  pub head_lines : (out epochs : Bytes) (from : ℕ) (plan : Bytes) (k : ℕ) → 1297 ≡ length page
      → take (17 + 20 * k) out ≡ take 17 (v ++ drop 17 page) ++ joined k (line_from epochs from plan)
      → Prints (head_line a b c d ++ joined k (line_from epochs from plan)) out (17 + 20 * k)
  head_lines out epochs from plan k h e =
      let l : length (take (17 + 20 * k) out) ≡ 17 + 20 * k = ap length e ∙ length_lines (v ++ drop 17 page) epochs from plan (head_page h) k in
      record {
        fits = omega (arith, rw length-take at l);
        bytes = e ∙ ap (λ (x : Bytes). x ++ joined k (line_from epochs from plan)) (take_at v (drop 17 page) 17 length_first ∙ head);
      }
