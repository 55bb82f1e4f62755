-- A buffer that is written from the front, part after part, holds what the writer's definition says.
use Prim.Native.Nat.{ℕ, zero, suc, ◌+◌, ◌-◌, ◌≤◌}
use mathlib.Core.Path.{◌≡◌, refl, sym, ◌∙◌, ap}
use mathlib.Core.Bool.{true, false}
use mathlib.Core.List.{[], ◌∷◌, ◌++◌, append_assoc, append-nil}
use native.Mathlib.Omega.{arith}
use native.Mathlib.Nat.{sub-zero}
use lib.ListN.{length, take, drop, set, replicate, length-append, length-replicate, take-append-drop}
use lib.Seq.{take_at, take_all, set_split, length-take-le}
use Rattle.slices.specs.Parts.{Bytes, spliced}
use Rattle.slices.proofs.SpliceLaws.{length_spliced, drop_spliced}
use Rattle.checksum.specs.Checksum.{checksum_of}
use Rattle.column.specs.Column.{column}
use Rattle.column.proofs.ColumnLaws.{length_column}
use Rattle.record.specs.declared.Shape.{Shape}
use Rattle.record.specs.Layout.{is_witness, gives_first, header_size, sealed, header_word, header_bytes, record_bytes, blank_record, padded, entry_bytes, fresh_entry}
use Rattle.record.specs.Seal.{header_front, seal_of}
use Rattle.record.proofs.LayoutLaws.{length_sealed, word_card, word_witness, length_word, header_size_one, header_size_two, first_none, first_there}
use Rattle.record.proofs.JudgeLaws.{length_seal, sealed_is}

-- s begins with x
abbrev pub Begins : Bytes → Bytes → Type 0
Begins x s = take (length x) s ≡ x

pub begins_next : (x s v : Bytes) (a : ℕ) → length x ≡ a → Begins x s → Begins (x ++ v) (spliced s a v)
unfolding spliced
begins_next x s v a h b =
    let e : take a s ≡ x = rw h at b in
    rw (e, ← append_assoc) (take_at (x ++ v) (drop (a + length v) s) (length (x ++ v)) refl)

pub begins_whole : (x s : Bytes) → length x ≡ length s → Begins x s → s ≡ x
begins_whole x s h b = sym (take_all (length x) s (omega arith)) ∙ b

-- the seal behind what is written
pub begins_sealed : (x s : Bytes) (a : ℕ) → length x ≡ a → Begins x s → Begins (sealed x) (spliced s a (seal_of (take a s)))
begins_sealed x s a h b =
    let e : take a s ≡ x = rw h at b in
    rw (e, sealed_is) (begins_next x s (seal_of x) a h b)

-- one step of a chain of stores, with the buffer's length
pub record Written (x : Bytes) (size : ℕ) (s : Bytes) : Type 0 where
  pub begins : Begins x s
  pub sized : length s ≡ size

module _ (size : ℕ) where
  pub start : (s : Bytes) → length s ≡ size → Written [] size s
  start s h = record { begins = refl; sized = h }

  pub then : {x s t : Bytes} (a : ℕ) (v : Bytes) → Written x size s → length x ≡ a → a + length v ≤ size → t ≡ spliced s a v → Written (x ++ v) size t
  then {x} {s} {t} a v w h l e =
      let fits : a + length v ≤ length s = omega (arith, w.sized) in
      record { begins = rw e (begins_next x s v a h w.begins); sized = ap length e ∙ length_spliced s a v fits ∙ w.sized }

  pub closed : {x s t : Bytes} (a : ℕ) → Written x size s → length x ≡ a → a + 12 ≤ size → t ≡ spliced s a (seal_of (take a s)) → Written (sealed x) size t
  closed {x} {s} {t} a w h l e =
      let fits : a + length (seal_of (take a s)) ≤ length s = omega (arith, w.sized, length_seal (take a s)) in
      record { begins = rw e (begins_sealed x s a h w.begins); sized = ap length e ∙ length_spliced s a (seal_of (take a s)) fits ∙ w.sized }

pub whole : {x s : Bytes} {size : ℕ} → Written x size s → length x ≡ size → s ≡ x
whole {x} {s} w h = begins_whole x s (h ∙ sym w.sized) w.begins

-- ---- one store, as the borrow checker hands the buffer back

-- a checksum's column and the newline behind it
pub seal_put : (s : Bytes) (at sum : ℕ) {t : Bytes} → at + 12 ≤ length s → sum ≡ checksum_of (take (at - 0) s) → t ≡ spliced s at (column 11 sum)
    → set t (at + 11) 10 ≡ spliced s at (seal_of (take at s))
unfolding seal_of spliced
seal_put s at sum {t} fits h f =
    let z : at - 0 ≡ at = omega arith in
    let e : sum ≡ checksum_of (take at s) = rw z at h in
    let n : suc (at + 11) ≡ at + 12 = omega arith in
    let v = column 11 sum in
    let lv : length v ≡ 11 = length_column 11 sum in
    let lt : length t ≡ length s = ap length f ∙ length_spliced s at v (omega arith) in
    let la : length (take at s) ≡ at = length-take-le at s (omega arith) in
    let front : take (at + 11) t ≡ take at s ++ v =
    ap (take (at + 11)) (f ∙ sym (append_assoc (take at s) v (drop (at + length v) s)))
    ∙ take_at (take at s ++ v) (drop (at + length v) s) (at + 11) (simp length-append (omega arith)) in
    let rest : drop (suc (at + 11)) t ≡ drop (at + 12) s = ap (drop (suc (at + 11))) f ∙ drop_spliced s at v (omega arith) (suc (at + 11)) (omega arith) ∙ ap (λ (k : ℕ). drop k s) n in
    set_split t (at + 11) 10 (omega arith) ∙ rw (front, rest, append_assoc) (rw e (simp (append_assoc, length-append) (rw (length_column 11 (checksum_of (take at s))) refl)))

-- ---- the word of a header

-- four bytes, as the code has them
module _ (Z : Shape) (c : ℕ) (s : Bytes) {t : Bytes} {w x y z : ℕ} where
  pub word_put : is_witness Z c ≡ false → w ≡ 114 → x ≡ 111 → y ≡ 112 → z ≡ 101 → t ≡ spliced s 0 (w ∷ x ∷ y ∷ z ∷ []) → t ≡ spliced s 0 (header_word Z c)
  word_put card p q r v h = h ∙ rw (p, q, r, v, word_card Z c card)

  pub witness_put : is_witness Z c ≡ true → w ≡ 119 → x ≡ 105 → y ≡ 116 → z ≡ 115 → t ≡ spliced s 0 (w ∷ x ∷ y ∷ z ∷ []) → t ≡ spliced s 0 (header_word Z c)
  witness_put witness p q r v h = h ∙ rw (p, q, r, v, word_witness Z c witness)

-- ---- the writers, store after store

drop_spaces : (k n : ℕ) → drop {A = ℕ} k (replicate n 32) ≡ replicate (n - k) 32
drop_spaces zero n = rw sub-zero
drop_spaces (suc k) zero = let z : zero - suc k ≡ 0 = omega arith in rw z
drop_spaces (suc k) (suc n) = let z : suc n - suc k ≡ n - k = omega arith in rw z (drop_spaces k n)

length_front : (Z : Shape) (c : ℕ) → length (header_front Z c) ≡ 16
unfolding header_front
length_front Z c =
    let lw = length_word Z c in
    let le = length_column 3 Z.edition in
    let lc = length_column 3 c in
    let ln = length_column 3 Z.n in
    let lm = length_column 3 Z.m in
    simp length-append (omega arith)

front_then : (Z : Shape) (c : ℕ) (t : Bytes)
    → header_front Z c ++ t ≡ header_word Z c ++ (column 3 Z.edition ++ (column 3 c ++ (column 3 Z.n ++ (column 3 Z.m ++ t))))
unfolding header_front
front_then Z c t = simp append_assoc

front_none : (Z : Shape) (c : ℕ) → header_front Z c ≡ header_word Z c ++ (column 3 Z.edition ++ (column 3 c ++ (column 3 Z.n ++ (column 3 Z.m ++ []))))
front_none Z c = sym (append-nil (header_front Z c)) ∙ front_then Z c []

-- what follows the front of a header: the seal
module _ (Z : Shape) (c first : ℕ) (s : Bytes) where
  begun : length s ≡ header_size Z → take 16 s ≡ header_front Z c → Written (header_front Z c) (header_size Z) s
  begun l front = record { begins = rw (length_front Z c) front; sized = l }

  pub header_written : {a : ℕ} {s₆ : Bytes} → gives_first Z ≡ false → a ≡ 16 → s₆ ≡ spliced s a (seal_of (take a s)) → take 16 s ≡ header_front Z c
      → length s ≡ header_size Z → s₆ ≡ header_bytes Z c first
  unfolding header_bytes
  header_written {a} e q h front l =
      let z = header_size_one Z e in
      let x = closed (header_size Z) a (begun l front) (length_front Z c ∙ sym q) (omega arith) h in
      whole x (length_sealed (header_front Z c) ∙ omega (arith, length_front Z c)) ∙ ap sealed (rw (first_none Z first e) (front_none Z c))

  -- or the first index and the seal
  pub first_written : {a b f : ℕ} (s₆ : Bytes) {s₇ : Bytes} → gives_first Z ≡ true → a ≡ 16 → f ≡ first → b ≡ 27 → s₆ ≡ spliced s a (column 11 f)
      → s₇ ≡ spliced s₆ b (seal_of (take b s₆)) → take 16 s ≡ header_front Z c → length s ≡ header_size Z → s₇ ≡ header_bytes Z c first
  unfolding header_bytes
  first_written {a} {b} {f} s₆ e qa qf qb h₆ h₇ front l =
      let z = header_size_two Z e in
      let lf = length_column 11 f in
      let x = then (header_size Z) a (column 11 f) (begun l front) (length_front Z c ∙ sym qa) (omega arith) h₆ in
      let l₆ : length (header_front Z c ++ column 11 f) ≡ b = simp length-append (omega (arith, length_front Z c)) in
      let y = closed (header_size Z) b x l₆ (omega arith) h₇ in
      whole y (length_sealed (header_front Z c ++ column 11 f) ∙ omega arith)
      ∙ ap sealed (rw (first_there Z first e, qf) (front_then Z c (column 11 first)))

module _ (s₀ : Bytes) where
  pub record_written : (e k : ℕ) (s₁ s₂ s₃ : Bytes) → length s₀ ≡ 34 → s₁ ≡ spliced s₀ 0 (column 11 e) → s₂ ≡ spliced s₁ 11 (column 11 k)
      → s₃ ≡ spliced s₂ 22 (seal_of (take 22 s₂)) → s₃ ≡ record_bytes e k
  unfolding record_bytes
  record_written e k s₁ s₂ s₃ h h₁ h₂ h₃ =
      let le = length_column 11 e in
      let lk = length_column 11 k in
      let w₁ = then 34 0 (column 11 e) (start 34 s₀ h) refl (omega arith) h₁ in
      let w₂ = then 34 11 (column 11 k) w₁ le (omega arith) h₂ in
      let l : length (column 11 e ++ column 11 k) ≡ 22 = simp length-append (omega arith) in
      let w₃ = closed 34 22 w₂ l (omega arith) h₃ in
      whole w₃ (length_sealed (column 11 e ++ column 11 k) ∙ omega arith)

  -- the front of a header, of numbers that are the shape's and the replica's
  pub front_written : (Z : Shape) (c : ℕ) {e d n m : ℕ} (s₁ s₂ s₃ s₄ s₅ : Bytes) → 16 ≤ length s₀ → e ≡ Z.edition → d ≡ c → n ≡ Z.n → m ≡ Z.m
      → s₁ ≡ spliced s₀ 0 (header_word Z c) → s₂ ≡ spliced s₁ 4 (column 3 e) → s₃ ≡ spliced s₂ 7 (column 3 d) → s₄ ≡ spliced s₃ 10 (column 3 n)
      → s₅ ≡ spliced s₄ 13 (column 3 m) → take 16 s₅ ≡ header_front Z c
  unfolding header_front
  front_written Z c {e} {d} {n} {m} s₁ s₂ s₃ s₄ s₅ g qe qd qn qm h₁ h₂ h₃ h₄ h₅ =
      let size = length s₀ in
      let lw = length_word Z c in
      let le = length_column 3 e in
      let lc = length_column 3 d in
      let ln = length_column 3 n in
      let lm = length_column 3 m in
      let w₁ = then size 0 (header_word Z c) (start size s₀ refl) refl (omega arith) h₁ in
      let w₂ = then size 4 (column 3 e) w₁ lw (omega arith) h₂ in
      let w₃ = then size 7 (column 3 d) w₂ (simp length-append (omega arith)) (omega arith) h₃ in
      let w₄ = then size 10 (column 3 n) w₃ (simp length-append (omega arith)) (omega arith) h₄ in
      let w₅ = then size 13 (column 3 m) w₄ (simp length-append (omega arith)) (omega arith) h₅ in
      let l : length ((((header_word Z c ++ column 3 e) ++ column 3 d) ++ column 3 n) ++ column 3 m) ≡ 16 = simp length-append (omega arith) in
      (rw l at w₅.begins) ∙ rw (qe, qd, qn, qm)

  pub entry_written : (e k : ℕ) (p : Bytes) (s₁ s₂ s₃ s₄ s₅ s₆ : Bytes) → length s₀ ≡ 240 → length p ≤ 200 → s₁ ≡ replicate (length s₀) 32
      → s₂ ≡ spliced s₁ 0 (column 11 e) → s₃ ≡ spliced s₂ 11 (column 11 k) → s₄ ≡ spliced s₃ 22 (column 4 (length p)) → s₅ ≡ spliced s₄ 26 p
      → s₆ ≡ spliced s₅ (26 + length p) (seal_of (take (26 + length p) s₅)) → s₆ ≡ entry_bytes e k p
  unfolding entry_bytes padded
  entry_written e k p s₁ s₂ s₃ s₄ s₅ s₆ h hp h₁ h₂ h₃ h₄ h₅ h₆ =
      let le = length_column 11 e in
      let lk = length_column 11 k in
      let ll = length_column 4 (length p) in
      let w₁ = start 240 s₁ (ap length h₁ ∙ length-replicate (length s₀) 32 ∙ h) in
      let w₂ = then 240 0 (column 11 e) w₁ refl (omega arith) h₂ in
      let w₃ = then 240 11 (column 11 k) w₂ le (omega arith) h₃ in
      let w₄ = then 240 22 (column 4 (length p)) w₃ (simp length-append (omega arith)) (omega arith) h₄ in
      let w₅ = then 240 26 p w₄ (simp length-append (omega arith)) (omega arith) h₅ in
      let x = ((column 11 e ++ column 11 k) ++ column 4 (length p)) ++ p in
      let y = column 11 e ++ (column 11 k ++ (column 4 (length p) ++ p)) in
      let xy : ((column 11 e ++ column 11 k) ++ column 4 (length p)) ++ p ≡ column 11 e ++ (column 11 k ++ (column 4 (length p) ++ p)) = simp append_assoc in
      let l : length (((column 11 e ++ column 11 k) ++ column 4 (length p)) ++ p) ≡ 26 + length p = simp length-append (omega arith) in
      let w₆ = closed 240 (26 + length p) w₅ l (omega arith) h₆ in
      let ls : length (sealed x) ≡ 38 + length p = length_sealed x ∙ omega arith in
      let lp : length (seal_of (take (26 + length p) s₅)) ≡ 12 = length_seal (take (26 + length p) s₅) in
      let rest : drop (38 + length p) s₆ ≡ replicate (240 - (38 + length p)) 32 =
      ap (drop (38 + length p)) h₆
      ∙ drop_spliced s₅ (26 + length p) (seal_of (take (26 + length p) s₅)) (omega (arith, w₅.sized)) (38 + length p) (omega arith)
      ∙ ap (drop (38 + length p)) h₅
      ∙ drop_spliced s₄ 26 p (omega (arith, w₄.sized)) (38 + length p) (omega arith)
      ∙ ap (drop (38 + length p)) h₄
      ∙ drop_spliced s₃ 22 (column 4 (length p)) (omega (arith, w₃.sized)) (38 + length p) (omega arith)
      ∙ ap (drop (38 + length p)) h₃
      ∙ drop_spliced s₂ 11 (column 11 k) (omega (arith, w₂.sized)) (38 + length p) (omega arith)
      ∙ ap (drop (38 + length p)) h₂
      ∙ drop_spliced s₁ 0 (column 11 e) (omega (arith, w₁.sized)) (38 + length p) (omega arith)
      ∙ ap (drop (38 + length p)) (h₁ ∙ ap (λ (n : ℕ). replicate n 32) h)
      ∙ drop_spaces (38 + length p) 240 in
      sym (take-append-drop (38 + length p) s₆)
      ∙ rw (rest, ← xy, ls) (ap (λ (b : Bytes). b ++ replicate (240 - (38 + length p)) 32) (rw ls at w₆.begins))

pub blank_written : (s s₁ : Bytes) → length s ≡ 34 → s₁ ≡ replicate (length s) 32 → set s₁ 33 10 ≡ blank_record
unfolding blank_record
blank_written s s₁ h e = ap (λ (b : Bytes). set b 33 10) (e ∙ ap (λ (n : ℕ). replicate n 32) h)

pub fresh_written : (s s₁ : Bytes) → length s ≡ 240 → s₁ ≡ replicate (length s) 32 → s₁ ≡ fresh_entry
unfolding fresh_entry
fresh_written s s₁ h e = e ∙ ap (λ (n : ℕ). replicate n 32) h
