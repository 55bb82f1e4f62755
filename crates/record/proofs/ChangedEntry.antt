-- An intact entry with one or two payload bytes changed is never intact.
use Prim.Native.Nat.{ℕ, ◌+◌, ◌-◌, ◌*◌, ◌<◌, ◌≤◌}
use mathlib.Core.Path.{◌≡◌, refl, sym, ◌∙◌, ap, ap₂}
use mathlib.Core.List.{◌++◌}
use native.Mathlib.Omega.{arith}
use lib.ListN.{length, take, drop, get_or, set, take-append-drop}
use lib.Seq.{take-set-le, take-set-lt, drop-set-lt, get_or-take, length-take-le}
use Rattle.slices.specs.Parts.{Bytes, part}
use Rattle.slices.proofs.PartLaws.{drop_take}
use Rattle.checksum.specs.Checksum.{checksum_of}
use Rattle.checksum.proofs.ChangedLaws.{stores_show}
use Rattle.column.specs.Column.{value_of}
use Rattle.record.specs.Meaning.{intact, broken, read_entry}
use Rattle.record.specs.Exactly.{IntactFor}
use Rattle.record.proofs.EntryLaws.{entry_length, entry_checksum, intact_length, intact_for, broken_read}

-- the column at n holds the checksum of the n bytes before it
abbrev SealedAt : ℕ → Bytes → Type 0
SealedAt n b = value_of (part b n 11) ≡ checksum_of (take n b)

-- two stores before such a column that leave it right leave every byte
sealed_stores : (n : ℕ) (b : Bytes) (i j x y : ℕ) → n ≤ length b → i < n → j < n → ((j - i) + (i - j)) * 255 < 65535
    → get_or b i 0 < 256 → get_or b j 0 < 256 → x < 256 → y < 256
    → SealedAt n b → SealedAt n (set (set b i x) j y) → set (set b i x) j y ≡ b
unfolding part
sealed_stores n b i j x y fits hi hj far bi bj hx hy s t =
    sym (take-append-drop n c) ∙ ap₂ (λ (u v : Bytes). u ++ v) (before ∙ kept) behind ∙ take-append-drop n b
  where
    c : Bytes
    c = set (set b i x) j y

    before : take n c ≡ set (set (take n b) i x) j y
    before = take-set-lt n (set b i x) j y hj ∙ ap (λ (z : Bytes). set z j y) (take-set-lt n b i x hi)

    behind : drop n c ≡ drop n b
    behind = drop-set-lt n (set b i x) j y hj ∙ drop-set-lt n b i x hi

    sums : checksum_of (set (set (take n b) i x) j y) ≡ checksum_of (take n b)
    sums = ap checksum_of (sym before) ∙ sym t ∙ ap (λ (z : Bytes). value_of (take 11 z)) behind ∙ s

    kept : set (set (take n b) i x) j y ≡ take n b
    kept =
        let l = length-take-le n b fits in
        stores_show (take n b) i j x y (rw l hi) (rw l hj) far (rw (get_or-take n b i 0 hi) bi) (rw (get_or-take n b j 0 hj) bj) hx hy sums

-- what stands before byte 26 stays
length_kept : (b : Bytes) (i j x y : ℕ) → part (set (set b (26 + i) x) (26 + j) y) 22 4 ≡ part b 22 4
unfolding part
length_kept b i j x y =
    sym (drop_take 22 4 (set (set b (26 + i) x) (26 + j) y))
    ∙ ap (drop 22) (take-set-le 26 (set b (26 + i) x) (26 + j) y (omega arith) ∙ take-set-le 26 b (26 + i) x (omega arith))
    ∙ drop_take 22 4 b

-- for every entry and every two changes that change anything; and for no index is the changed entry intact
pub changed_twice : (k e : ℕ) (p b : Bytes) (i j x y k' : ℕ) → read_entry k b ≡ intact e p → i < length p → j < length p
    → get_or b (26 + i) 0 < 256 → get_or b (26 + j) 0 < 256 → x < 256 → y < 256
    → ¬ (set (set b (26 + i) x) (26 + j) y ≡ b)
    → read_entry k' (set (set b (26 + i) x) (26 + j) y) ≡ broken (set (set b (26 + i) x) (26 + j) y)
changed_twice k e p b i j x y k' h hi hj bi bj hx hy differs = broken_read k' c (λ e' p' m. differs (same e' p' m))
  where
    c : Bytes
    c = set (set b (26 + i) x) (26 + j) y

    w : IntactFor k e p b
    w = intact_for k b e p h

    fits : 26 + length p ≤ length b
    fits = omega (arith, w.short, intact_length k e p b w)

    as_long : (e' : ℕ) (p' : Bytes) → IntactFor k' e' p' c → length p' ≡ length p
    as_long e' p' m =
        sym (rw m.bytes (entry_length e' k' p' m.short)) ∙ ap value_of (length_kept b i j x y) ∙ rw w.bytes (entry_length e k p w.short)

    sealed_for : (q : ℕ) (z : Bytes) (l d : ℕ) (r : Bytes) → IntactFor l d r z → length r ≡ q → SealedAt (26 + q) z
    sealed_for q z l d r m g = rw (m.bytes, ← g) (entry_checksum d l r)

    same : (e' : ℕ) (p' : Bytes) → IntactFor k' e' p' c → c ≡ b
    same e' p' m =
        sealed_stores (26 + length p) b (26 + i) (26 + j) x y fits (omega arith) (omega arith) (omega (arith, w.short)) bi bj hx hy
        (sealed_for (length p) b k e p w refl) (sealed_for (length p) c k' e' p' m (as_long e' p' m))
