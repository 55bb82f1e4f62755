-- A splice inside a part of a bigger buffer, and splices at two offsets.
use Prim.Native.Nat.{ℕ, zero, suc, ◌+◌, ◌-◌, ◌*◌, ◌≤◌, ◌<◌}
use mathlib.Core.Path.{◌≡◌, refl, sym, ap, ap₂, ◌∙◌}
use mathlib.Core.List.{[], ◌∷◌, ◌++◌}
use native.Mathlib.Omega.{arith}
use native.Mathlib.Nat.{zero-mul}
use lib.ListN.{length, take, drop, length-drop, take-append-drop}
use lib.Seq.{drop-drop}
use Rattle.slices.specs.Parts.{Bytes, part, spliced}
use Rattle.slices.proofs.PartLaws.{length_part, part_part, take_part, drop_part, part_drop, part_ext}
use Rattle.slices.proofs.SpliceLaws.{length_spliced, take_spliced, drop_spliced, spliced_here, spliced_before, spliced_behind}

-- a splice within a part, seen in the part
pub part_spliced : (b : Bytes) (a l i : ℕ) (v : Bytes) → a + l ≤ length b → i + length v ≤ l
    → part (spliced b (a + i) v) a l ≡ spliced (part b a l) i v
part_spliced b a l i v h k =
    part_ext i (length v) _ _
    (take_part (spliced b (a + i) v) a l i (omega arith) ∙ spliced_before b (a + i) v (omega arith) a i (omega arith)
    ∙ sym (take_spliced (part b a l) i v inner i (omega arith) ∙ take_part b a l i (omega arith)))
    (part_part (spliced b (a + i) v) a l i (length v) k ∙ spliced_here b (a + i) v (omega arith) (length v) refl ∙ sym (spliced_here (part b a l) i v inner (length v) refl))
    (rest (spliced b (a + i) v) ∙ spliced_behind b (a + i) v (omega arith) (a + (i + length v)) r (omega arith)
    ∙ sym (drop_spliced (part b a l) i v inner (i + length v) (omega arith) ∙ rest b))
  where
    r : ℕ
    r = l - (i + length v)

    inner : i + length v ≤ length (part b a l)
    inner = rw (length_part b a l h) k

    whole : l ≡ i + length v + r
    whole = omega arith

    rest : (z : Bytes) → drop (i + length v) (part z a l) ≡ part z (a + (i + length v)) r
    rest z = ap (λ (q : ℕ). drop (i + length v) (part z a q)) whole ∙ drop_part z a (i + length v) r

-- a splice seen behind a front
pub rest_spliced : (b : Bytes) (d a : ℕ) (v : Bytes) → d ≤ a → a + length v ≤ length b → drop d (spliced b a v) ≡ spliced (drop d b) (a - d) v
rest_spliced b d a v h k =
    let e : a ≡ d + (a - d) = omega arith in
    let n = length b - d in
    sym (part_drop (spliced b a v) d n (length_spliced b a v k ∙ omega arith)) ∙ ap (λ (q : ℕ). part (spliced b q v) d n) e
    ∙ part_spliced b d n (a - d) v (omega arith) (omega arith) ∙ ap (λ (z : Bytes). spliced z (a - d) v) (part_drop b d n (omega arith))

-- splices of parts that do not meet, in either order
pub spliced_comm : (b : Bytes) (a c : ℕ) (v w : Bytes) → a + length v ≤ c → c + length w ≤ length b
    → spliced (spliced b a v) c w ≡ spliced (spliced b c w) a v
spliced_comm b a c v w h k =
    part_ext a (length v) _ _
    (take_spliced (spliced b a v) c w kv a (omega arith) ∙ take_spliced b a v hv a (omega arith)
    ∙ sym (take_spliced (spliced b c w) a v hw a (omega arith) ∙ take_spliced b c w k a (omega arith)))
    (spliced_before (spliced b a v) c w kv a (length v) h ∙ spliced_here b a v hv (length v) refl ∙ sym (spliced_here (spliced b c w) a v hw (length v) refl))
    (rest_spliced (spliced b a v) (a + length v) c w h kv
    ∙ ap (λ (z : Bytes). spliced z (c - (a + length v)) w) (drop_spliced b a v hv (a + length v) (omega arith))
    ∙ sym (drop_spliced (spliced b c w) a v hw (a + length v) (omega arith) ∙ rest_spliced b (a + length v) c w h k))
  where
    hv : a + length v ≤ length b
    hv = omega arith

    kv : c + length w ≤ length (spliced b a v)
    kv = rw (length_spliced b a v hv) k

    hw : a + length v ≤ length (spliced b c w)
    hw = rw (length_spliced b c w k) hv

-- ---- slots of one size

slot_first : (s : ℕ) (z : Bytes) → part z (0 * s) s ≡ take s z
unfolding part
slot_first s z = rw zero-mul

slot_later : (s j : ℕ) (z : Bytes) → part (drop s z) (j * s) s ≡ part z (suc j * s) s
unfolding part
slot_later s j z =
    let e : s + j * s ≡ suc j * s = omega arith in
    ap (take s) (drop-drop (j * s) s z ∙ ap (λ (n : ℕ). drop n z) e)

-- buffers of n slots are equal if every slot is
pub slots_ext : (s n : ℕ) (b c : Bytes) → length b ≡ n * s → length c ≡ n * s
    → ((j : ℕ) → j < n → part b (j * s) s ≡ part c (j * s) s) → b ≡ c
slots_ext s zero b c p q h = nil b (omega arith) ∙ sym (nil c (omega arith))
  where
    nil : (z : Bytes) → length z ≡ 0 → z ≡ []
    nil [] e = refl
    nil (x ∷ z) e = absurd (omega arith)
slots_ext s (suc n) b c p q h =
    sym (take-append-drop s b)
    ∙ ap₂ (λ (u v : Bytes). u ++ v) first (slots_ext s n (drop s b) (drop s c) (rw length-drop (omega arith)) (rw length-drop (omega arith)) later)
    ∙ take-append-drop s c
  where
    first : take s b ≡ take s c
    first = sym (slot_first s b) ∙ h 0 (omega arith) ∙ slot_first s c

    later : (j : ℕ) → j < n → part (drop s b) (j * s) s ≡ part (drop s c) (j * s) s
    later j g = slot_later s j b ∙ h (suc j) (omega arith) ∙ sym (slot_later s j c)
