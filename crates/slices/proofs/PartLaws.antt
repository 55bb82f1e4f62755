-- Laws of the parts of a buffer.
use Prim.Native.Nat.{ℕ, zero, suc, ◌+◌, ◌≤◌}
use mathlib.Core.Path.{◌≡◌, refl, sym, ap, ap₂, ◌∙◌}
use mathlib.Core.List.{[], ◌∷◌, ◌++◌}
use native.Mathlib.Omega.{arith}
use native.Mathlib.Nat.{suc-add, zero-add}
use lib.ListN.{length, take, drop, length-take, length-drop, take-append-drop}
use lib.Seq.{take_all, take_at, drop_at, take-append-le, drop-append-le, drop-append-add, take-take, drop-drop, take-add, drop-nil, take-nil}
use Rattle.slices.specs.Parts.{Bytes, part}

pub drop_take : (a l : ℕ) (b : Bytes) → drop a (take (a + l) b) ≡ take l (drop a b)
drop_take zero l b = rw zero-add
drop_take (suc a) l [] = rw (take-nil, drop-nil, take-nil)
drop_take (suc a) l (x ∷ b) = rw suc-add (drop_take a l b)

pub length_part : (b : Bytes) (a l : ℕ) → a + l ≤ length b → length (part b a l) ≡ l
unfolding part
length_part b a l h = simp (length-take, length-drop) (omega arith)

pub part_whole : (b : Bytes) (l : ℕ) → length b ≡ l → part b 0 l ≡ b
unfolding part
part_whole b l h = take_all l b (omega arith)

-- the front of a buffer, and its rest
pub part_take : (b : Bytes) (l : ℕ) → part b 0 l ≡ take l b
unfolding part
part_take b l = refl

pub part_drop : (b : Bytes) (a l : ℕ) → length b ≡ a + l → part b a l ≡ drop a b
unfolding part
part_drop b a l h = take_all l (drop a b) (simp length-drop (omega arith))

-- ---- parts of an append

-- before the seam
pub part_front : (x y : Bytes) (a l : ℕ) → a + l ≤ length x → part (x ++ y) a l ≡ part x a l
unfolding part
part_front x y a l h =
    ap (take l) (drop-append-le a x y (omega arith)) ∙ take-append-le l (drop a x) y (simp length-drop (omega arith))

-- behind it
pub part_back : (x y : Bytes) (a l n : ℕ) → length x ≡ n → part (x ++ y) (n + a) l ≡ part y a l
unfolding part
part_back x y a l n h = ap (take l) (rw (← h) (drop-append-add x y a))

-- exactly what was appended
pub part_first : (x y : Bytes) (l : ℕ) → length x ≡ l → part (x ++ y) 0 l ≡ x
unfolding part
part_first x y l h = take_at x y l h

pub part_last : (x y : Bytes) (a l : ℕ) → length x ≡ a → length y ≡ l → part (x ++ y) a l ≡ y
unfolding part
part_last x y a l h k = ap (take l) (drop_at x y a h) ∙ take_all l y (omega arith)

pub part_middle : (x y z : Bytes) (a l : ℕ) → length x ≡ a → length y ≡ l → part (x ++ (y ++ z)) a l ≡ y
unfolding part
part_middle x y z a l h k = ap (take l) (drop_at x (y ++ z) a h) ∙ take_at y z l k

-- ---- parts of parts

pub part_part : (b : Bytes) (a l i n : ℕ) → i + n ≤ l → part (part b a l) i n ≡ part b (a + i) n
unfolding part
part_part b a l i n h =
    sym (drop_take i n (take l (drop a b)))
    ∙ ap (drop i) (take-take (i + n) l (drop a b) h)
    ∙ drop_take i n (drop a b)
    ∙ ap (take n) (drop-drop i a b)

-- the first bytes of a part, and the others
pub take_part : (b : Bytes) (a l i : ℕ) → i ≤ l → take i (part b a l) ≡ part b a i
unfolding part
take_part b a l i h = take-take i l (drop a b) h

pub drop_part : (b : Bytes) (a i r : ℕ) → drop i (part b a (i + r)) ≡ part b (a + i) r
unfolding part
drop_part b a i r = drop_take i r (drop a b) ∙ ap (take r) (drop-drop i a b)

-- two parts that follow one another are one
pub part_join : (b : Bytes) (a l m : ℕ) → part b a l ++ part b (a + l) m ≡ part b a (l + m)
unfolding part
part_join b a l m = sym (take-add l m (drop a b) ∙ ap (λ (z : Bytes). take l (drop a b) ++ take m z) (drop-drop l a b))

-- a buffer is what stands before a part, the part, and what stands behind
pub part_split : (b : Bytes) (a l : ℕ) → b ≡ take a b ++ (part b a l ++ drop (a + l) b)
unfolding part
part_split b a l = sym (rw (← drop-drop l a b, take-append-drop l (drop a b)) (take-append-drop a b))

-- two buffers are equal if they are in these three
pub part_ext : (a l : ℕ) (b c : Bytes) → take a b ≡ take a c → part b a l ≡ part c a l → drop (a + l) b ≡ drop (a + l) c → b ≡ c
part_ext a l b c p q r =
    part_split b a l ∙ ap₂ (λ (u v : Bytes). u ++ v) p (ap₂ (λ (u v : Bytes). u ++ v) q r) ∙ sym (part_split c a l)
