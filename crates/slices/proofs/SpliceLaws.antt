-- Laws of a buffer with a part written anew: what changes, and what does not.
use Prim.Native.Nat.{ℕ, ◌+◌, ◌-◌, ◌*◌, ◌≤◌, ◌<◌}
use mathlib.Core.Path.{◌≡◌, refl, sym, ap, ap₂, ◌∙◌}
use mathlib.Core.Logic.{◌≢◌}
use mathlib.Core.List.{◌++◌, append_assoc}
use native.Mathlib.Omega.{arith}
use native.Mathlib.Nat.{mul-le-mul_left}
use native.Mathlib.Decide.{dec_lt}
use lib.ListN.{length, take, drop, length-append, length-take, length-drop}
use lib.Seq.{length-take-le, take_at, drop_at, take-append-le, drop-append-add, take-take, drop-drop}
use borrow.Rule.Slice.PartMut.{put_mid}
use Rattle.slices.specs.Parts.{Bytes, part, spliced}
use Rattle.slices.proofs.PartLaws.{drop_take, length_part, part_split}

module _ (b : Bytes) (a : ℕ) (v : Bytes) (fits : a + length v ≤ length b) where
  pub length_spliced : length (spliced b a v) ≡ length b
  unfolding spliced
  length_spliced = simp (length-append, length-take, length-drop) (omega arith)

  length_front : length (take a b) ≡ a
  length_front = length-take-le a b (omega arith)

  -- all that stands before the splice, and all that stands behind
  pub take_spliced : (i : ℕ) → i ≤ a → take i (spliced b a v) ≡ take i b
  unfolding spliced
  take_spliced i k = take-append-le i (take a b) _ (omega (arith, length_front)) ∙ take-take i a b k

  pub drop_spliced : (i : ℕ) → a + length v ≤ i → drop i (spliced b a v) ≡ drop i b
  unfolding spliced
  drop_spliced i k =
      let m = i - (a + length v) in
      let f : Bytes = take a b ++ v in
      let e : i ≡ length f + m = simp length-append (omega (arith, length_front)) in
      let d : a + length v + m ≡ i = omega arith in
      ap (drop i) (sym (append_assoc (take a b) v (drop (a + length v) b)))
      ∙ ap (λ (n : ℕ). drop n (f ++ drop (a + length v) b)) e
      ∙ drop-append-add f (drop (a + length v) b) m
      ∙ drop-drop m (a + length v) b
      ∙ ap (λ (n : ℕ). drop n b) d

  -- the part that was written
  pub spliced_here : (l : ℕ) → length v ≡ l → part (spliced b a v) a l ≡ v
  unfolding part spliced
  spliced_here l e = rw (drop_at (take a b) (v ++ drop (a + length v) b) a length_front) (take_at v _ l e)

  -- a part wholly before it, and one wholly behind
  pub spliced_before : (i l : ℕ) → i + l ≤ a → part (spliced b a v) i l ≡ part b i l
  unfolding part
  spliced_before i l k = rw (← drop_take i l (spliced b a v), ← drop_take i l b) (ap (drop i) (take_spliced (i + l) k))

  pub spliced_behind : (i l : ℕ) → a + length v ≤ i → part (spliced b a v) i l ≡ part b i l
  unfolding part
  spliced_behind i l k = ap (take l) (drop_spliced i k)

  -- of two splices at one offset the last one stays
  pub spliced_twice : (w : Bytes) → length w ≡ length v → spliced (spliced b a v) a w ≡ spliced b a w
  unfolding spliced
  spliced_twice w e = ap₂ (λ (p q : Bytes). p ++ (w ++ q)) (take_spliced a (omega arith)) (drop_spliced (a + length w) (omega arith))

-- what stands there, spliced back, changes nothing
pub spliced_back : (b : Bytes) (a l : ℕ) → a + l ≤ length b → spliced b a (part b a l) ≡ b
unfolding spliced
spliced_back b a l h = rw (length_part b a l h) (sym (part_split b a l))

-- what follows a front that is written already
pub spliced_next : (x y v : Bytes) (a : ℕ) → length x ≡ a → spliced (x ++ y) a v ≡ x ++ (v ++ drop (length v) y)
unfolding spliced
spliced_next x y v a e = ap₂ (λ (p q : Bytes). p ++ (v ++ q)) (take_at x y a e) (rw (← e) (drop-append-add x y (length v)))

-- what is left of a lent middle part, as the borrow checker says it
pub spliced_lent : (b : Bytes) (a k : ℕ) (v : Bytes) → length v ≡ k → put_mid a k b v ≡ spliced b a v
unfolding spliced
spliced_lent b a k v h = rw (← h, drop-drop) refl

-- a lent middle part that is written
pub part_put : (b : Bytes) (a l : ℕ) (v : Bytes) {x : Bytes} → x ≡ v → length v ≡ l → put_mid a (a + l - a) b x ≡ spliced b a v
part_put b a l v e h =
    let k : a + l - a ≡ l = omega arith in
    rw (k, e) (spliced_lent b a l v h)

-- the part as it is lent, from offset to end
pub part_lent : (b : Bytes) (a l : ℕ) → take (a + l - a) (drop a b) ≡ part b a l
unfolding part
part_lent b a l = let e : a + l - a ≡ l = omega arith in rw e

-- a part loaded from one offset and stored at another
pub spliced_copy : (b : Bytes) (from to l : ℕ) {u v : Bytes} → from + l ≤ length b → u ≡ take (from + l - from) (drop from b) → v ≡ u
    → put_mid to (to + l - to) b v ≡ spliced b to (part b from l)
spliced_copy b from to l {u} {v} h p q =
    let e : v ≡ part b from l = q ∙ p ∙ part_lent b from l in
    let n : length v ≡ to + l - to = ap length e ∙ length_part b from l h ∙ omega arith in
    spliced_lent b to (to + l - to) v n ∙ ap (spliced b to) e

-- ---- slots of one size s, from offset a on: a splice of one leaves every other

pub spliced_other : (b v : Bytes) (a s j k : ℕ) → length v ≡ s → a + s * k + s ≤ length b → j ≢ k
    → part (spliced b (a + s * k) v) (a + s * j) s ≡ part b (a + s * j) s
spliced_other b v a s j k e h n = go (dec_lt j k)
  where
    go : Dec (j < k) → part (spliced b (a + s * k) v) (a + s * j) s ≡ part b (a + s * j) s
    go (yes c) = spliced_before b (a + s * k) v (omega arith) (a + s * j) s (omega (arith, mul-le-mul_left s c))
    go (no c) =
        let d : k + 1 ≤ j = omega (arith, n) in
        spliced_behind b (a + s * k) v (omega arith) (a + s * j) s (omega (arith, mul-le-mul_left s d))
