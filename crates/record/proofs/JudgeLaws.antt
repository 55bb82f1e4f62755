-- What the writer writes is compared part by part: columns, seals, and what records and entries begin with.
use Prim.Native.Nat.{ℕ, suc, ◌+◌, ◌-◌, ◌<◌, ◌≤◌}
use mathlib.Core.Path.{◌≡◌, refl, sym, ◌∙◌, ap}
use mathlib.Core.Bool.{Bool, true, false, ◌&&◌}
use mathlib.Core.List.{[], ◌∷◌, ◌++◌}
use mathlib.Core.Logic.{◌⊎◌, inl, inr}
use native.Mathlib.Omega.{arith}
use lib.Dec.{eqb}
use lib.ListN.{length, take, drop, get_or, replicate, length-append, length-take, length-drop, take-append-drop, drop_of_length-le}
use lib.Seq.{take_all, drop-cons, drop-drop, get_or-take, get_or-drop}
use borrow.Author.Tests.{lt-leb, eq-eqb, ne_eqb}
use Rattle.slices.specs.Parts.{Bytes, part}
use Rattle.slices.specs.Same.{same}
use Rattle.slices.proofs.SameLaws.{and_off, same_true, same_append, and_on}
use Rattle.slices.proofs.PartLaws.{length_part, take_part, drop_part}
use Rattle.checksum.specs.Checksum.{checksum_of}
use Rattle.column.specs.Column.{column}
use Rattle.column.proofs.ColumnLaws.{length_column}
use Rattle.record.specs.Layout.{sealed}
use Rattle.record.specs.Meaning.{is_epoch}
use Rattle.record.specs.Seal.{seal_of, is_front}
use Rattle.record.proofs.RecordLaws.{is_epoch_lem}

-- ---- tests that follow one another

-- the second matters only where the first holds
and_when : (t u v : Bool) → (t ≡ true → u ≡ v) → t && u ≡ t && v
and_when true u v h = h refl
and_when false u v h = refl

-- a test of two: the first decides where it fails, and else the second does
pub and_first : {x r : Bool} (a b : Bool) → x ≡ a && b → r ≡ a → r ≡ false → r ≡ x
and_first a b e h f = f ∙ sym (e ∙ ap (λ (t : Bool). t && b) (sym h ∙ f))

pub and_next : {x r u : Bool} (a b : Bool) → x ≡ a && b → r ≡ a → r ≡ true → u ≡ b → u ≡ x
and_next a b e h f k = k ∙ sym (e ∙ ap (λ (t : Bool). t && b) (sym h ∙ f))

-- ---- lists that are compared in two parts

same_cut : (s x y : Bytes) (a : ℕ) → length x ≡ a → a ≤ length s → same s (x ++ y) ≡ same (take a s) x && same (drop a s) y
same_cut s x y a h k =
    ap (λ (z : Bytes). same z (x ++ y)) (sym (take-append-drop a s))
    ∙ same_append (take a s) (drop a s) x y (simp length-take (omega arith))

-- where what follows is made of the front, it may be made of the front that is found
pub same_front : (s x : Bytes) (a : ℕ) (f : Bytes → Bytes) → length x ≡ a → a ≤ length s
    → same s (x ++ f x) ≡ same (take a s) x && same (drop a s) (f (take a s))
same_front s x a f h k =
    same_cut s x (f x) a h k
    ∙ and_when (same (take a s) x) _ _ (λ e. ap (λ (z : Bytes). same (drop a s) (f z)) (sym (same_true (take a s) x e)))

-- a part that begins with a column
pub same_column : (s y : Bytes) (a w l x : ℕ) → a + (w + l) ≤ length s
    → same (part s a (w + l)) (column w x ++ y) ≡ same (part s a w) (column w x) && same (part s (a + w) l) y
same_column s y a w l x h =
    rw (← take_part s a (w + l) w (omega arith), ← drop_part s a w l)
    (same_cut (part s a (w + l)) (column w x) y w (length_column w x) (rw (length_part s a (w + l) h) (omega arith)))

-- a list that ends in one byte
pub same_last : (s x : Bytes) (a v : ℕ) → length x ≡ a → length s ≡ a + 1
    → same s (x ++ (v ∷ [])) ≡ same (take a s) x && eqb (get_or s a 0) v
unfolding same
same_last s x a v h k =
    same_cut s x (v ∷ []) a h (omega arith) ∙ ap (λ (t : Bool). same (take a s) x && t) one
  where
    rest : drop a s ≡ get_or s a 0 ∷ []
    rest = drop-cons s a 0 (omega arith) ∙ ap (λ (z : Bytes). get_or s a 0 ∷ z) (drop_of_length-le s {i = suc a} (omega arith))

    one : same (drop a s) (v ∷ []) ≡ eqb (get_or s a 0) v
    one = rw rest (and_on (eqb (get_or s a 0) v))

-- ---- columns, as the crate `column` compares them

module _ (s : Bytes) (a w x : ℕ) (h : a + w ≤ length s) where
  pub column_here : same (take w (drop a s)) (column (length (take w (drop a s))) x) ≡ same (part s a w) (column w x)
  unfolding part
  column_here = ap (λ (n : ℕ). same (take w (drop a s)) (column n x)) (length_part s a w h)

-- ---- seals

pub length_seal : (x : Bytes) → length (seal_of x) ≡ 12
unfolding seal_of
length_seal x = simp length-append (omega (arith, length_column 11 (checksum_of x)))

pub sealed_is : (x : Bytes) → sealed x ≡ x ++ seal_of x
unfolding sealed seal_of
sealed_is x = refl

part_byte : (s : Bytes) (a l i : ℕ) → i < l → get_or (part s a l) i 0 ≡ get_or s (a + i) 0
unfolding part
part_byte s a l i h = get_or-take l (drop a s) i 0 h ∙ get_or-drop a s i 0

module _ (s x : Bytes) (a : ℕ) (h : a + 12 ≤ length s) where
  seal_tests : same (part s a 12) (seal_of x) ≡ same (part s a 11) (column 11 (checksum_of x)) && eqb (get_or s (a + 11) 0) 10
  unfolding seal_of
  seal_tests =
      same_last (part s a 12) (column 11 (checksum_of x)) 11 10 (length_column 11 (checksum_of x)) (length_part s a 12 h)
      ∙ rw (take_part s a 12 11 (omega arith), part_byte s a 12 11 (omega arith))

  -- no newline
  pub seal_open : ¬ (get_or s (a + 11) 0 ≡ 10) → eqb (get_or s (a + 11) 0) 10 ≡ same (part s a 12) (seal_of x)
  seal_open k = sym (rw (seal_tests, ne_eqb _ 10 k) (simp and_off))

-- a newline: the checksum decides
pub seal_shut : (s : Bytes) (a sum : ℕ) (r : Bool) → a + 12 ≤ length s → get_or s (a + 11) 0 ≡ 10 → sum ≡ checksum_of (take (a - 0) s)
    → r ≡ same (take (a + 11 - a) (drop a s)) (column (length (take (a + 11 - a) (drop a s))) sum)
    → r ≡ same (part s a 12) (seal_of (take a s))
seal_shut s a sum r h k e t =
    let p : a + 11 - a ≡ 11 = omega arith in
    let q : a - 0 ≡ a = omega arith in
    let u : r ≡ same (part s a 11) (column 11 sum) = (rw p at t) ∙ column_here s a 11 sum (omega arith) in
    let v : sum ≡ checksum_of (take a s) = rw q at e in
    u ∙ sym (rw (seal_tests s (take a s) a h, eq-eqb _ 10 k, ← v) (and_on _))

-- the seal, and spaces behind it up to the end of an entry
abbrev pub close : ℕ → Bytes → Bytes
close a x = seal_of x ++ replicate (240 - (a + 12)) 32

module _ (s x : Bytes) (a : ℕ) (h : length s ≡ 240) (l : a + 12 ≤ 240) where
  pub close_tests : same (drop a s) (close a x) ≡ same (part s a 12) (seal_of x) && same (drop (a + 12) s) (replicate (240 - (a + 12)) 32)
  unfolding part
  close_tests =
      same_cut (drop a s) (seal_of x) (replicate (240 - (a + 12)) 32) 12 (length_seal x) (simp length-drop (omega arith)) ∙ rw drop-drop

-- the spaces, as they are compared
pub close_spaces : (s : Bytes) (a : ℕ) → length s ≡ 240 → a + 12 ≤ 240
    → same (take (240 - (a + 12)) (drop (a + 12) s)) (replicate (length (take (240 - (a + 12)) (drop (a + 12) s))) 32)
    ≡ same (drop (a + 12) s) (replicate (240 - (a + 12)) 32)
close_spaces s a h l =
    let w : length (drop (a + 12) s) ≡ 240 - (a + 12) = simp length-drop (omega arith) in
    let z : take (240 - (a + 12)) (drop (a + 12) s) ≡ drop (a + 12) s = take_all (240 - (a + 12)) (drop (a + 12) s) (omega arith) in
    rw (z, w)

-- ---- fronts

module _ (k e : ℕ) (s : Bytes) where
  pub front_no_epoch : (e < 1) ⊎ ((1 ≤ e) × (4294967295 < e)) → false ≡ is_front k e s
  unfolding is_front is_epoch
  front_no_epoch (inl h) = sym (rw (lt-leb 1 e h))
  front_no_epoch (inr h) = sym (rw (lt-leb e 4294967295 h.1) (simp and_off))

  -- of an epoch the columns decide
  pub front_columns : 1 ≤ e → e ≤ 4294967295 → is_front k e s ≡ same (part s 0 11) (column 11 e) && same (part s 11 11) (column 11 k)
  unfolding is_front
  front_columns lo hi = rw (is_epoch_lem e lo hi)
