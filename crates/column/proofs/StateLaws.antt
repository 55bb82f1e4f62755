-- What a column is read as, in both directions.
use Prim.Native.Nat.{ℕ, zero, suc, ◌/◌, ◌^◌, ◌≤◌, ◌<◌}
use mathlib.Core.Path.{◌≡◌, refl, sym, ap, ◌∙◌}
use mathlib.Core.Bool.{Bool, true, false, cond}
use mathlib.Core.List.{[]}
use native.Mathlib.Omega.{arith}
use lib.ListN.{length, get_or, replicate, length-replicate, get_or-replicate}
use lib.Seq.{get_or_at}
use Rattle.slices.specs.Parts.{Bytes}
use Rattle.slices.specs.Same.{same}
use Rattle.slices.proofs.SameLaws.{same_true, same_false, same_eq, same_differs}
use Rattle.column.specs.Column.{digits, column, value_of}
use Rattle.column.specs.Digit.{last_byte}
use Rattle.column.specs.ColumnState.{column_state, Holds}
use Rattle.column.specs.declared.ColumnState.{ColumnState}
use Rattle.column.specs.declared.ColumnState.TheVariants.{Number, Blank, Malformed}
use Rattle.column.proofs.ColumnLaws.{length_digits, length_column, column_suc, value_column, value_lt}

-- ---- the reader's three ways

module _ (b : Bytes) (v : ℕ) (is : v ≡ value_of b) where
  pub state_number : same b (column (length b) v) ≡ true → Number v ≡ column_state b
  unfolding column_state
  state_number h = rw (← is) (rw h refl)

  pub state_blank : same b (column (length b) v) ≡ false → same b (replicate (length b) 32) ≡ true → Blank ≡ column_state b
  unfolding column_state
  state_blank h k = rw (← is) (rw (h, k) refl)

  pub state_malformed : same b (column (length b) v) ≡ false → same b (replicate (length b) 32) ≡ false → Malformed ≡ column_state b
  unfolding column_state
  state_malformed h k = rw (← is) (rw (h, k) refl)

-- ---- a number

holds_value : (b : Bytes) (x : ℕ) → Holds b x → value_of b ≡ x
holds_value b x h = ap value_of h.bytes ∙ value_column (length b) x h.fits

pub number_if : (b : Bytes) (x : ℕ) → Holds b x → column_state b ≡ Number x
number_if b x h = sym (state_number b x (sym (holds_value b x h)) (same_eq b (column (length b) x) h.bytes))

-- what the outcome says of the two tests
data Tests (b : Bytes) : ColumnState → Type 0 where
  number : same b (column (length b) (value_of b)) ≡ true → Tests b (Number (value_of b))
  blank : same b (column (length b) (value_of b)) ≡ false → same b (replicate (length b) 32) ≡ true → Tests b Blank
  malformed : same b (column (length b) (value_of b)) ≡ false → same b (replicate (length b) 32) ≡ false → Tests b Malformed

tests : (b : Bytes) → Tests b (column_state b)
unfolding column_state
tests b = go (same b (column (length b) (value_of b))) refl (same b (replicate (length b) 32)) refl
  where
    go : (t : Bool) → same b (column (length b) (value_of b)) ≡ t → (u : Bool) → same b (replicate (length b) 32) ≡ u
        → Tests b (cond t (Number (value_of b)) (cond u Blank Malformed))
    go true e u f = number e
    go false e true f = blank e f
    go false e false f = malformed e f

no_number : (b : Bytes) → same b (column (length b) (value_of b)) ≡ false → (x : ℕ) → ¬ (Holds b x)
no_number b e x h = same_false b _ e (h.bytes ∙ ap (column (length b)) (sym (holds_value b x h)))

pub number_only_if : (b : Bytes) (x : ℕ) → column_state b ≡ Number x → Holds b x
number_only_if b x h = go (column_state b) (tests b) h
  where
    go : (s : ColumnState) → Tests b s → s ≡ Number x → Holds b x
    go _ (number e) k =
        let v : value_of b ≡ x = cc in
        record {
          fits = rw (← v) (value_lt b);
          bytes = same_true b (column (length b) (value_of b)) e ∙ ap (column (length b)) v;
        }
    go _ (blank e f) k = absurd (let z : ◌≡◌ {A = ℕ} 0 1 = cc in omega arith)
    go _ (malformed e f) k = absurd (let z : ◌≡◌ {A = ℕ} 0 1 = cc in omega arith)

-- what was written is read back
pub number_written : (w x : ℕ) → x < 10 ^ w → column_state (column w x) ≡ Number x
number_written w x h =
    number_if (column w x) x
    (record { fits = rw (length_column w x) h; bytes = ap (λ (n : ℕ). column n x) (sym (length_column w x)) })

-- ---- spaces

pub blank_if : (b : Bytes) → b ≡ replicate (length b) 32 → ((x : ℕ) → ¬ (Holds b x)) → column_state b ≡ Blank
blank_if b e n =
    sym (state_blank b (value_of b) refl
    (same_differs b _ (λ k. n (value_of b) (record { fits = value_lt b; bytes = k })))
    (same_eq b (replicate (length b) 32) e))

pub blank_only_if : (b : Bytes) → column_state b ≡ Blank → (b ≡ replicate (length b) 32) × ((x : ℕ) → ¬ (Holds b x))
blank_only_if b h = go (column_state b) (tests b) h
  where
    go : (s : ColumnState) → Tests b s → s ≡ Blank → (b ≡ replicate (length b) 32) × ((x : ℕ) → ¬ (Holds b x))
    go _ (number e) k = absurd (let z : ◌≡◌ {A = ℕ} 0 1 = cc in omega arith)
    go _ (blank e f) k = (same_true b _ f, no_number b e)
    go _ (malformed e f) k = absurd (let z : ◌≡◌ {A = ℕ} 0 1 = cc in omega arith)

-- spaces are no number, since a column ends in a digit
spaces_differ : (w x : ℕ) → ¬ (replicate (suc w) 32 ≡ column (suc w) x)
unfolding last_byte
spaces_differ w x e =
    let d : 32 ≡ last_byte x
    = sym (get_or-replicate (suc w) w 32 0 (omega arith)) ∙ ap (λ (z : Bytes). get_or z w 0) (e ∙ column_suc w x) ∙ get_or_at (digits w (x / 10)) (last_byte x) [] 0 w (length_digits w (x / 10)) in
    omega arith

pub blank_spaces : (w : ℕ) → 1 ≤ w → column_state (replicate w 32) ≡ Blank
blank_spaces zero h = absurd (omega arith)
blank_spaces (suc w) h =
    let n : length (replicate {A = ℕ} (suc w) 32) ≡ suc w = length-replicate (suc w) 32 in
    blank_if (replicate (suc w) 32) (ap (λ (k : ℕ). replicate k 32) (sym n))
    (λ x k. spaces_differ w x (k.bytes ∙ ap (λ (j : ℕ). column j x) n))

-- ---- neither

pub malformed_only_if : (b : Bytes) → column_state b ≡ Malformed → (¬ (b ≡ replicate (length b) 32)) × ((x : ℕ) → ¬ (Holds b x))
malformed_only_if b h = go (column_state b) (tests b) h
  where
    go : (s : ColumnState) → Tests b s → s ≡ Malformed → (¬ (b ≡ replicate (length b) 32)) × ((x : ℕ) → ¬ (Holds b x))
    go _ (number e) k = absurd (let z : ◌≡◌ {A = ℕ} 0 1 = cc in omega arith)
    go _ (blank e f) k = absurd (let z : ◌≡◌ {A = ℕ} 0 1 = cc in omega arith)
    go _ (malformed e f) k = (same_false b _ f, no_number b e)

pub malformed_if : (b : Bytes) → ¬ (b ≡ replicate (length b) 32) → ((x : ℕ) → ¬ (Holds b x)) → column_state b ≡ Malformed
malformed_if b e n =
    sym (state_malformed b (value_of b) refl
    (same_differs b _ (λ k. n (value_of b) (record { fits = value_lt b; bytes = k })))
    (same_differs b _ e))
