-- A row of eight bytes is added to eight sums side by side: what is left of the definition, from what they come to, is the same.
use Prim.Native.Nat.{ℕ, suc, ◌+◌, ◌*◌, ◌%◌, ◌-◌, ◌<◌, ◌≤◌}
use mathlib.Core.Path.{◌≡◌, refl, sym, ◌∙◌, ap, ap₂}
use mathlib.Core.List.{List, [], ◌∷◌, ◌++◌}
use native.Mathlib.Omega.{arith}
use lib.ListN.{length, take, drop, get_or, length-drop, drop_of_length-le, take-append-drop}
use lib.Seq.{drop-cons, take_all}
use Rattle.std.proofs.lemmas.List.{length-take-le}
use Rattle.checksum.specs.Checksum.{sum_a, sum_b}
use Rattle.checksum.proofs.SumLaws.{plain_a, plain_b, reduced_a, reduced_b}
use Rattle.sum.specs.declared.eight.Eight.{Eight}
use Rattle.sum.specs.Rows.{row_of, alone, added, total_of, weighted_of}

-- ---- one row

abbrev bytes_of : Eight → List ℕ
bytes_of r = r.p0 ∷ (r.p1 ∷ (r.p2 ∷ (r.p3 ∷ (r.p4 ∷ (r.p5 ∷ (r.p6 ∷ (r.p7 ∷ [])))))))

byte : (s : List ℕ) (i j : ℕ) → j ≡ suc i → i < length s → drop i s ≡ get_or s i 0 ∷ drop j s
byte s i j e h = rw e (drop-cons s i 0 h)

-- i is 0, and a variable, since `drop 0 r` computes and `rw` would not find it
row : (r : List ℕ) (i : ℕ) → i ≡ 0 → length r ≡ 8 → drop i r ≡ bytes_of (row_of r)
unfolding row_of
row r i e h =
    rw (
      e,
      byte r 0 1 (omega arith) (omega arith),
      byte r 1 2 (omega arith) (omega arith),
      byte r 2 3 (omega arith) (omega arith),
      byte r 3 4 (omega arith) (omega arith),
      byte r 4 5 (omega arith) (omega arith),
      byte r 5 6 (omega arith) (omega arith),
      byte r 6 7 (omega arith) (omega arith),
      byte r 7 8 (omega arith) (omega arith),
      drop_of_length-le r {i = 8} (omega arith),
    ) refl

step_a : (r more : List ℕ) (x : Eight) → length r ≡ 8 → sum_a (total_of x % 65535) (r ++ more) ≡ sum_a (total_of (added x (row_of r)) % 65535) more
unfolding added plain_a
step_a r more x h =
    ap (λ (t : List ℕ). sum_a (total_of x % 65535) (t ++ more)) (row r 0 refl h)
    ∙ reduced_a (total_of x) (bytes_of (row_of r)) more
    ∙ ap (λ (t : ℕ). sum_a (t % 65535) more) (omega arith)

step_b : (r more : List ℕ) (x y : Eight) (b : ℕ) → length r ≡ 8 → weighted_of x ≤ 8 * total_of y
    → sum_b (total_of x % 65535) ((b + (8 * total_of y - weighted_of x)) % 65535) (r ++ more)
    ≡ sum_b (total_of (added x (row_of r)) % 65535)
    ((b + (8 * total_of (added y (added x (row_of r))) - weighted_of (added x (row_of r)))) % 65535) more
unfolding added plain_a plain_b
step_b r more x y b h k =
    ap (λ (t : List ℕ). sum_b (total_of x % 65535) ((b + (8 * total_of y - weighted_of x)) % 65535) (t ++ more)) (row r 0 refl h)
    ∙ reduced_b (total_of x) (b + (8 * total_of y - weighted_of x)) (bytes_of (row_of r)) more
    ∙ ap₂ (λ (t u : ℕ). sum_b (t % 65535) (u % 65535) more) (omega arith) (omega arith)

-- ---- eight first sums and eight second sums after some rows: what they come to, and how far they can have grown

pub record Rows (s rest : List ℕ) (a b : ℕ) (x y : Eight) : Type 0 where
  pub first_most : total_of x + 255 * length rest ≤ 65534 + 255 * length s
  pub second_most : 8 * total_of y + 587774 * length rest ≤ 587774 * length s
  pub weighted_most : weighted_of x ≤ 8 * total_of y
  pub first : sum_a (total_of x % 65535) rest ≡ sum_a a s
  pub second : sum_b (total_of x % 65535) ((b + (8 * total_of y - weighted_of x)) % 65535) rest ≡ sum_b a b s

pub rows_start : (s : List ℕ) (a b u v : ℕ) → a < 65535 → b < 65535 → u ≡ a → v ≡ 0 → Rows s s a b (alone u) (alone v)
unfolding alone
rows_start s a b u v ha hb hu hv =
    rw (hu, hv) record {
      first_most = omega arith;
      second_most = omega arith;
      weighted_most = omega arith;
      first = ap (λ (t : ℕ). sum_a t s) (omega arith);
      second = ap₂ (λ (t u : ℕ). sum_b t u s) (omega arith) (omega arith);
    }

pub total_added : (x y : Eight) → total_of (added x y) ≡ total_of x + total_of y
unfolding added
total_added x y = omega arith

weighted_at_most : (x : Eight) → weighted_of x ≤ 7 * total_of x
weighted_at_most x = omega arith

pub rows_again : (s rest more r : List ℕ) (a b : ℕ) (x y : Eight) → length s ≤ 2048 → r ≡ take 8 rest → more ≡ drop 8 rest
    → length more + 8 ≡ length rest → total_of (row_of r) ≤ 2040
    → Rows s rest a b x y → Rows s more a b (added x (row_of r)) (added y (added x (row_of r)))
rows_again s rest more r a b x y short front back left most known =
    let eight : length r ≡ 8 = rw front (length-take-le 8 rest (omega (arith, left))) in
    let x' = added x (row_of r) in
    let first = total_added x (row_of r) in
    let second = total_added y x' in
    let weight = weighted_at_most x' in
    let parts : r ++ more ≡ rest = rw (front, back) (take-append-drop 8 rest) in
    record {
      first_most = omega (arith, first, most, known.first_most, left);
      second_most = omega (arith, first, second, most, known.first_most, known.second_most, left);
      weighted_most = omega (arith, second, weight);
      first = sym (ap (sum_a (total_of x % 65535)) (sym parts) ∙ step_a r more x eight) ∙ known.first;
      second =
          sym (ap (sum_b (total_of x % 65535) ((b + (8 * total_of y - weighted_of x)) % 65535)) (sym parts) ∙ step_b r more x y b eight known.weighted_most)
          ∙ known.second;
    }

-- a slice from a place on, as a callee's contract has it
pub rest : (s : List ℕ) (i : ℕ) → take (length s - i) (drop i s) ≡ drop i s
rest s i = take_all (length s - i) (drop i s) (rw (length-drop i s) (omega arith))
