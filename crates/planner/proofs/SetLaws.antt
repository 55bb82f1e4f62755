-- Laws of sets of replicas as words.
use Prim.Native.Nat.{ℕ, zero, suc, ◌+◌, ◌*◌, ◌-◌, ◌/◌, ◌%◌, ◌^◌, ◌<◌}
use mathlib.Core.Bool.{Bool, true, false, cond}
use mathlib.Core.Path.{◌≡◌, refl, sym}
use mathlib.Core.Logic.{⊎_elim}
use native.Mathlib.Omega.{arith}
use native.Mathlib.Nat.{eq-or-lt_of_le, mul_assoc, add-mul-div_right, div-eq_of_lt, add-mul-mod_self_right, pow-suc}
use native.Mathlib.Numerals.{add-one}
use lib.Bits.{bit_or, bit_and, and_mask, and_high, or_add_and}
use lib.Pow.{high_ones, pow_pos, pow-add, high, shl_exact}
use lib.Count.{ones, ones_in, ones_cat}
use lib.Dec.{eqb}
use Rattle.search.specs.Search.{one_if, sum, count}
use Rattle.search.specs.Sets.{has}
use Rattle.planner.specs.Sets.{inserted, set_of}

-- ---- one bit of a word

-- `(set >> c) & 1 == 1`
pub test_has : (w c : ℕ) → eqb (bit_and (w / 2 ^ c) 1) 1 ≡ has w c
unfolding has
test_has w c = rw (and_mask (w / 2 ^ c) 1) refl

-- the digit that a mask of one bit leaves
and_bit : (w c : ℕ) → bit_and w (1 * 2 ^ c) ≡ (w / 2 ^ c % 2) * 2 ^ c
and_bit w c = rw (sym (high_ones 1 c)) (and_high w 1 c)

or_bit : (w c : ℕ) → bit_or w (1 * 2 ^ c) ≡ inserted w c
unfolding inserted has
or_bit w c = go (w / 2 ^ c % 2) (omega arith) (and_bit w c)
  where
    go : (d : ℕ) → d < 2 → bit_and w (1 * 2 ^ c) ≡ d * 2 ^ c → bit_or w (1 * 2 ^ c) ≡ cond (eqb d 1) w (w + 2 ^ c)
    go zero h e = omega (arith, e, or_add_and w (1 * 2 ^ c))
    go (suc zero) h e = omega (arith, e, or_add_and w (1 * 2 ^ c))
    go (suc (suc d)) h e = absurd (omega arith)

shl_bit : (c : ℕ) → c < 32 → 1 * 2 ^ c % 4294967296 ≡ 1 * 2 ^ c
shl_bit c h = shl_exact 1 c 32 (omega arith) (omega arith)

-- `set | (1 << c)`
pub or_insert : (w c : ℕ) → c < 32 → bit_or w (1 * 2 ^ c % 4294967296) ≡ inserted w c
or_insert w c h = rw (shl_bit c h) (or_bit w c)

-- ---- the set of a test

pub set_lt : (p : ℕ → Bool) (n : ℕ) → set_of p n < 2 ^ n
unfolding set_of one_if
set_lt p zero = omega arith
set_lt p (suc k) = go (p k) (set_lt p k)
  where
    go : (b : Bool) → set_of p k < 2 ^ k → one_if b * 2 ^ k + set_of p k < 2 ^ suc k
    go true h = omega (arith, pow-suc 2 k)
    go false h = omega (arith, pow-suc 2 k)

one_bit : (b : Bool) → ones (one_if b) ≡ one_if b
unfolding ones ones_in one_if
one_bit true = refl
one_bit false = refl

-- the ones of a set are its members
pub ones_set : (p : ℕ → Bool) (n : ℕ) → ones (set_of p n) ≡ count p n
unfolding set_of count sum ones ones_in
ones_set p zero = refl
ones_set p (suc k) = rw (ones_cat k (one_if (p k)) (set_of p k) (set_lt p k), ones_set p k, one_bit (p k)) refl

-- a bit above does not change a bit below
low_bit : (x s d j : ℕ) → (x * 2 ^ (suc d + j) + s) / 2 ^ j % 2 ≡ s / 2 ^ j % 2
low_bit x s d j =
    let e : x * 2 ^ (suc d + j) + s ≡ s + (x * 2 ^ d * 2) * 2 ^ j =
    rw (pow-add 2 (suc d) j, pow-suc 2 d, sym (mul_assoc x (2 ^ d * 2) (2 ^ j)), sym (mul_assoc x (2 ^ d) 2)) (omega arith) in
    rw (e, add-mul-div_right s (x * 2 ^ d * 2) (pow_pos j), add-mul-mod_self_right) refl

low_bit_of : (x s k j : ℕ) → j < k → (x * 2 ^ k + s) / 2 ^ j % 2 ≡ s / 2 ^ j % 2
low_bit_of x s k j h = let g : k ≡ suc (k - suc j) + j = omega arith in rw g (low_bit x s (k - suc j) j)

top_bit : (b : Bool) → eqb (one_if b % 2) 1 ≡ b
unfolding one_if
top_bit true = refl
top_bit false = refl

-- a replica below n is in the set if it passes
pub has_set : (p : ℕ → Bool) (n j : ℕ) → j < n → has (set_of p n) j ≡ p j
unfolding has set_of
has_set p zero j h = absurd (omega arith)
has_set p (suc k) j h =
    ⊎_elim
    (λ e. let g : j ≡ k = omega arith in rw (g, high (one_if (p k)) k (set_lt p k)) (top_bit (p k)))
    (λ l. rw (low_bit_of (one_if (p k)) (set_of p k) k j (omega arith)) (has_set p k j (omega arith)))
    (eq-or-lt_of_le h)

has_next : (p : ℕ → Bool) (n : ℕ) → has (set_of p n) n ≡ false
unfolding has
has_next p n = rw (div-eq_of_lt (set_lt p n)) refl

-- ---- one turn of a loop that gathers a set

pub set_none : (p : ℕ → Bool) → 0 ≡ set_of p 0
unfolding set_of
set_none p = refl

module _ (p : ℕ → Bool) (k : ℕ) {w : ℕ} (e : w ≡ set_of p k) where
  pub set_in : p k ≡ true → inserted w k ≡ set_of p (k + 1)
  unfolding inserted set_of one_if
  set_in h = rw (e, add-one, has_next p k, h) (omega arith)

  pub set_out : p k ≡ false → w ≡ set_of p (k + 1)
  unfolding set_of one_if
  set_out h = rw (e, add-one, h) (omega arith)
