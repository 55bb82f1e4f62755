-- What a majority is, more than half of n, odd or even, and what it allows.
use Prim.Native.Nat.{ℕ, ◌+◌, ◌-◌, ◌/◌, ◌≤◌, ◌<◌}
use mathlib.Core.Path.{◌≡◌, refl, sym, ◌∙◌}
use mathlib.Core.Bool.{Bool, true, false, ◌||◌}
use native.Mathlib.Omega.{arith}
use native.Mathlib.Decide.{dec_lt, ℕ_discrete}
use lib.Dec.{eqb, leb, ltb}
use lib.Count.{ones}
use borrow.Author.Tests.{le-leb, lt-leb, lt-ltb, le-ltb, ltb-true, ltb-false, eq-eqb, ne_eqb}
use Rattle.search.specs.Search.{count}
use Rattle.search.proofs.CountLaws.{count_le}
use Rattle.planner.specs.Rules.{majority, may_truncate}
use Rattle.planner.specs.Sets.{set_of}
use Rattle.planner.proofs.SetLaws.{ones_set}

-- two majorities have a replica in common
pub majorities_meet : (n : ℕ) → n < majority n + majority n
unfolding majority
majorities_meet n = omega arith

-- with one fewer they need not
pub majority_least : (n : ℕ) → majority n + majority n ≤ n + 2
unfolding majority
majority_least n = omega arith

pub majority_odd : (k : ℕ) → majority (k + k + 1) ≡ (k + k + 1 + 1) / 2
majority_odd k = omega (arith, majorities_meet (k + k + 1), majority_least (k + k + 1))

-- x is more than half of n, and one fewer is not
more_than_half : (n d x : ℕ) → n < x + x → x + x ≤ n + 2 → leb x d ≡ ltb n (d + d)
more_than_half n d x more least = go (dec_lt n (d + d))
  where
    go : Dec (n < d + d) → leb x d ≡ ltb n (d + d)
    go (yes h) = le-leb x d (omega (arith, h, least)) ∙ sym (lt-ltb n (d + d) h)
    go (no h) = lt-leb x d (omega (arith, h, more)) ∙ sym (le-ltb n (d + d) (omega (arith, h)))

pub majority_is : (n d : ℕ) → leb (majority n) d ≡ ltb n (d + d)
majority_is n d = more_than_half n d (majority n) (majorities_meet n) (majority_least n)

-- ---- what is left without the don't-haves is no majority

-- all but d of n are fewer than x exactly if d are half of n or more
fewer_left : (n d x : ℕ) → n < x + x → x + x ≤ n + 2 → ltb (n - d) x ≡ leb n (d + d)
fewer_left n d x more least = go (dec_lt (d + d) n)
  where
    go : Dec (d + d < n) → ltb (n - d) x ≡ leb n (d + d)
    go (yes h) = le-ltb (n - d) x (omega (arith, h, least)) ∙ sym (lt-leb n (d + d) h)
    go (no h) = lt-ltb (n - d) x (omega (arith, h, more)) ∙ sym (le-leb n (d + d) (omega (arith, h)))

pub cuts : (n d : ℕ) → may_truncate n d ≡ leb n (d + d)
unfolding may_truncate
cuts n d = fewer_left n d _ (omega (arith, majorities_meet n)) (omega (arith, majority_least n))

pub cuts_more : (n d : ℕ) → may_truncate n d ≡ (leb (majority n) d || eqb n (d + d))
cuts_more n d = rw (cuts n d, majority_is n d) (go (dec_lt n (d + d)))
  where
    at_most : Dec (n ≡ d + d) → (n < d + d → ⊥) → leb n (d + d) ≡ eqb n (d + d)
    at_most (yes e) h = le-leb n (d + d) (omega (arith, e)) ∙ sym (eq-eqb n (d + d) e)
    at_most (no e) h = lt-leb n (d + d) (omega (arith, h, e)) ∙ sym (ne_eqb n (d + d) e)

    go : Dec (n < d + d) → leb n (d + d) ≡ (ltb n (d + d) || eqb n (d + d))
    go (yes h) = rw (lt-ltb n (d + d) h) (le-leb n (d + d) (omega (arith, h)))
    go (no h) = rw (le-ltb n (d + d) (omega (arith, h))) (at_most (ℕ_discrete n (d + d)) h)

-- an odd n has no half
pub cuts_odd : (k d : ℕ) → may_truncate (k + k + 1) d ≡ leb (majority (k + k + 1)) d
cuts_odd k d = cuts_more (k + k + 1) d ∙ rw (ne_eqb (k + k + 1) (d + d) (λ e. omega (arith, e))) (or_false (leb (majority (k + k + 1)) d))
  where
    or_false : (t : Bool) → (t || false) ≡ t
    or_false true = refl
    or_false false = refl

-- d don't-haves cut exactly if they and a majority are together more than n
cuts_exactly : (n d : ℕ) → may_truncate n d ≡ ltb n (majority n + d)
unfolding may_truncate
cuts_exactly n d = go (dec_lt n (majority n + d))
  where
    go : Dec (n < majority n + d) → ltb (n - d) (majority n) ≡ ltb n (majority n + d)
    go (yes h) = lt-ltb (n - d) (majority n) (omega (arith, h, majorities_meet n)) ∙ sym (lt-ltb n (majority n + d) h)
    go (no h) = le-ltb (n - d) (majority n) (omega (arith, h)) ∙ sym (le-ltb n (majority n + d) (omega (arith, h)))

pub cuts_if : (n d : ℕ) → n < majority n + d → may_truncate n d ≡ true
cuts_if n d h = cuts_exactly n d ∙ lt-ltb n (majority n + d) h

pub waits_if : (n d : ℕ) → majority n + d ≤ n → may_truncate n d ≡ false
waits_if n d h = cuts_exactly n d ∙ le-ltb n (majority n + d) h

-- all that demand 3 asks of the rule
pub truncate_needs : (n d : ℕ) → may_truncate n d ≡ true → n < majority n + d
truncate_needs n d e = ltb-true n (majority n + d) (sym (cuts_exactly n d) ∙ e)

-- with fewer don't-haves a majority may hold what they lack
pub too_few : (n d : ℕ) → may_truncate n d ≡ false → majority n + d ≤ n
too_few n d e = ltb-false n (majority n + d) (sym (cuts_exactly n d) ∙ e)

-- ---- in the code: all but the ones of a set are compared with x

pub ones_fit : (n set : ℕ) (p : ℕ → Bool) → set ≡ set_of p n → ones set ≤ n
ones_fit n set p s = rw (s, ones_set p n) (count_le p n)

pub truncates : (n x set : ℕ) (p : ℕ → Bool) → x ≡ majority n → set ≡ set_of p n → ltb (n - ones set) x ≡ may_truncate n (count p n)
unfolding may_truncate
truncates n x set p e s = rw (e, s, ones_set p n) refl
