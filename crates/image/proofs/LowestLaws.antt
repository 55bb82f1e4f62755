-- Refusals tried in turn: the lowest number that applies wins.
use Prim.Native.Nat.{ℕ, zero, suc, ◌≤◌, ◌<◌}
use mathlib.Core.Path.{◌≡◌, refl, sym, subst}
use mathlib.Core.Bool.{Bool, true, false, not, true≢false}
use native.Mathlib.Omega.{arith}
use native.Mathlib.Decide.{ℕ_discrete}
use Rattle.image.specs.Refusal.{refuse, ◌else◌}

-- ---- one refusal before others

-- as `Lowest`, of the numbers from k on
pub record From (Passes : ℕ → Type 0) (k r : ℕ) : Type 0 where
  pub applies : ¬ (r ≡ 0) → ¬ (Passes r)
  pub below : ¬ (r ≡ 0) → (q : ℕ) → k ≤ q → q < r → Passes q
  pub none : r ≡ 0 → (q : ℕ) → k ≤ q → Passes q

-- a test decides whether a refusal applies
pub record Decides (t : Bool) (A : Type 0) : Type 0 where
  pub so : t ≡ true → A
  pub back : A → t ≡ true

module _ (Passes : ℕ → Type 0) (k : ℕ) where
  next : (q : ℕ) → k ≤ q → Passes k → (suc k ≤ q → Passes q) → Passes q
  next q h p f = go (ℕ_discrete k q)
    where
      go : Dec (k ≡ q) → Passes q
      go (yes e) = subst Passes e p
      go (no e) = f (omega arith)

  pub try : (t : Bool) (s : ℕ) → ¬ (k ≡ 0) → Decides t (Passes k) → (Passes k → From Passes (suc k) s) → From Passes k (refuse k (not t) else s)
  unfolding refuse ◌else◌
  try true s h d f =
      let p = d.so refl in
      let r = f p in
      record {
        applies = r.applies;
        below = λ z q a b. next q a p (λ l. r.below z q l b);
        none = λ z q a. next q a p (r.none z q);
      }
  try false s h d f = go k refl h (λ p. true≢false (sym (d.back p)))
    where
      go : (j : ℕ) → k ≡ j → ¬ (j ≡ 0) → ¬ (Passes k) → From Passes k (j else s)
      go zero e z p = absurd (z refl)
      go (suc j) e z p = record {
        applies = λ _. subst (λ (x : ℕ). ¬ (Passes x)) e p;
        below = λ _ q a b. absurd (omega arith);
        none = λ x. absurd (z x);
      }

pub last_of : (Passes : ℕ → Type 0) (k : ℕ) → ((q : ℕ) → k ≤ q → Passes q) → From Passes k 0
last_of Passes k f = record { applies = λ z. absurd (z refl); below = λ z. absurd (z refl); none = λ _. f }

pub else_assoc : (a b c : ℕ) → ((a else b) else c) ≡ (a else (b else c))
unfolding ◌else◌
else_assoc zero b c = refl
else_assoc (suc a) b c = refl
