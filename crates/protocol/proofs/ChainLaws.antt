-- Taking a chain of candidate stores apart, and putting one together.
use mathlib.Core.Path.{◌≡◌, refl}
use mathlib.Core.Bool.{Bool, true, false, cond}
use mathlib.Core.Option.{Option, none, some}
use Prim.Native.Nat.{ℕ, ◌≤◌, ◌<◌}
use native.Mathlib.Omega.{arith}
use lib.Dec.{ltb}
use borrow.Author.Tests.{ltb-true, ltb-false, lt-ltb, le-ltb}
use Rattle.protocol.specs.Store.{Store}
use Rattle.protocol.specs.Recovery.{◌or◌, if_below}

pub or_elim : {X : Type 0} (a b : Option Store) (s : Store) → (a or b) ≡ some s → (a ≡ some s → X) → (a ≡ none → b ≡ some s → X) → X
unfolding ◌or◌
or_elim none b s e f g = g refl e
or_elim (some t) b s e f g = f e

pub or_none_l : (a b : Option Store) → (a or b) ≡ none → a ≡ none
unfolding ◌or◌
or_none_l none b e = refl
or_none_l (some t) b e = e

pub or_none_r : (a b : Option Store) → (a or b) ≡ none → b ≡ none
unfolding ◌or◌
or_none_r none b e = e
or_none_r (some t) b e = absurd (let z : ◌≡◌ {A = ℕ} 0 1 = cc in omega arith)

pub below_elim : {X : Type 0} (k b : ℕ) (t s : Store) → if_below k b t ≡ some s → (k < b → t ≡ s → X) → X
unfolding if_below
below_elim {X} k b t s e f = go (ltb k b) refl e
  where
    go : (v : Bool) → ltb k b ≡ v → cond v (some t) none ≡ some s → X
    go true p e = f (ltb-true k b p) (cc)
    go false p e = absurd (let z : ◌≡◌ {A = ℕ} 0 1 = cc in omega arith)

pub below_none : (k b : ℕ) (t : Store) → if_below k b t ≡ none → b ≤ k
unfolding if_below
below_none k b t e = go (ltb k b) refl e
  where
    go : (v : Bool) → ltb k b ≡ v → cond v (some t) none ≡ none → b ≤ k
    go true p e = absurd (let z : ◌≡◌ {A = ℕ} 0 1 = cc in omega arith)
    go false p e = ltb-false k b p

pub or_first : (a b : Option Store) (s : Store) → a ≡ some s → some s ≡ (a or b)
unfolding ◌or◌
or_first a b s e = rw e

pub or_second : (a b o : Option Store) → a ≡ none → o ≡ b → o ≡ (a or b)
unfolding ◌or◌
or_second a b o e h = rw e h

pub below_some : (k b : ℕ) (s : Store) → k < b → if_below k b s ≡ some s
unfolding if_below
below_some k b s h = rw (lt-ltb k b h)

pub above_none : (k b : ℕ) (s : Store) → b ≤ k → if_below k b s ≡ none
unfolding if_below
above_none k b s h = rw (le-ltb k b h)
