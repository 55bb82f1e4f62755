-- The laws of `listed` and `joined`.
use Prim.Native.Nat.{ℕ, zero, suc, ◌*◌, ◌<◌}
use mathlib.Core.Path.{◌≡◌, refl, sym, ap, ◌∙◌}
use mathlib.Core.List.{List, [], ◌∷◌, ◌++◌}
use native.Mathlib.Omega.{arith}
use native.Mathlib.Nat.{mul-zero, mul-suc}
use native.Mathlib.Decide.{ℕ_discrete}
use lib.ListN.{length, get_or, length-append, get_or-append}
use lib.Seq.{get_or_at, ext_get_or}
use Rattle.search.specs.Search.{listed, joined}

pub length_listed {ℓ} : {A : Type ℓ} (b : ℕ) (f : ℕ → A) → length (listed b f) ≡ b
unfolding listed
length_listed zero f = refl
length_listed (suc b) f = length-append (listed b f) (f b ∷ []) ∙ omega (arith, length_listed b f)

pub get_d_listed {ℓ} : {A : Type ℓ} (b : ℕ) (f : ℕ → A) (k : ℕ) (d : A) → k < b → get_or (listed b f) k d ≡ f k
unfolding listed
get_d_listed zero f k d h = absurd (omega arith)
get_d_listed (suc b) f k d h = go (ℕ_discrete k b) (get_d_listed b f k d)
  where
    go : Dec (k ≡ b) → (k < b → get_or (listed b f) k d ≡ f k) → get_or (listed b f ++ (f b ∷ [])) k d ≡ f k
    go (yes q) ih = rw q (get_or_at (listed b f) (f b) [] d b (length_listed b f))
    go (no q) ih = get_or-append (listed b f) (f b ∷ []) d k (omega (arith, length_listed b f)) ∙ ih (omega arith)

pub listed_cong {ℓ} : {A : Type ℓ} (b : ℕ) (f g : ℕ → A) → ((k : ℕ) → k < b → f k ≡ g k) → listed b f ≡ listed b g
unfolding listed
listed_cong zero f g h = refl
listed_cong {A = A} (suc b) f g h = rw (h b (omega arith)) (ap (λ (t : List A). t ++ (g b ∷ [])) (listed_cong b f g (λ k l. h k (omega arith))))

-- lists that are the same have the same elements
pub listed_at {ℓ} : {A : Type ℓ} (b : ℕ) (f g : ℕ → A) → listed b f ≡ listed b g → (k : ℕ) → k < b → f k ≡ g k
listed_at {A = A} b f g e k h = sym (get_d_listed b f k (f k) h) ∙ ap (λ (t : List A). get_or t k (f k)) e ∙ get_d_listed b g k (f k) h

-- a list with these elements is this list
pub listed_ext {ℓ} : {A : Type ℓ} (b : ℕ) (f : ℕ → A) (d : A) (l : List A) → length l ≡ b → ((k : ℕ) → k < b → get_or l k d ≡ f k) → l ≡ listed b f
listed_ext b f d l e h =
    ext_get_or d l (listed b f) (e ∙ sym (length_listed b f)) (λ k x. h k (omega arith) ∙ sym (get_d_listed b f k d (omega arith)))

pub joined_cong : (b : ℕ) (f g : ℕ → List ℕ) → ((k : ℕ) → k < b → f k ≡ g k) → joined b f ≡ joined b g
unfolding joined
joined_cong zero f g h = refl
joined_cong (suc b) f g h = rw (h b (omega arith)) (ap (λ (t : List ℕ). t ++ g b) (joined_cong b f g (λ k l. h k (omega arith))))

-- parts of one size
pub length_joined : (b s : ℕ) (f : ℕ → List ℕ) → ((k : ℕ) → k < b → length (f k) ≡ s) → length (joined b f) ≡ s * b
unfolding joined
length_joined zero s f h = sym (mul-zero s)
length_joined (suc b) s f h =
    length-append (joined b f) (f b) ∙ rw (mul-suc s b) (omega (arith, length_joined b s f (λ k l. h k (omega arith)), h b (omega arith)))
