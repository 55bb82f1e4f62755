-- For proofs only. A function with one value put anew.
use Rattle.std.specs.Prelude.{ℕ, cond, eqb}

-- f, with v at k
unfoldable pub put {ℓ} : {A : Type ℓ} → (ℕ → A) → ℕ → A → ℕ → A
put f k v j = cond (eqb j k) v (f j)
