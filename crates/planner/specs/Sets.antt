-- For proofs only. Sets of replicas as words: bit c, worth 2 to the power c, stands for replica c (`has` of search).
use Rattle.std.specs.Prelude.{ℕ, zero, suc, ◌+◌, ◌*◌, ◌^◌, Bool, cond, ltb}
use Rattle.search.specs.Search.{one_if}
use Rattle.search.specs.Sets.{has}

-- every replica in the set is below n
unfoldable pub is_within : ℕ → ℕ → Bool
is_within w n = ltb w (2 ^ n)

-- the set with replica c in it
unfoldable pub inserted : ℕ → ℕ → ℕ
inserted w c = cond (has w c) w (w + 2 ^ c)

-- the set of the replicas below n that pass a test
unfoldable pub set_of : (ℕ → Bool) → ℕ → ℕ
set_of p zero = 0
set_of p (suc k) = one_if (p k) * 2 ^ k + set_of p k
