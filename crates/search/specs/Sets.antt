-- Document 01's sets of replicas, as words. Replicas count from 0 here.
use Rattle.std.specs.Prelude.{ℕ, ◌/◌, ◌%◌, ◌^◌, Bool, eqb}

-- in a set, bit c, worth 2 to the power c, stands for replica c
unfoldable pub has : ℕ → ℕ → Bool
has w c = eqb (w / 2 ^ c % 2) 1
