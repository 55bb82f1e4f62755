-- For proofs only. What `by_number` works out of conditions and epochs as two lists of numbers; Scan.antt of `image` says it of slots.
use Rattle.std.specs.Prelude.{ℕ, suc, Bool, not, ◌||◌, List, eqb, leb, ltb, get_or}
use Rattle.search.specs.Search.{lowest, all}
use Rattle.image.specs.Refusal.{refuse, ◌else◌}

-- the first condition that is 0, unused
unfoldable pub length_in : ℕ → List ℕ → ℕ
length_in m conditions = lowest (λ k. eqb (get_or conditions k 0) 0) m

unfoldable pub no_gap_in : ℕ → ℕ → List ℕ → Bool
no_gap_in m len conditions = all (λ k. ltb k len || eqb (get_or conditions k 0) 0) m

-- none is 4, lost
unfoldable pub none_lost_in : ℕ → List ℕ → Bool
none_lost_in m conditions = all (λ k. not (eqb (get_or conditions k 0) 4)) m

unfoldable pub rising_in : ℕ → ℕ → List ℕ → Bool
rising_in m len epochs = all (λ k. not (ltb (suc k) len) || leb (get_or epochs k 0) (get_or epochs (suc k) 0)) m

unfoldable pub scan_refusal : ℕ → ℕ → List ℕ → List ℕ → ℕ
scan_refusal m len conditions epochs =
    refuse 5 (not (no_gap_in m len conditions)) else refuse 6 (not (none_lost_in m conditions)) else refuse 7 (not (rising_in m len epochs))
