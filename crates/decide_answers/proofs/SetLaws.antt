-- A set gathered over a range.
use Rattle.std.proofs.Common.{ℕ, zero, suc, ◌+◌, ◌≡◌, Bool, true, false, cond, [], ◌∷◌, ◌++◌, refl, ap, ◌∙◌, arith, add-one}
use mathlib.Core.List.{map-id}
use Rattle.std.specs.List.{range_with_len, filter, fold}
use Rattle.std.proofs.lemmas.List.FromFn.{filter_of_map_range_with_len_more}
use Rattle.std.proofs.lemmas.List.Sums.{fold-append}
use Rattle.planner.specs.Sets.{inserted, set_of}
use Rattle.planner.proofs.SetLaws.{set_none, set_in, set_out}

more : (p : ℕ → Bool) (n : ℕ) → filter p (range_with_len 0 (n + 1)) ≡ filter p (range_with_len 0 n) ++ cond (p n) (n ∷ []) []
more p n = simp map-id at (filter_of_map_range_with_len_more p (λ k. k) 0 n n (omega arith))

-- one more member if it passes
gathered : (p : ℕ → Bool) (n : ℕ) {set : ℕ} → set ≡ set_of p n → (t : Bool) → p n ≡ t → fold inserted set (cond t (n ∷ []) []) ≡ set_of p (suc n)
gathered p n e true here = rw add-one at (set_in p n e here)
gathered p n e false here = rw add-one at (set_out p n e here)

pub set_gathered : (p : ℕ → Bool) (n : ℕ) → fold inserted 0 (filter p (range_with_len 0 n)) ≡ set_of p n
set_gathered p zero = set_none p
set_gathered p (suc n) =
    ap (fold inserted 0) (rw add-one at (more p n)) ∙ fold-append inserted 0 (filter p (range_with_len 0 n)) (cond (p n) (n ∷ []) [])
    ∙ gathered p n (set_gathered p n) (p n) refl
