-- A test of every number of a range.
use Rattle.std.proofs.Common.{ℕ, zero, suc, ◌+◌, ◌≡◌, Bool, true, false, ◌&&◌, [], ◌∷◌, ◌++◌, refl, ap, ◌∙◌, arith, add-one}
use mathlib.Core.List.{map-id}
use Rattle.std.specs.List.{range_with_len, list_all}
use Rattle.std.proofs.lemmas.List.FromFn.{map-range_with_len_more}
use Rattle.std.proofs.lemmas.List.Folds.{list_all-append}
use Rattle.search.specs.Search.{all}

turned : (s t : Bool) → (s && (t && true)) ≡ (t && s)
turned true true = refl
turned true false = refl
turned false true = refl
turned false false = refl

pub all_range : (p : ℕ → Bool) (n : ℕ) → list_all p (range_with_len 0 n) ≡ all p n
unfolding all
all_range p zero = refl
all_range p (suc n) =
    let more : range_with_len 0 (n + 1) ≡ range_with_len 0 n ++ (n ∷ []) = simp map-id at (map-range_with_len_more (λ k. k) 0 n n (omega arith)) in
    ap (list_all p) (rw add-one at more) ∙ list_all-append p (range_with_len 0 n) (n ∷ []) ∙ rw (all_range p n) (turned (all p n) (p n))
