-- The lowest number that passes, found among the elements of a list.
use Rattle.std.proofs.Common.{ℕ, ◌≤◌, ◌<◌, ◌≡◌, Bool, not, cond, List, length, take, get_or, ltb, Option, Some, None, sym, ap, refl, ◌∙◌, arith}
use native.Mathlib.Decide.{dec_lt}
use borrow.Author.Tests.{lt-ltb, le-ltb}
use Rattle.std.specs.List.{position_or_len}
use Rattle.std.specs.Option.{unwrap_or}
use Rattle.std.proofs.lemmas.List.{get_or-take, length-take-le}
use Rattle.std.proofs.lemmas.List.Sums.{fails_before_first, passes_at_first, prefix_len-le-length}
use Rattle.search.specs.Search.{lowest}
use Rattle.search.proofs.SearchLaws.{lowest_is}

module _ (test : ℕ → Bool) (xs : List ℕ) (e : ℕ) (fits : e ≤ length xs) where
  sized : length (take e xs) ≡ e
  sized = length-take-le e xs fits

  within : position_or_len test (take e xs) ≤ e
  within = omega (arith, prefix_len-le-length (λ x. not (test x)) (take e xs), sized)

  lowest_place : lowest (λ k. test (get_or xs k 0)) e ≡ position_or_len test (take e xs)
  lowest_place =
      lowest_is (λ k. test (get_or xs k 0)) e (position_or_len test (take e xs)) within
      (λ j h. ap test (sym (get_or-take e xs j 0 (omega (arith, within)))) ∙ fails_before_first test (take e xs) j 0 h)
      (λ h. ap test (sym (get_or-take e xs (position_or_len test (take e xs)) 0 h)) ∙ passes_at_first test (take e xs) 0 (omega (arith, sized)))

  pub place_or : {r : Option ℕ} → r ≡ cond (ltb (position_or_len test (take e xs)) (length (take e xs))) (Some (position_or_len test (take e xs))) None
      → unwrap_or r e ≡ lowest (λ k. test (get_or xs k 0)) e
  place_or f = rw (f, sized) (go (position_or_len test (take e xs)) within (dec_lt _ e) ∙ sym lowest_place)
    where
      go : (i : ℕ) → i ≤ e → Dec (i < e) → unwrap_or (cond (ltb i e) (Some i) None) e ≡ i
      go i h (yes l) = rw (lt-ltb i e l) refl
      go i h (no l) = rw (le-ltb i e (omega arith)) (omega arith)
