-- What iterator chains compute of a list, by place: whether any element passes.
use Prim.Native.Nat.{ℕ, zero, suc, ◌<◌, ◌≤◌}
use mathlib.Core.Path.{◌≡◌, refl, sym, ◌∙◌}
use mathlib.Core.Bool.{Bool, true, false, not, ◌||◌, true≢false}
use mathlib.Core.List.{List, [], ◌∷◌}
use native.Mathlib.Omega.{arith}
use native.Mathlib.Decide.{dec_lt}
use lib.ListN.{length, get_or}
use Rattle.std.specs.List.{list_any}
use Rattle.search.specs.Search.{all}
use Rattle.search.proofs.SearchLaws.{all_elim, all_intro}

module _ {A : Type 0} (p : A → Bool) where
  -- no element passes
  pub any_off : (xs : List A) (d : A) → ((k : ℕ) → k < length xs → p (get_or xs k d) ≡ false) → list_any p xs ≡ false
  any_off [] d h = refl
  any_off (x ∷ xs) d h = rw (h 0 (omega arith)) (any_off xs d (λ k l. h (suc k) (omega arith)))

  pub any_none_at : (xs : List A) (d : A) → list_any p xs ≡ false → (k : ℕ) → k < length xs → p (get_or xs k d) ≡ false
  any_none_at [] d e k l = absurd (omega arith)
  any_none_at (x ∷ xs) d e k l = go (p x) refl e k l (any_none_at xs d)
    where
      go : (t : Bool) → p x ≡ t → (t || list_any p xs) ≡ false → (k : ℕ) → k < suc (length xs)
          → (list_any p xs ≡ false → (k : ℕ) → k < length xs → p (get_or xs k d) ≡ false) → p (get_or (x ∷ xs) k d) ≡ false
      go true q f k l ih = absurd (true≢false f)
      go false q f zero l ih = q
      go false q f (suc k) l ih = ih f k (omega arith)

  pub any_all : (xs : List A) (d : A) → list_any p xs ≡ not (all (λ k. not (p (get_or xs k d))) (length xs))
  any_all xs d = go (list_any p xs) refl (all (λ k. not (p (get_or xs k d))) (length xs)) refl
    where
      go : (a : Bool) → list_any p xs ≡ a → (t : Bool) → all (λ k. not (p (get_or xs k d))) (length xs) ≡ t → a ≡ not t
      go false e true f = refl
      go true e false f = refl
      go false e false f =
          let g : all (λ k. not (p (get_or xs k d))) (length xs) ≡ true = all_intro (λ k. not (p (get_or xs k d))) (length xs) (λ k l. rw (any_none_at xs d e k l)) in
          absurd (true≢false (sym g ∙ f))
      go true e true f =
          let g : list_any p xs ≡ false = any_off xs d (λ k l. off (p (get_or xs k d)) (all_elim (λ k. not (p (get_or xs k d))) (length xs) f k l)) in
          absurd (true≢false (sym e ∙ g))
        where
          off : (b : Bool) → not b ≡ true → b ≡ false
          off true h = absurd (true≢false (sym h))
          off false h = refl

-- numbers that pass anyway need not be tested
pub all_beyond : (q : ℕ → Bool) (b c : ℕ) → b ≤ c → ((k : ℕ) → b ≤ k → q k ≡ true) → all q b ≡ all q c
all_beyond q b c h t = go (all q b) refl (all q c) refl
  where
    go : (x : Bool) → all q b ≡ x → (y : Bool) → all q c ≡ y → x ≡ y
    go true e true f = refl
    go false e false f = refl
    go true e false f = absurd (true≢false (sym (all_intro q c (λ k l. each k (dec_lt k b))) ∙ f))
      where
        each : (k : ℕ) → Dec (k < b) → q k ≡ true
        each k (yes l) = all_elim q b e k l
        each k (no l) = t k (omega arith)
    go false e true f = absurd (true≢false (sym (all_intro q b (λ k l. all_elim q c f k (omega arith))) ∙ e))
