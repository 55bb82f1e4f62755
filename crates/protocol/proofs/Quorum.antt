-- A set of replicas that keeps a slot, whoever is in it: with such a set the leader truncates neither there (`untruncated`) nor below
-- (`end_above`).
use mathlib.Core.Path.{◌≡◌, refl, sym, ◌∙◌}
use mathlib.Core.Bool.{Bool, true, false, cond, true≢false}
use Prim.Native.Nat.{ℕ, ◌≤◌, ◌<◌}
use native.Mathlib.Omega.{arith}
use native.Mathlib.Decide.{dec_lt}
use lib.Dec.{ltb}
use Rattle.search.specs.Search.{count}
use Rattle.search.proofs.SearchLaws.{lowest_passes}
use Rattle.search.proofs.CountLaws.{count_disjoint}
use Rattle.image.specs.View.{View}
use Rattle.planner.specs.Setting.{Setting}
use Rattle.planner.specs.Rules.{majority, may_truncate, is_faulty, dont_have, donor, Keep, Fetch, Wait, is_truncate, rule, end}
use Rattle.planner.proofs.MajorityLaws.{truncate_needs}

-- at least a majority of all n, and no readable present member answers don't-have at slot k
pub record Quorum (S : Setting) (W : ℕ → View) (hold : ℕ → Bool) (k : ℕ) : Type 0 where
  pub many : majority S.shape.n ≤ count hold S.shape.n
  pub answer : (c : ℕ) → c < S.shape.n → hold c ≡ true → dont_have S W k c ≡ false

module _ (S : Setting) (W : ℕ → View) (hold : ℕ → Bool) where
  -- those who do not have it are too few
  few : (k : ℕ) → Quorum S W hold k → may_truncate S.shape.n (count (dont_have S W k) S.shape.n) ≡ false
  few k q = go (may_truncate S.shape.n (count (dont_have S W k) S.shape.n)) refl
    where
      apart : (c : ℕ) → c < S.shape.n → dont_have S W k c ≡ true → hold c ≡ true → ⊥
      apart c cn x y = true≢false (sym x ∙ q.answer c cn y)

      go : (t : Bool) → may_truncate S.shape.n (count (dont_have S W k) S.shape.n) ≡ t → t ≡ false
      go true e =
          absurd (omega (arith, q.many, truncate_needs S.shape.n (count (dont_have S W k) S.shape.n) e, count_disjoint (dont_have S W k) hold S.shape.n apart))
      go false e = refl

  pub untruncated : (k : ℕ) → Quorum S W hold k → is_truncate (rule S W k) ≡ false
  unfolding rule is_truncate
  untruncated k q = rw (few k q) (go (is_faulty ((W S.leader).condition k)) (ltb (donor S W k) S.shape.n))
    where
      go : (a t : Bool) → is_truncate (cond a (cond t Fetch Wait) Keep) ≡ false
      go true true = refl
      go true false = refl
      go false t = refl

  -- the leader's end lies above slot k
  pub end_above : (k : ℕ) → k < (W S.leader).length → ((j : ℕ) → j ≤ k → Quorum S W hold j) → k < end S W
  unfolding end
  end_above k within q = go (dec_lt k (end S W))
    where
      go : Dec (k < end S W) → k < end S W
      go (yes l) = l
      go (no l) =
          absurd (true≢false (sym (lowest_passes (λ k. is_truncate (rule S W k)) (W S.leader).length (omega (arith, within)))
          ∙ untruncated (end S W) (q (end S W) (omega arith))))
