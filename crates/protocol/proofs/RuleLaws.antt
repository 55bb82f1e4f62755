-- What a copy within reach, or none, makes of a faulty slot of the leader.
use Prim.Native.Nat.{ℕ, ◌<◌}
use mathlib.Core.Path.{◌≡◌, refl, sym}
use mathlib.Core.Bool.{Bool, true, false, cond}
use native.Mathlib.Omega.{arith}
use borrow.Author.Tests.{lt-ltb, le-ltb}
use Rattle.search.specs.Search.{lowest, count}
use Rattle.search.proofs.SearchLaws.{lowest_is, lowest_le_passing}
use Rattle.image.specs.View.{View}
use Rattle.planner.specs.Setting.{Setting}
use Rattle.planner.specs.Rules.{may_truncate, is_faulty, have, dont_have, donor, rule, Fetch, Truncate, Wait, is_truncate, is_wait, answer, Waiting, first_waiting, end, may_lead, same_firsts}

-- a copy within reach is fetched
pub fetches : (S : Setting) (W : ℕ → View) (k c : ℕ) → c < S.shape.n → have S W k c ≡ true → is_faulty ((W S.leader).condition k) ≡ true → rule S W k ≡ Fetch
unfolding rule donor
fetches S W k c cn h f =
    let b = lowest_le_passing (have S W k) S.shape.n c cn h in
    rw (f, lt-ltb (lowest (have S W k) S.shape.n) S.shape.n (omega arith))

-- with none, and no truncation, the slot waits
pub waits : (S : Setting) (W : ℕ → View) (k : ℕ) → ((c : ℕ) → c < S.shape.n → have S W k c ≡ false) → is_faulty ((W S.leader).condition k) ≡ true → is_truncate (rule S W k) ≡ false → is_wait (rule S W k) ≡ true
unfolding rule donor is_truncate is_wait
waits S W k no_have f t =
    let b : lowest (have S W k) S.shape.n ≡ S.shape.n = lowest_is (have S W k) S.shape.n S.shape.n (omega arith) no_have (λ h. absurd (omega arith)) in
    let z = le-ltb (lowest (have S W k) S.shape.n) S.shape.n (omega arith) in
    rw (f, z) (go (may_truncate S.shape.n (count (dont_have S W k) S.shape.n)) (rw (f, z) at t))
  where
    go : (a : Bool) → is_truncate (cond a Truncate Wait) ≡ false → is_wait (cond a Truncate Wait) ≡ true
    go true t = sym t
    go false t = refl

pub stops : (S : Setting) (W : ℕ → View) (k : ℕ) → may_lead S W ≡ true → same_firsts S W ≡ true → k < end S W → is_wait (rule S W k) ≡ true → answer S W ≡ Waiting (first_waiting S W)
unfolding answer first_waiting
stops S W k ok one h w =
    let b = lowest_le_passing (λ j. is_wait (rule S W j)) (end S W) k h w in
    rw (ok, one, lt-ltb (first_waiting S W) (end S W) (omega arith))

-- the other slots do not wait, and a fetched one does not
pub unstuck : (S : Setting) (W : ℕ → View) (k : ℕ) → rule S W k ≡ Fetch → ((j : ℕ) → j < end S W → (j ≡ k → ⊥) → is_wait (rule S W j) ≡ false) → (j : ℕ) → j < end S W → Dec (j ≡ k) → is_wait (rule S W j) ≡ false
unfolding is_wait
unstuck S W k e h j b (yes q) = rw (q, e)
unstuck S W k e h j b (no q) = h j b q
