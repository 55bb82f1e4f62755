-- A plan that is ready: a card leads, one first index, and no slot that stays waits.
use mathlib.Core.Path.{◌≡◌, refl}
use mathlib.Core.Bool.{Bool, true, false, cond, not, ◌&&◌, ◌||◌}
use Prim.Native.Nat.{ℕ, ◌<◌}
use native.Mathlib.Omega.{arith}
use lib.Dec.{eqb, ltb}
use borrow.Author.Tests.{ltb-false}
use Rattle.search.specs.Search.{all}
use Rattle.search.proofs.SearchLaws.{below_lowest}
use Rattle.slices.proofs.SameLaws.{and_left, and_right}
use Rattle.image.specs.View.{View}
use Rattle.planner.specs.Setting.{Setting, witness}
use Rattle.planner.specs.Rules.{is_wait, rule, end, first_waiting, may_lead, same_firsts, answer, Ready, Waiting, Refused}
use Rattle.planner.proofs.FirstLaws.{same_elim}
use Rattle.planner.proofs.CallLaws.{lead_reads, lead_card}

pub record ReadyPlan (S : Setting) (W : ℕ → View) : Type 0 where
  pub leader : (W S.leader).readable ≡ true
  pub card : witness S S.leader ≡ false
  pub firsts : same_firsts S W ≡ true
  pub unstuck : (k : ℕ) → k < end S W → is_wait (rule S W k) ≡ false

-- every readable replica has the leader's first index
pub ready_first : (S : Setting) (W : ℕ → View) → ReadyPlan S W → (c : ℕ) → c < S.shape.n → (W c).readable ≡ true → (W c).first ≡ (W S.leader).first
ready_first S W r = same_elim S W r.firsts

-- views of the same readable replicas, with the same first indices
pub firsts_same : (S : Setting) (W U : ℕ → View) → ((c : ℕ) → (U c).readable ≡ (W c).readable) → ((c : ℕ) → (U c).first ≡ (W c).first) → same_firsts S U ≡ same_firsts S W
unfolding same_firsts
firsts_same S W U r f = λ i. all (λ c. not (r c i) || eqb (f c i) (f S.leader i)) S.shape.n

pub ready_facts : (S : Setting) (W : ℕ → View) (l : ℕ) → answer S W ≡ Ready l → ReadyPlan S W
unfolding answer first_waiting
ready_facts S W l e = go (may_lead S W && same_firsts S W) (ltb (first_waiting S W) (end S W)) refl refl e
  where
    go : (a b : Bool) → (may_lead S W && same_firsts S W) ≡ a → ltb (first_waiting S W) (end S W) ≡ b → cond a (cond b (Waiting (first_waiting S W)) (Ready (end S W))) Refused ≡ Ready l → ReadyPlan S W
    go true true p q e = absurd (let z : ◌≡◌ {A = ℕ} 0 1 = cc in omega arith)
    go true false p q e = record {
      leader = lead_reads S W (and_left (may_lead S W) (same_firsts S W) p);
      card = lead_card S W (and_left (may_lead S W) (same_firsts S W) p);
      firsts = and_right (may_lead S W) (same_firsts S W) p;
      unstuck = λ k h. below_lowest (λ k. is_wait (rule S W k)) (end S W) k (omega (arith, ltb-false (first_waiting S W) (end S W) q));
    }
    go false b p q e = absurd (let z : ◌≡◌ {A = ℕ} 0 1 = cc in omega arith)
