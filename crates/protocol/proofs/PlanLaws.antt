-- A store that was due, once made, leaves the planner's answer, the readable replicas and their first indices as they were (`same_plan`).
use mathlib.Core.Path.{◌≡◌, refl, sym, ap, ◌∙◌, fun_ext}
use mathlib.Core.Bool.{Bool, true, false, not, ◌&&◌}
use Prim.Native.Nat.{ℕ, ◌≤◌, ◌<◌}
use native.Mathlib.Omega.{arith}
use native.Mathlib.Decide.{ℕ_discrete}
use lib.Dec.{eqb}
use borrow.Author.Tests.{eq-eqb, le-ltb}
use Rattle.search.specs.Search.{lowest}
use Rattle.search.proofs.SearchLaws.{lowest_is, lowest_cong, lowest_passes, below_lowest}
use Rattle.image.specs.Cluster.{Cluster}
use Rattle.image.specs.View.{View}
use Rattle.image.specs.Read.{is_whole}
use Rattle.planner.specs.Setting.{Setting, views_of}
use Rattle.planner.specs.Rules.{may_lead, is_faulty, answers, agrees, have, dont_have, Keep, is_truncate, is_wait, rule, donor, end, first_waiting, answer, Ready}
use Rattle.protocol.proofs.Effects.{view, Blanked, Mended}
use Rattle.protocol.proofs.ReadyPlan.{ReadyPlan, firsts_same}
use Rattle.protocol.proofs.LeaderDue.{LeaderDone}
use Rattle.protocol.proofs.Slots.{answers_readable, answers_other}
use Rattle.protocol.proofs.Moves.{Off, Move, leader_blanked, leader_mended, follower_blanked, follower_mended, follower_filled, follower_appended}

-- ---- a rule looks at the leader's slot and the others' views
module _ (S : Setting) (W U : ℕ → View) (off : (c : ℕ) → (c ≡ S.leader → ⊥) → U c ≡ W c) where
  answers_same : (c : ℕ) → answers S U c ≡ answers S W c
  unfolding answers
  answers_same c = go (ℕ_discrete c S.leader)
    where
      go : Dec (c ≡ S.leader) → (not (eqb c S.leader) && (U c).readable) ≡ (not (eqb c S.leader) && (W c).readable)
      go (yes q) = rw (eq-eqb c S.leader q)
      go (no q) = rw (off c q)

  leader_silent : (P : ℕ → View) (b : Bool) → (answers S P S.leader && b) ≡ false
  unfolding answers
  leader_silent P b = rw (eq-eqb S.leader S.leader refl)

  module _ (k : ℕ) (same : (U S.leader).epoch k ≡ (W S.leader).epoch k) where
    have_same : (c : ℕ) → have S U k c ≡ have S W k c
    unfolding have agrees
    have_same c = go (ℕ_discrete c S.leader)
      where
        two : (P : ℕ → View) → have S P k S.leader ≡ false
        two P = ap (λ (b : Bool). b && agrees S P S.leader k) (leader_silent P (is_whole ((P S.leader).condition k)))

        go : Dec (c ≡ S.leader) → have S U k c ≡ have S W k c
        go (yes q) = rw q (two U ∙ sym (two W))
        go (no q) = rw (answers_same c, off c q, same)

    dont_same : (c : ℕ) → dont_have S U k c ≡ dont_have S W k c
    unfolding dont_have agrees
    dont_same c = go (ℕ_discrete c S.leader)
      where
        go : Dec (c ≡ S.leader) → dont_have S U k c ≡ dont_have S W k c
        go (yes q) = rw q (leader_silent U (not (agrees S U S.leader k)) ∙ sym (leader_silent W (not (agrees S W S.leader k))))
        go (no q) = rw (answers_same c, off c q, same)

    pub rule_same : (U S.leader).condition k ≡ (W S.leader).condition k → rule S U k ≡ rule S W k
    unfolding rule donor
    rule_same e =
        let a : have S U k ≡ have S W k = fun_ext have_same in
        let b : dont_have S U k ≡ dont_have S W k = fun_ext dont_same in
        cc

-- ---- ready plans
pub ready_intro : (S : Setting) (W : ℕ → View) → ReadyPlan S W → answer S W ≡ Ready (end S W)
unfolding answer first_waiting may_lead
ready_intro S W r =
    let z : lowest (λ k. is_wait (rule S W k)) (end S W) ≡ end S W = lowest_is (λ k. is_wait (rule S W k)) (end S W) (end S W) (omega arith) r.unstuck (λ h. absurd (omega arith)) in
    rw (r.leader, r.card, r.firsts, le-ltb (first_waiting S W) (end S W) (omega arith))

pub rule_keep_unfaulty : (S : Setting) (W : ℕ → View) (k : ℕ) → is_faulty ((W S.leader).condition k) ≡ false → rule S W k ≡ Keep
unfolding rule
rule_keep_unfaulty S W k e = rw e

pub record SamePlan (S : Setting) (W U : ℕ → View) : Type 0 where
  pub plan : ReadyPlan S U
  pub ends : end S U ≡ end S W
  pub readables : (c : ℕ) → (U c).readable ≡ (W c).readable
  pub firsts : (c : ℕ) → (U c).first ≡ (W c).first

pub answer_same : (S : Setting) (W U : ℕ → View) → ReadyPlan S W → SamePlan S W U → answer S U ≡ answer S W
answer_same S W U r s = ready_intro S U s.plan ∙ ap Ready s.ends ∙ sym (ready_intro S W r)

-- one replica changes and stays readable
pub off_views : (S : Setting) (F G : Cluster) (c : ℕ) → Off c F G → (d : ℕ) → (d ≡ c → ⊥) → views_of S G d ≡ views_of S F d
unfolding views_of
off_views S F G c off d q = ap (view S d) (off d q)

pub readable_same : (S : Setting) (F G : Cluster) (c : ℕ) → Off c F G → (views_of S F c).readable ≡ true → (views_of S G c).readable ≡ true → (d : ℕ) → (views_of S G d).readable ≡ (views_of S F d).readable
readable_same S F G c off a b d = go (ℕ_discrete d c)
  where
    go : Dec (d ≡ c) → (views_of S G d).readable ≡ (views_of S F d).readable
    go (yes q) = rw q (b ∙ sym a)
    go (no q) = rw (off_views S F G c off d q)

-- and keeps its first index
first_same : (S : Setting) (F G : Cluster) (c : ℕ) → Off c F G → (views_of S G c).first ≡ (views_of S F c).first → (d : ℕ) → (views_of S G d).first ≡ (views_of S F d).first
first_same S F G c off f d = go (ℕ_discrete d c)
  where
    go : Dec (d ≡ c) → (views_of S G d).first ≡ (views_of S F d).first
    go (yes q) = rw q f
    go (no q) = rw (off_views S F G c off d q)

-- ---- the leader's moves
blanked_plan : (S : Setting) (F G : Cluster) (l : ℕ) → ReadyPlan S (views_of S F) → Off S.leader F G → Blanked l (views_of S F S.leader) (views_of S G S.leader) → end S (views_of S F) ≤ l
    → SamePlan S (views_of S F) (views_of S G)
unfolding end
blanked_plan S F G l r off t h =
    record {
      plan = record { leader = t.readable; card = r.card; firsts = firsts_same S W U reads begins ∙ r.firsts; unstuck = λ k b. ap is_wait (same k (omega (arith, ends, b))) ∙ r.unstuck k (omega (arith, ends, b)) };
      ends = ends;
      readables = reads;
      firsts = begins;
    }
  where
    W : ℕ → View
    W = views_of S F

    U : ℕ → View
    U = views_of S G

    reads : (c : ℕ) → (U c).readable ≡ (W c).readable
    reads = readable_same S F G S.leader off r.leader t.readable

    begins : (c : ℕ) → (U c).first ≡ (W c).first
    begins = first_same S F G S.leader off t.first

    same : (k : ℕ) → k < l → rule S U k ≡ rule S W k
    same k b = rule_same S W U (off_views S F G S.leader off) k (t.epochs k b) (t.conditions k b)

    e : ℕ
    e = end S W

    ends : end S U ≡ end S W
    ends = rw t.is (lowest_is (λ k. is_truncate (rule S U k)) l e h
        (λ j b. ap is_truncate (same j (omega arith)) ∙ below_lowest (λ k. is_truncate (rule S W k)) (W S.leader).length j b)
        (λ b. ap is_truncate (same e b) ∙ lowest_passes (λ k. is_truncate (rule S W k)) (W S.leader).length (omega (arith, t.was, h))))

mended_plan : (S : Setting) (F G : Cluster) (k : ℕ) → ReadyPlan S (views_of S F) → Off S.leader F G → Mended k (views_of S F S.leader) (views_of S G S.leader)
    → is_truncate (rule S (views_of S F) k) ≡ false → is_wait (rule S (views_of S F) k) ≡ false → SamePlan S (views_of S F) (views_of S G)
unfolding end is_truncate is_wait is_faulty
mended_plan S F G k r off t x y =
    record {
      plan = record { leader = t.readable; card = r.card; firsts = firsts_same S W U reads begins ∙ r.firsts; unstuck = λ j b. waits j ∙ r.unstuck j (omega (arith, ends, b)) };
      ends = ends;
      readables = reads;
      firsts = begins;
    }
  where
    W : ℕ → View
    W = views_of S F

    U : ℕ → View
    U = views_of S G

    reads : (c : ℕ) → (U c).readable ≡ (W c).readable
    reads = readable_same S F G S.leader off r.leader t.readable

    begins : (c : ℕ) → (U c).first ≡ (W c).first
    begins = first_same S F G S.leader off t.first

    same : (j : ℕ) → (j ≡ k → ⊥) → rule S U j ≡ rule S W j
    same j b = rule_same S W U (off_views S F G S.leader off) j (t.epochs j) (t.conditions j b)

    mend : rule S U k ≡ Keep
    mend = rule_keep_unfaulty S U k (rw t.whole)

    waits : (j : ℕ) → is_wait (rule S U j) ≡ is_wait (rule S W j)
    waits j = go (ℕ_discrete j k)
      where
        go : Dec (j ≡ k) → is_wait (rule S U j) ≡ is_wait (rule S W j)
        go (yes q) = rw (q, mend) (sym y)
        go (no q) = ap is_wait (same j q)

    cuts : (j : ℕ) → is_truncate (rule S U j) ≡ is_truncate (rule S W j)
    cuts j = go (ℕ_discrete j k)
      where
        go : Dec (j ≡ k) → is_truncate (rule S U j) ≡ is_truncate (rule S W j)
        go (yes q) = rw (q, mend) (sym x)
        go (no q) = ap is_truncate (same j q)

    ends : end S U ≡ end S W
    ends = rw t.lengths (lowest_cong (λ j. is_truncate (rule S U j)) (λ j. is_truncate (rule S W j)) (W S.leader).length (λ j b. cuts j))

-- ---- a follower's moves
pub follower_done : (S : Setting) (W U : ℕ → View) → U S.leader ≡ W S.leader → LeaderDone S W → LeaderDone S U
unfolding end is_truncate
follower_done S W U e d = record {
  untruncated = lowest_is (λ k. is_truncate (rule S U k)) (U S.leader).length (U S.leader).length (omega arith) (λ j h. ap is_truncate (rule_keep_unfaulty S U j (unfaulty j h))) (λ h. absurd (omega arith));
  unfaulty = unfaulty;
  unlost = λ k h. rw e (d.unlost k (rw e at h));
}
  where
    unfaulty : (k : ℕ) → k < (U S.leader).length → is_faulty ((U S.leader).condition k) ≡ false
    unfaulty k h = rw e (d.unfaulty k (rw e at h))

follower_plan : (S : Setting) (F G : Cluster) (c : ℕ) → ReadyPlan S (views_of S F) → LeaderDone S (views_of S F) → answers S (views_of S F) c ≡ true → Off c F G → (views_of S G c).readable ≡ true → (views_of S G c).first ≡ (views_of S F c).first
    → SamePlan S (views_of S F) (views_of S G)
unfolding is_wait
follower_plan S F G c r ld an off ok first =
    let d = follower_done S (views_of S F) (views_of S G) here ld in
    record {
      plan = record { leader = rw here r.leader; card = r.card; firsts = firsts_same S (views_of S F) (views_of S G) reads begins ∙ r.firsts; unstuck = λ k h. ap is_wait (rule_keep_unfaulty S (views_of S G) k (d.unfaulty k (omega (arith, d.untruncated, h)))) };
      ends = d.untruncated ∙ ap (λ (a : View). a.length) here ∙ sym ld.untruncated;
      readables = reads;
      firsts = begins;
    }
  where
    reads : (d : ℕ) → (views_of S G d).readable ≡ (views_of S F d).readable
    reads = readable_same S F G c off (answers_readable S (views_of S F) c an) ok

    begins : (d : ℕ) → (views_of S G d).first ≡ (views_of S F d).first
    begins = first_same S F G c off first

    here : views_of S G S.leader ≡ views_of S F S.leader
    here = off_views S F G c off S.leader (λ q. answers_other S (views_of S F) c an (sym q))

pub same_plan : (S : Setting) (F G : Cluster) → ReadyPlan S (views_of S F) → Move S F G → SamePlan S (views_of S F) (views_of S G)
same_plan S F G r (leader_blanked l off t h) = blanked_plan S F G l r off t h
same_plan S F G r (leader_mended k off t h full x y u) = mended_plan S F G k r off t x y
same_plan S F G r (follower_blanked c l ld cn an off t h) = follower_plan S F G c r ld an off t.readable t.first
same_plan S F G r (follower_mended c k ld cn an off t h full u w) = follower_plan S F G c r ld an off t.readable t.first
same_plan S F G r (follower_filled c ld cn an off t full h u v) = follower_plan S F G c r ld an off (rw t (answers_readable S (views_of S F) c an)) (rw t)
same_plan S F G r (follower_appended c ld cn an off t full h u) = follower_plan S F G c r ld an off t.readable t.first
