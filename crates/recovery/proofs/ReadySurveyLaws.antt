-- A ready survey: the store that it shows is the next one, and noted, it is that of the cluster afterwards.
use Prim.Native.Nat.{ℕ, ◌<◌}
use mathlib.Core.Path.{◌≡◌, refl, sym, ap, ◌∙◌}
use mathlib.Core.Bool.{true, true≢false}
use mathlib.Core.Option.{Option, none, some}
use native.Mathlib.Omega.{arith}
use lib.ListN.{length}
use Rattle.slices.specs.Parts.{Bytes}
use Rattle.image.specs.Cluster.{Cluster, decode}
use Rattle.planner.specs.Setting.{Setting, setting_of, views_of}
use Rattle.planner.specs.Rules.{answer, end}
use Rattle.planner.specs.Plan.{views_in}
use Rattle.planner.specs.declared.Survey.{Survey}
use Rattle.protocol.specs.Store.{Store, store_replica, store_slot}
use Rattle.protocol.specs.ClusterSteps.{after_store}
use Rattle.protocol.specs.Recovery.{◌or◌, leader_store, followers_store, is_some, if_ready, next, after}
use Rattle.protocol.specs.StepBytes.{after_store_bytes, next_in}
use Rattle.protocol.specs.Call.{Numbers, named, refusal_in}
use Rattle.protocol.proofs.Due.{due_facts}
use Rattle.protocol.proofs.ReadyPlan.{ready_facts}
use Rattle.protocol.proofs.Keeps.{due_target, due_slot}
use Rattle.protocol.proofs.PlanLaws.{ready_intro}
use Rattle.protocol.proofs.StepLaws.{next_means}
use Rattle.protocol.proofs.Runs.{step_law}
use Rattle.protocol.proofs.CallLaws.{accepted, refusal_kept}
use Rattle.recovery.specs.Look.{RestBelow}
use Rattle.recovery.specs.Note.{views_after, Noted, ReadySurvey}
use Rattle.recovery.proofs.OutcomeLaws.{slots_few}
use Rattle.recovery.proofs.SeenAfterLaws.{next_seen}
use Rattle.recovery.proofs.RestLaws.{rests_after}

module _ (N : Numbers) (b : Bytes) {leader : ℕ} {s : Survey} (v : ReadySurvey N b leader s) where
  abbrev S : Setting
  S = named N

  abbrev F : Cluster
  F = decode S.shape b

  pub shows_next : {o : Option Store} → o ≡ (leader_store S (views_in S b) or followers_store S F) → o ≡ next_in S b
  unfolding next_in next if_ready views_in
  shows_next x = let r = v.ready in x ∙ rw r

  -- where the leader has none, it is the followers'
  pub shows_follower : {o : Option Store} {c : ℕ} → RestBelow S F c → o ≡ followers_store S F → o ≡ next_in S b
  unfolding ◌or◌ views_in
  shows_follower w x = shows_next (rw w.leader_rests x)

  low : S.leader < S.shape.n
  unfolding setting_of
  low = (accepted N b v.accepts).low

  module _ (u : Store) (x : some u ≡ next_in S b) where
    is_next : next S F ≡ some u
    unfolding next_in
    is_next = sym x

    replica_below : store_replica u < S.shape.n
    replica_below = let d = due_facts S F u is_next in (due_target S F u low d.plan d.is_due).below

    slot_below : store_slot u < S.shape.m
    slot_below = due_slot S F u (due_facts S F u is_next).is_due

    pub store_below : (store_replica u < 7) × (store_slot u < 64)
    unfolding setting_of
    store_below = (omega (arith, replica_below, v.sees.few), omega (arith, slot_below, slots_few N b v.accepts))

    reads : (views_in S b (store_replica u)).readable ≡ true
    unfolding views_in
    reads = let d = due_facts S F u is_next in (due_target S F u low d.plan d.is_due).ok

    module _ (a : Bytes) (y : a ≡ after_store_bytes N.shape u b) where
      means : decode S.shape a ≡ after_store u F
      unfolding setting_of
      means = rw y (next_means S low b (accepted N b v.accepts).size u is_next).is

      views_next : views_in S a ≡ views_after S u (views_in S b)
      unfolding views_in
      views_next = ap (views_of S) means ∙ next_seen S F u is_next

      answer_next : answer S (views_in S a) ≡ answer S (views_in S b)
      unfolding views_in
      answer_next = ap (λ (G : Cluster). answer S (views_of S G)) means ∙ (step_law S F u low is_next).answers

      rests_next : (store_replica u ≡ leader → ⊥) → RestBelow S (decode S.shape a) (store_replica u)
      rests_next q = rw means (rests_after S F u is_next (λ z. q (z ∙ v.sees.leader_is)))

      accepts_next : refusal_in N a ≡ 0
      unfolding views_in setting_of
      accepts_next =
          let w = next_means S low b (accepted N b v.accepts).size u is_next in
          let l : length a ≡ length b = rw y (w.size ∙ sym (accepted N b v.accepts).size) in
          refusal_kept N a b l answer_next v.accepts

      ready_noted : {r : Survey} → Noted N.shape u s r → ReadySurvey N a leader r
      unfolding setting_of
      ready_noted f = record {
        accepts = accepts_next;
        sees = rw views_next (f S (views_in S b) N.shape.n leader refl replica_below slot_below reads v.sees);
        ready = ready_intro S (views_in S a) (ready_facts S (views_in S a) (end S (views_in S b)) (answer_next ∙ v.ready));
      }

  pub store_within : (o : Option Store) → o ≡ next_in S b → (u : Store) → o ≡ some u → (store_replica u < 7) × (store_slot u < 64)
  store_within o x u e = store_below u (sym e ∙ x)

  -- replica c is the one that the store is made on
  module _ {c : ℕ} where
    pub replica_within : (o : Option Store) → o ≡ next_in S b → is_some o ≡ true → ((u : Store) → o ≡ some u → c ≡ store_replica u) → c < S.shape.n
    unfolding is_some
    replica_within none x h f = absurd (true≢false (sym h))
    replica_within (some u) x h f = rw (f u refl) (replica_below u x)

    pub rest_after : {a : Bytes} (o : Option Store) → o ≡ next_in S b → is_some o ≡ true → ((u : Store) → o ≡ some u → c ≡ store_replica u)
        → a ≡ after o b (λ u. after_store_bytes N.shape u b) → (c ≡ leader → ⊥) → RestBelow S (decode S.shape a) c
    unfolding is_some after
    rest_after none x h f y q = absurd (true≢false (sym h))
    rest_after (some u) x h f y q = rw (f u refl) (rests_next u x _ y (λ z. q (f u refl ∙ z)))

  -- the survey that is noted is that of the cluster after the store
  pub ready_after : {a : Bytes} {r : Survey} (o : Option Store) → o ≡ next_in S b → is_some o ≡ true
      → a ≡ after o b (λ u. after_store_bytes N.shape u b) → ((u : Store) → o ≡ some u → Noted N.shape u s r) → ReadySurvey N a leader r
  unfolding is_some after
  ready_after none x h y f = absurd (true≢false (sym h))
  ready_after (some u) x h y f = ready_noted u x _ y (f u refl)
