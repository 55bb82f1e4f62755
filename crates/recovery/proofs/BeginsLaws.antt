-- Where the log begins that a store is made on, as a survey of the cluster has it.
use Prim.Native.Nat.{ℕ, ◌<◌}
use mathlib.Core.Path.{◌≡◌, sym, ◌∙◌}
use mathlib.Core.Bool.{true}
use mathlib.Core.Option.{some}
use native.Mathlib.Omega.{arith}
use lib.ListN.{get_or}
use Rattle.slices.specs.Parts.{Bytes}
use Rattle.image.specs.Cluster.{first_at, decode}
use Rattle.planner.specs.Setting.{Setting, setting_of}
use Rattle.planner.specs.Plan.{views_in}
use Rattle.planner.specs.Survey.{SurveyIs}
use Rattle.planner.specs.declared.Survey.{Survey}
use Rattle.planner.proofs.FirstLaws.{same_elim, view_first}
use Rattle.protocol.specs.Store.{Store, store_replica}
use Rattle.protocol.specs.StepBytes.{next_in}
use Rattle.protocol.specs.Call.{Numbers, named, refusal_in}
use Rattle.protocol.proofs.Due.{due_facts}
use Rattle.protocol.proofs.Keeps.{due_target}
use Rattle.protocol.proofs.CallLaws.{accepted}
use Rattle.recovery.specs.NextStore.{store_of, BeginsAt}
use Rattle.recovery.specs.declared.NextStore.{NextStore}

-- ---- a readable replica

module _ {S : Setting} (b : Bytes) {n leader : ℕ} {s : Survey} (v : SurveyIs S (views_in S b) n leader s) where
  pub survey_first : (c : ℕ) → c < n → (views_in S b c).readable ≡ true → first_at S.shape b c ≡ get_or s.firsts c 0
  survey_first c h on = sym (view_first S b c) ∙ sym (v.surveyed.first_is c h on)

  -- where the leader's does
  pub survey_one : (c : ℕ) → c < n → (views_in S b c).readable ≡ true → first_at S.shape b c ≡ first_at S.shape b S.leader
  survey_one c h on = sym (view_first S b c) ∙ same_elim S (views_in S b) v.same_firsts_lem c (omega (arith, v.n_is)) on ∙ view_first S b S.leader

  pub survey_leaders : (c : ℕ) → c < n → (views_in S b c).readable ≡ true → first_at S.shape b c ≡ get_or s.firsts leader 0
  survey_leaders c h on = survey_one c h on ∙ rw v.leader_is (survey_first leader v.leader_below v.leader_reads)

-- ---- the replica that the first store still outstanding is made on

module _ (N : Numbers) (b : Bytes) (e : refusal_in N b ≡ 0) {leader : ℕ} {s : Survey} (v : SurveyIs (named N) (views_in (named N) b) N.shape.n leader s)
    (t : NextStore) (x : store_of t ≡ next_in (named N) b) where
  module _ (u : Store) (q : store_of t ≡ some u) where
    pub target_below : store_replica u < N.shape.n
    unfolding next_in setting_of
    target_below =
        let d = due_facts (named N) (decode N.shape b) u (sym x ∙ q) in
        (due_target (named N) (decode N.shape b) u (accepted N b e).low d.plan d.is_due).below

    pub target_reads : (views_in (named N) b (store_replica u)).readable ≡ true
    unfolding next_in setting_of views_in
    target_reads =
        let d = due_facts (named N) (decode N.shape b) u (sym x ∙ q) in
        (due_target (named N) (decode N.shape b) u (accepted N b e).low d.plan d.is_due).ok

  -- by the leader's number in the survey
  pub begins_at : {first : ℕ} → first ≡ get_or s.firsts leader 0 → BeginsAt N.shape b t first
  unfolding setting_of
  begins_at h u q = omega (arith, survey_leaders b v (store_replica u) (target_below u q) (target_reads u q), h)

  -- by that replica's own
  pub begins_there : {c first : ℕ} → ((u : Store) → store_of t ≡ some u → c ≡ store_replica u) → first ≡ get_or s.firsts c 0 → BeginsAt N.shape b t first
  unfolding setting_of
  begins_there f h u q = survey_first b v (store_replica u) (target_below u q) (target_reads u q) ∙ sym (rw (← f u q) h)
