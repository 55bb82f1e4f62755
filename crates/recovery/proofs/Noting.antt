-- A run that notes its stores: it is underway, and its survey is that of the cluster as it is now.
use Prim.Native.Nat.{ℕ, ◌+◌, ◌-◌, ◌≤◌, ◌<◌}
use mathlib.Core.Path.{◌≡◌, sym, ap, ◌∙◌}
use mathlib.Core.Bool.{true, false}
use mathlib.Core.Option.{some}
use lib.ListN.{length, get_or}
use Rattle.slices.specs.Parts.{Bytes}
use Rattle.image.specs.Cluster.{first_at, decode}
use Rattle.planner.specs.Setting.{setting_of}
use Rattle.planner.specs.declared.Survey.{Survey}
use Rattle.protocol.specs.Store.{Store, store_replica, store_slot}
use Rattle.protocol.specs.Recovery.{after, is_some}
use Rattle.protocol.specs.StepBytes.{after_store_bytes, next_in}
use Rattle.protocol.specs.Call.{run, Numbers, named}
use Rattle.protocol.specs.CallResult.{Result, recovered, run_result, count_of, call_result, call_bytes}
use Rattle.recovery.specs.NextStore.{store_of, StoreFits, BeginsAt}
use Rattle.recovery.specs.OutlookIs.{ReadyIs}
use Rattle.recovery.specs.Answers.{counted}
use Rattle.recovery.specs.Look.{RestBelow}
use Rattle.recovery.specs.Note.{Noted, ReadySurvey}
use Rattle.recovery.specs.declared.NextStore.{NextStore}
use Rattle.protocol.proofs.CallLaws.{accepted}
use Rattle.protocol.proofs.Reached.{steps_first}
use Rattle.recovery.proofs.BeginsLaws.{begins_at, begins_there}
use Rattle.recovery.proofs.OutcomeLaws.{slots_few, store_fits, ready_ran, ready_run_bytes}
use Rattle.recovery.proofs.Underway.{Underway, underway_start, underway_more, underway_rests, underway_recovered, underway_ends, underway_answers, underway_size}
use Rattle.recovery.proofs.ReadySurveyLaws.{store_within, replica_within, rest_after, ready_after}

-- from b₀ and its first store, with a leader, from 0, and a budget; so many made; the bytes as they are now, their survey, and the store that
-- is outstanding
pub record Noting (N : Numbers) (b₀ : Bytes) (t₀ : NextStore) (leader budget made : ℕ) (b : Bytes) (s : Survey) (t : NextStore) : Type 0 where
  pub began : ReadyIs N b₀ t₀
  pub underway : Underway N b₀ budget made b t
  pub surveys : ReadySurvey N b leader s

pub noting_start : (N : Numbers) (b : Bytes) (leader budget : ℕ) (s : Survey) (t : NextStore) → ReadyIs N b t → ReadySurvey N b leader s
    → Noting N b t leader budget 0 b s t
noting_start N b leader budget s t i v = record { began = i; underway = underway_start N b budget t i.0 i.2; surveys = v }

module _ (N : Numbers) {b₀ b : Bytes} {t₀ t : NextStore} {leader budget made : ℕ} {s : Survey} (g : Noting N b₀ t₀ leader budget made b s t) where
  pub noting_fits : (N.shape.m ≤ 64) × StoreFits N.shape (length b) t
  noting_fits = let e = g.surveys.accepts in (slots_few N b e, store_fits N b e t g.underway.is_next)

  pub noting_within : (u : Store) → store_of t ≡ some u → (store_replica u < 7) × (store_slot u < 64)
  noting_within = store_within N b g.surveys (store_of t) g.underway.is_next

  -- where the log begins that the store is made on: at the leader's first index, or by its own replica's
  pub noting_first : {first : ℕ} → first ≡ get_or s.firsts leader 0 → BeginsAt N.shape b t first
  noting_first = begins_at N b g.surveys.accepts g.surveys.sees t g.underway.is_next

  pub noting_own : {c first : ℕ} → ((u : Store) → store_of t ≡ some u → c ≡ store_replica u) → first ≡ get_or s.firsts c 0 → BeginsAt N.shape b t first
  noting_own = begins_there N b g.surveys.accepts g.surveys.sees t g.underway.is_next

  -- every log begins where it began
  pub noting_begins : (c : ℕ) → first_at N.shape b c ≡ first_at N.shape b₀ c
  unfolding setting_of
  noting_begins c =
      let v = accepted N b₀ g.began.0 in
      let w = accepted N b g.surveys.accepts in
      sym (steps_first (named N) w.low (budget - made) b w.size c)
      ∙ ap (λ (x : Bytes). first_at N.shape x c) g.underway.steps
      ∙ steps_first (named N) v.low budget b₀ v.size c

  module _ (some_left : is_some (store_of t) ≡ true) {a : Bytes} (x : a ≡ after (store_of t) b (λ u. after_store_bytes N.shape u b))
      {r : Survey} (f : (u : Store) → store_of t ≡ some u → Noted N.shape u s r) where
    pub noted_ready : ReadySurvey N a leader r
    noted_ready = ready_after N b g.surveys (store_of t) g.underway.is_next some_left x f

    -- replica c is the one that the store was made on
    module _ {c : ℕ} (q : (u : Store) → store_of t ≡ some u → c ≡ store_replica u) where
      pub noted_replica : c < N.shape.n
      unfolding setting_of
      noted_replica = replica_within N b g.surveys (store_of t) g.underway.is_next some_left q

      pub noted_rests : (c ≡ leader → ⊥) → RestBelow (named N) (decode N.shape a) c
      unfolding setting_of
      noted_rests = rest_after N b g.surveys (store_of t) g.underway.is_next some_left q x

    pub noting_more : {v : NextStore} → made < budget → (ReadySurvey N a leader r → store_of v ≡ next_in (named N) a)
        → Noting N b₀ t₀ leader budget (made + 1) a r v
    noting_more h next = record {
      began = g.began;
      underway = underway_more N g.underway h some_left x (λ e. next noted_ready);
      surveys = noted_ready;
    }

  pub noting_size : length b ≡ length b₀
  noting_size = underway_size N g.underway g.began.0

  pub noting_recovered : is_some (store_of t) ≡ false → ((recovered made, made) ≡ counted (call_result N (run budget) b₀)) × (b ≡ call_bytes N (run budget) b₀)
  unfolding count_of
  noting_recovered h = (
    ap counted (ready_ran N b₀ t₀ g.began budget (underway_recovered N g.underway h)),
    ready_run_bytes N b₀ t₀ g.began budget (underway_rests N g.underway h),
  )

  pub noting_ends : {r : Result × ℕ} → budget ≤ made → r ≡ counted (run_result made (store_of t)) → (r ≡ counted (call_result N (run budget) b₀)) × (b ≡ call_bytes N (run budget) b₀)
  noting_ends h e = (
    e ∙ ap counted (ready_ran N b₀ t₀ g.began budget (underway_answers N g.underway h)),
    ready_run_bytes N b₀ t₀ g.began budget (underway_ends N g.underway h),
  )
