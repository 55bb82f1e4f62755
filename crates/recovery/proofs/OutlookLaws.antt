-- What stands of a recovery, as the code comes to it.
use Prim.Native.Nat.{ℕ, suc, pred, ◌≤◌, ◌<◌}
use mathlib.Core.Path.{◌≡◌, refl, sym, ap, ◌∙◌}
use mathlib.Core.Bool.{true}
use mathlib.Core.List.{List}
use native.Mathlib.Omega.{arith}
use lib.ListN.{length, get_or}
use borrow.Author.Tests.{lt-ltb, le-ltb}
use Rattle.slices.specs.Parts.{Bytes}
use Rattle.image.specs.Cluster.{decode}
use Rattle.planner.specs.Setting.{setting_of}
use Rattle.planner.specs.Rules.{Waiting, Ready, answer, end, first_waiting, may_lead, same_firsts}
use Rattle.planner.specs.Plan.{views_in}
use Rattle.planner.specs.Survey.{SurveyIs, Planned}
use Rattle.planner.specs.declared.Survey.{Survey}
use Rattle.protocol.specs.Recovery.{◌or◌, leader_store, followers_store, if_ready, next}
use Rattle.protocol.specs.StepBytes.{next_in}
use Rattle.protocol.specs.Call.{Numbers, named, refusal_in}
use Rattle.recovery.specs.NextStore.{store_of}
use Rattle.recovery.specs.Look.{InRange, Sees}
use Rattle.recovery.specs.OutlookIs.{ReadyIs, OutlookIs}
use Rattle.recovery.specs.declared.NextStore.{NextStore}
use Rattle.recovery.specs.declared.Outlook.TheVariants as outlook
use Rattle.planner.proofs.RuleLaws.{end_le}
use Rattle.protocol.proofs.CallLaws.{accepted}
use Rattle.recovery.proofs.BeginsLaws.{begins_at}

module _ (N : Numbers) (b : Bytes) (e : refusal_in N b ≡ 0) {leader : ℕ} {s : Survey} (v : SurveyIs (named N) (views_in (named N) b) N.shape.n leader s) where
  pub sees : Sees (named N) b N.shape leader s
  unfolding setting_of
  sees = record { shape_is = refl; survey_is = v }

  log_is : (c : ℕ) → c < N.shape.n → (views_in (named N) b c).readable ≡ true → get_or s.lengths c 0 ≤ N.shape.m
  unfolding setting_of
  log_is c h r = omega (arith, v.surveyed.length_is c h r, v.logs_fit c)

  pub in_range : InRange N.shape leader s (length b)
  unfolding setting_of
  in_range = record {
    few = v.few;
    slots_fit = v.slots_fit;
    leader_below = v.leader_below;
    leader_card = v.leader_card;
    size_is = (accepted N b e).size;
    leader_fits = log_is leader v.leader_below v.leader_reads;
    log_fits = λ c h r. log_is c h (sym (v.surveyed.readable_is c h) ∙ r);
  }

  module _ {bytes : List ℕ} {final waiting : ℕ} (p : Planned (named N) (views_in (named N) b) bytes final waiting) where
    pub end_fits : final ≤ 64
    unfolding setting_of
    end_fits =
        let a = p.end_is in
        let d = end_le (named N) (views_in (named N) b) in
        let l = v.logs_fit (named N).leader in
        let k = v.slots_fit in
        omega arith

    leads : may_lead (named N) (views_in (named N) b) ≡ true
    leads = (accepted N b e).leads

    begins : same_firsts (named N) (views_in (named N) b) ≡ true
    begins = (accepted N b e).firsts

    -- the slot by its number
    pub waits : {slot : ℕ} → waiting < final → slot ≡ suc waiting → OutlookIs N b (outlook.Waiting slot)
    unfolding answer
    waits {slot} h i =
        let a = p.end_is in
        let w = p.waiting_is in
        let q : pred slot ≡ waiting = omega arith in
        (e, omega arith, rw (q, leads, begins, lt-ltb (first_waiting (named N) (views_in (named N) b)) (end (named N) (views_in (named N) b)) (omega arith)) (ap Waiting (sym w)))

    is_ready : final ≤ waiting → answer (named N) (views_in (named N) b) ≡ Ready (end (named N) (views_in (named N) b))
    unfolding answer
    is_ready h =
        let a = p.end_is in
        let w = p.waiting_is in
        rw (leads, begins, le-ltb (first_waiting (named N) (views_in (named N) b)) (end (named N) (views_in (named N) b)) (omega arith))

    pub readies : final ≤ waiting → (t : NextStore)
        → store_of t ≡ (leader_store (named N) (views_in (named N) b) or followers_store (named N) (decode (named N).shape b)) → ReadyIs N b t
    unfolding next_in next if_ready views_in
    readies h t x = let r = is_ready h in (e, r, x ∙ rw r)

    -- and with the leader's first index it is all that stands
    pub stands_ready : final ≤ waiting → (t : NextStore)
        → store_of t ≡ (leader_store (named N) (views_in (named N) b) or followers_store (named N) (decode (named N).shape b))
        → {first : ℕ} → first ≡ get_or s.firsts leader 0 → OutlookIs N b (outlook.Ready t first)
    stands_ready h t x q = let r = readies h t x in (r, begins_at N b e v t r.2 q)
