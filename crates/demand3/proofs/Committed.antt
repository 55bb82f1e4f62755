-- Part B on what the bytes mean: of a payload that stood committed on a majority, all that recovery can reach keeps it.
use Prim.Native.Nat.{ℕ, ◌+◌, ◌<◌}
use mathlib.Core.Path.{◌≡◌, sym, ap, ◌∙◌}
use mathlib.Core.Bool.{Bool, true, false}
use mathlib.Core.Option.{none}
use native.Mathlib.Omega.{arith}
use native.Mathlib.Decide.{ℕ_discrete}
use Rattle.slices.specs.Parts.{Bytes}
use Rattle.record.specs.Meaning.{good, intact}
use Rattle.image.specs.Image.{Image}
use Rattle.image.specs.Cluster.{Cluster}
use Rattle.planner.specs.Setting.{Setting, witness, views_of}
use Rattle.planner.specs.Rules.{may_lead, same_firsts, is_faulty, have, rule, is_wait, answer, Waiting, Ready, first_waiting, end}
use Rattle.protocol.specs.Recovery.{next}
use Rattle.demand3.specs.Supposed.{History, held, Supposed}
use Rattle.planner.proofs.CallLaws.{lead_reads, lead_card}
use Rattle.protocol.proofs.PlanLaws.{ready_intro}
use Rattle.protocol.proofs.Reach.{Reach}
use Rattle.protocol.proofs.Always.{always}
use Rattle.protocol.proofs.Quorum.{untruncated, end_above}
use Rattle.protocol.proofs.HoldingLaws.{Holding}
use Rattle.protocol.proofs.Invariant.{Inv, inv_quorum, reach_inv}
use Rattle.demand3.proofs.Base.{payload_at, epoch_below, base_inv, many, payload_is, Ground}
use Rattle.protocol.proofs.AtRest.{at_rest_facts, rest_whole}
use Rattle.protocol.proofs.RuleLaws.{fetches, waits, stops, unstuck}

-- the slot is whole with this epoch and payload
pub record WholeWith (i : Image) (k e : ℕ) (p : Bytes) : Type 0 where
  pub rec : i.records k ≡ good e
  pub ent : i.entries k ≡ intact e p

-- on a card; on a witness it is used under this epoch
pub record StandsIn (S : Setting) (F : Cluster) (c k e : ℕ) (p : Bytes) : Type 0 where
  pub ok : (views_of S F c).readable ≡ true
  pub used : Holding k e (views_of S F c)
  pub whole : witness S c ≡ false → WholeWith (F c) k e p

module _ (S : Setting) (F₀ : Cluster) (H : ℕ → History) (I e : ℕ) (p : Bytes) (K : ℕ) (n : S.leader < S.shape.n) (g : Ground S F₀ H I e p K) where
  abbrev L : ℕ
  L = (views_of S F₀ S.leader).first

  abbrev s : Supposed S g.under H I e p
  s = g.supposed

  Holds : Cluster → Type 0
  Holds F = Inv S (payload_at S H L) (epoch_below S H L) (λ c. held I e (H c)) K e F₀ F

  holds : {F : Cluster} → Reach S F₀ F → Holds F
  unfolding Holds
  holds r = reach_inv S (payload_at S H L) (epoch_below S H L) (λ c. held I e (H c)) K e F₀ n (many S F₀ g.under H I e p s g.link) s.leader_held (base_inv S F₀ H I e p K g) r

  module _ {F : Cluster} (r : Reach S F₀ F) where
    readable : (c : ℕ) → (views_of S F₀ c).readable ≡ true → (views_of S F c).readable ≡ true
    readable c ok = (always S F₀ n r).readables c ∙ ok

    -- the slot of the index, on every readable replica
    pub kept_first : (c : ℕ) → c < S.shape.n → (views_of S F₀ c).readable ≡ true → (views_of S F c).first + K ≡ I
    kept_first c cn ok = omega (arith, (always S F₀ n r).firsts c, g.firsts c cn ok, g.slot)

    pub kept_used : (c : ℕ) → c < S.shape.n → (views_of S F₀ c).readable ≡ true → held I e (H c) ≡ true → Holding K e (views_of S F c)
    unfolding Holds
    kept_used c cn ok h = ((holds r).holders c cn h (readable c ok)).used

    pub kept_entry : (c : ℕ) (q : Bytes) → c < S.shape.n → (views_of S F₀ c).readable ≡ true → held I e (H c) ≡ true → (F₀ c).entries K ≡ intact e q → (F c).entries K ≡ intact e q
    unfolding Holds
    kept_entry c q cn ok h x = ((holds r).holders c cn h (readable c ok)).entry q x

    pub used_payload_lem : (c : ℕ) (q : Bytes) → c < S.shape.n → witness S c ≡ false → (views_of S F₀ c).readable ≡ true → Holding K e (views_of S F c) → (F c).entries K ≡ intact e q → q ≡ p
    unfolding Holds
    used_payload_lem c q cn card ok u x =
        (holds r).consistent.payloads c K q cn card (readable c ok) u.within (x ∙ ap (λ (t : ℕ). intact t q) (sym u.epoch))
        ∙ ap (payload_at S H L K) u.epoch
        ∙ payload_is S F₀ H I e p K g

    -- the plan is ready and nothing is outstanding
    pub stands : (l : ℕ) → answer S (views_of S F₀) ≡ Ready l → next S F ≡ none → (c : ℕ) → c < S.shape.n → (views_of S F₀ c).readable ≡ true → StandsIn S F c K e p
    unfolding Holds
    stands l a z c cn ok =
        let f = at_rest_facts S F l ((always S F₀ n r).answers ∙ a) z in
        let t = ((holds r).holders S.leader n s.leader_held f.plan.leader).used in
        let v = rest_whole S F f c K cn (readable c ok) t.within in
        let u : Holding K e (views_of S F c) = record { within = v.within; epoch = v.epochs ∙ t.epoch } in
        record {
          ok = readable c ok;
          used = u;
          whole = λ card.
              let w = v.slot card in
              let y : (F c).entries K ≡ intact e w.payload = w.ent ∙ ap (λ (v : ℕ). intact v w.payload) t.epoch in
              record { rec = w.rec ∙ ap good t.epoch; ent = y ∙ ap (intact e) (used_payload_lem c w.payload cn card ok u y) };
        }

  -- ---- the leader's entry is faulty
  pub ready_first : may_lead S (views_of S F₀) ≡ true → same_firsts S (views_of S F₀) ≡ true → (c : ℕ) → c < S.shape.n → have S (views_of S F₀) K c ≡ true → is_faulty ((views_of S F₀ S.leader).condition K) ≡ true
      → ((j : ℕ) → j < end S (views_of S F₀) → (j ≡ K → ⊥) → is_wait (rule S (views_of S F₀) j) ≡ false) → answer S (views_of S F₀) ≡ Ready (end S (views_of S F₀))
  ready_first ok one c cn h f others =
      ready_intro S (views_of S F₀) (record { leader = lead_reads S (views_of S F₀) ok; card = lead_card S (views_of S F₀) ok; firsts = one; unstuck = λ k b. unstuck S (views_of S F₀) K (fetches S (views_of S F₀) K c cn h f) others k b (ℕ_discrete k K) })

  pub waits_first : may_lead S (views_of S F₀) ≡ true → same_firsts S (views_of S F₀) ≡ true → is_faulty ((views_of S F₀ S.leader).condition K) ≡ true
      → ((c : ℕ) → c < S.shape.n → have S (views_of S F₀) K c ≡ false) → answer S (views_of S F₀) ≡ Waiting (first_waiting S (views_of S F₀))
  unfolding Holds
  waits_first ok one f none_has =
      let i = base_inv S F₀ H I e p K g in
      let reads = lead_reads S (views_of S F₀) ok in
      let t = (i.holders S.leader n s.leader_held reads).used in
      let hold : ℕ → Bool = λ c. held I e (H c) in
      let quorum = inv_quorum S (payload_at S H L) (epoch_below S H L) hold K e F₀ n (many S F₀ g.under H I e p s g.link) s.leader_held F₀ i reads in
      stops S (views_of S F₀) K ok one
      (end_above S (views_of S F₀) hold K t.within quorum)
      (waits S (views_of S F₀) K none_has f (untruncated S (views_of S F₀) hold K (quorum K (omega arith))))
