-- What a cluster looks like when its plan is ready and no store is outstanding: every readable present replica is whole in every slot of the leader's log, under its epochs.
use mathlib.Core.Path.{◌≡◌, refl, sym, ◌∙◌}
use mathlib.Core.Bool.{Bool, true, false, cond, true≢false}
use mathlib.Core.Option.{Option, none, some}
use Prim.Native.Nat.{ℕ, ◌≤◌, ◌<◌}
use native.Mathlib.Omega.{arith}
use native.Mathlib.Decide.{ℕ_discrete, dec_lt}
use lib.Dec.{eqb}
use borrow.Author.Tests.{lt-ltb, ne_eqb, eqb-true}
use Rattle.search.specs.Search.{lowest}
use Rattle.search.proofs.SearchLaws.{lowest_le, lowest_passes, below_lowest}
use Rattle.slices.specs.Parts.{Bytes}
use Rattle.record.specs.Meaning.{Record, good, blank, bad, Entry, intact, broken}
use Rattle.image.specs.Cluster.{Cluster}
use Rattle.image.specs.View.{View, condition, epoch_of, condition_at, epoch_at, view_of, seen_as}
use Rattle.image.specs.declared.condition.Condition.TheVariants.{Whole, Faulty}
use Rattle.planner.specs.Setting.{Setting, witness, views_of}
use Rattle.planner.specs.Rules.{is_faulty, is_record_lost, answers, answer, Ready}
use Rattle.protocol.specs.Store.{Store}
use Rattle.protocol.specs.Recovery.{◌or◌, leader_store, differs, first_differing, follower_store, is_some, unlike, due, first_of, followers_store, if_ready, next}
use Rattle.protocol.proofs.ChainLaws.{or_none_l, or_none_r, below_none}
use Rattle.protocol.proofs.ReadyPlan.{ReadyPlan, ready_facts}
use Rattle.protocol.proofs.LeaderDue.{LeaderDone, leader_done}
use Rattle.protocol.proofs.Effects.{card_same}
use Rattle.protocol.proofs.Slots.{slot_whole, leader_whole, below_differing}

-- a whole slot, in bytes
pub record WholeSlot (e : ℕ) (r : Record) (x : Entry) : Type 0 where
  pub payload : Bytes
  pub rec : r ≡ good e
  pub ent : x ≡ intact e payload

pub whole_slot : (r : Record) (x : Entry) → condition r x ≡ Whole → WholeSlot (epoch_of r x) r x
unfolding condition epoch_of
whole_slot (good e) (intact f p) h = go (eqb e f) refl h
  where
    go : (t : Bool) → eqb e f ≡ t → cond t Whole Faulty ≡ Whole → WholeSlot e (good e) (intact f p)
    go true q h = record { payload = p; rec = refl; ent = rw (eqb-true e f q) refl }
    go false q h = absurd (let z : ◌≡◌ {A = ℕ} 0 1 = cc in omega arith)
whole_slot (good e) (broken b) h = absurd (let z : ◌≡◌ {A = ℕ} 0 1 = cc in omega arith)
whole_slot blank x h = absurd (let z : ◌≡◌ {A = ℕ} 0 1 = cc in omega arith)
whole_slot (bad b) (intact f p) h = absurd (let z : ◌≡◌ {A = ℕ} 0 1 = cc in omega arith)
whole_slot (bad b) (broken d) h = absurd (let z : ◌≡◌ {A = ℕ} 0 1 = cc in omega arith)

is_none : (o : Option Store) → is_some o ≡ false → o ≡ none
unfolding is_some
is_none none e = refl
is_none (some s) e = absurd (true≢false e)

first_none : (f : ℕ → Option Store) (b : ℕ) → first_of f b ≡ none → (c : ℕ) → c < b → f c ≡ none
unfolding first_of is_some
first_none f b e c h = go (dec_lt first b)
  where
    first : ℕ
    first = lowest (λ c. is_some (f c)) b

    go : Dec (first < b) → f c ≡ none
    go (yes l) =
        let z = lowest_passes (λ c. is_some (f c)) b l in
        let y : f first ≡ none = rw (lt-ltb first b l) at e in
        absurd (true≢false (sym (rw y at z)))
    go (no l) = is_none (f c) (below_lowest (λ c. is_some (f c)) b c (omega arith))

-- a follower with no store left
pub record FollowerDone (S : Setting) (W : ℕ → View) (c : ℕ) : Type 0 where
  pub untruncated : first_differing S W c ≡ (W c).length
  pub unfaulty : (k : ℕ) → k < (W c).length → is_faulty ((W c).condition k) ≡ false
  pub unlost : (k : ℕ) → k < (W c).length → is_record_lost ((W c).condition k) ≡ false
  pub complete : (W S.leader).length ≤ (W c).length

follower_done : (S : Setting) (W : ℕ → View) (u : Bool) (c : ℕ) → follower_store S W u c ≡ none → FollowerDone S W c
unfolding follower_store first_differing
follower_done S W u c e =
    let len = (W c).length in
    let d = first_differing S W c in
    let fault = lowest (λ k. is_faulty ((W c).condition k)) d in
    let lost = lowest (λ k. is_record_lost ((W c).condition k)) d in
    let unblanked = or_none_r _ _ e in
    let unmended = or_none_r _ _ unblanked in
    let x : d ≤ len = lowest_le (differs S W c) len in
    let a : len ≤ d = below_none d len _ (or_none_l _ _ e) in
    let b : d ≤ fault = below_none fault d _ (or_none_l _ _ unblanked) in
    let g : d ≤ lost = below_none lost d _ (or_none_l _ _ unmended) in
    record {
      untruncated = omega (arith, a, x);
      unfaulty = λ k h. below_lowest (λ k. is_faulty ((W c).condition k)) d k (omega (arith, b, a, x));
      unlost = λ k h. below_lowest (λ k. is_record_lost ((W c).condition k)) d k (omega (arith, g, a, x));
      complete = below_none len (W S.leader).length _ (or_none_r _ _ unmended);
    }

-- the plan is ready and no store is outstanding
pub record AtRest (S : Setting) (F : Cluster) : Type 0 where
  pub plan : ReadyPlan S (views_of S F)
  pub leader : LeaderDone S (views_of S F)
  pub followers : (c : ℕ) → c < S.shape.n → answers S (views_of S F) c ≡ true → FollowerDone S (views_of S F) c

pub at_rest_facts : (S : Setting) (F : Cluster) (l : ℕ) → answer S (views_of S F) ≡ Ready l → next S F ≡ none → AtRest S F
unfolding next if_ready followers_store due
at_rest_facts S F l a e =
    let r = ready_facts S (views_of S F) l a in
    let z : (leader_store S (views_of S F) or followers_store S F) ≡ none = rw a at e in
    let f = or_none_r (leader_store S (views_of S F)) (followers_store S F) z in
    record {
      plan = r;
      leader = leader_done S (views_of S F) r (or_none_l (leader_store S (views_of S F)) (followers_store S F) z);
      followers = λ c cn an. follower_done S (views_of S F) (unlike S F c) c (rw an at (first_none (due S F) S.shape.n f c cn));
    }

-- every readable present replica has every slot of the leader's log used under the leader's epoch; a card has it whole
pub record Copied (S : Setting) (F : Cluster) (c k : ℕ) : Type 0 where
  pub within : k < (views_of S F c).length
  pub epochs : (views_of S F c).epoch k ≡ (views_of S F S.leader).epoch k
  pub slot : witness S c ≡ false → WholeSlot ((views_of S F S.leader).epoch k) ((F c).records k) ((F c).entries k)

pub rest_whole : (S : Setting) (F : Cluster) → AtRest S F → (c k : ℕ) → c < S.shape.n → (views_of S F c).readable ≡ true → k < (views_of S F S.leader).length → Copied S F c k
unfolding views_of seen_as view_of condition_at epoch_at answers
rest_whole S F r c k cn ok h = go (ℕ_discrete c S.leader)
  where
    go : Dec (c ≡ S.leader) → Copied S F c k
    go (yes q) = rw q (record { within = h; epochs = refl; slot = λ card. whole_slot ((F S.leader).records k) ((F S.leader).entries k) (sym (card_same (witness S S.leader) _ card) ∙ leader_whole S F card r.plan.leader r.leader k h) })
    go (no q) =
        let d = r.followers c cn (rw (ne_eqb c S.leader q) ok) in
        let b : k < (views_of S F c).length = omega (arith, d.complete) in
        let y = below_differing S (views_of S F) c k (omega (arith, d.untruncated, b)) in
        record { within = b; epochs = y.epochs; slot = λ card. rw (← y.epochs) (whole_slot ((F c).records k) ((F c).entries k) (sym (card_same (witness S c) _ card) ∙ slot_whole S F c k card ok b (d.unfaulty k b) (d.unlost k b))) }
