-- What is known of the slots of replicas that answer, of the leader, and of a donor.
use mathlib.Core.Path.{◌≡◌, refl, sym, ap, ◌∙◌}
use mathlib.Core.Bool.{Bool, true, false, cond, not, ◌&&◌, true≢false}
use Prim.Native.Nat.{ℕ, suc, ◌≤◌, ◌<◌}
use native.Mathlib.Omega.{arith}
use lib.Dec.{eqb, ltb}
use borrow.Author.Tests.{eq-eqb, eqb-true, eqb-false, not-false, not-true, ltb-true}
use Rattle.search.specs.Search.{count}
use Rattle.search.proofs.SearchLaws.{below_lowest, lowest_passes}
use Rattle.slices.specs.Same.{same}
use Rattle.slices.proofs.SameLaws.{and_left, and_right, same_true, same_refl}
use Rattle.record.specs.Meaning.{Record, good, blank, bad, Entry, intact, broken}
use Rattle.image.specs.Cluster.{Cluster}
use Rattle.image.specs.View.{View, condition, is_blank, is_lost, condition_at, epoch_at, view_of, condition_as, seen_as}
use Rattle.image.specs.declared.condition.Condition.TheVariants.{Whole, Faulty}
use Rattle.image.specs.Read.{is_whole}
use Rattle.image.proofs.AddedLaws.{whole_beside}
use Rattle.image.proofs.ViewLaws.{readable_sound, length_le, used_below}
use Rattle.planner.specs.Setting.{Setting, witness, views_of}
use Rattle.planner.specs.Rules.{is_faulty, is_record_lost, is_used, answers, agrees, have, Keep, Fetch, Truncate, Wait, rule, donor, may_truncate, dont_have}
use Rattle.protocol.specs.Store.{same_entry}
use Rattle.protocol.specs.Recovery.{differs, first_differing, unlike}
use Rattle.protocol.proofs.Effects.{IntactAt, whole_intact, is_complete, card_same, whole_card}
use Rattle.protocol.proofs.ReadyPlan.{ReadyPlan}
use Rattle.protocol.proofs.LeaderDue.{LeaderDone}

-- ---- the test of two entries
pub same_entry_lem : (x y : Entry) → same_entry x y ≡ true → x ≡ y
unfolding same_entry
same_entry_lem (intact e p) (intact f q) h =
    let a : e ≡ f = eqb-true e f (and_left (eqb e f) (same p q) h) in
    let b : p ≡ q = same_true p q (and_right (eqb e f) (same p q) h) in
    cc
same_entry_lem (intact e p) (broken b) h = absurd (true≢false (sym h))
same_entry_lem (broken a) (intact f q) h = absurd (true≢false (sym h))
same_entry_lem (broken a) (broken b) h = ap broken (same_true a b h)

pub entry_refl : (x : Entry) → same_entry x x ≡ true
unfolding same_entry
entry_refl (intact e p) = rw (eq-eqb e e refl) (same_refl p)
entry_refl (broken b) = same_refl b

-- ---- who answers is readable and not the leader
pub answers_readable : (S : Setting) (W : ℕ → View) (c : ℕ) → answers S W c ≡ true → (W c).readable ≡ true
unfolding answers
answers_readable S W c e = and_right (not (eqb c S.leader)) (W c).readable e

pub answers_other : (S : Setting) (W : ℕ → View) (c : ℕ) → answers S W c ≡ true → c ≡ S.leader → ⊥
unfolding answers
answers_other S W c e = eqb-false c S.leader (not-true (eqb c S.leader) (and_left (not (eqb c S.leader)) (W c).readable e))

-- below d a follower's epochs are the leader's, and within its length
pub record Kept (S : Setting) (W : ℕ → View) (c k : ℕ) : Type 0 where
  pub within : k < (W S.leader).length
  pub epochs : (W c).epoch k ≡ (W S.leader).epoch k

pub below_differing : (S : Setting) (W : ℕ → View) (c k : ℕ) → k < first_differing S W c → Kept S W c k
unfolding first_differing differs
below_differing S W c k h =
    let z = not-false (ltb k (W S.leader).length && eqb ((W c).epoch k) ((W S.leader).epoch k)) (below_lowest (differs S W c) (W c).length k h) in
    record {
      within = ltb-true k (W S.leader).length (and_left (ltb k (W S.leader).length) (eqb ((W c).epoch k) ((W S.leader).epoch k)) z);
      epochs = eqb-true ((W c).epoch k) ((W S.leader).epoch k) (and_right (ltb k (W S.leader).length) (eqb ((W c).epoch k) ((W S.leader).epoch k)) z);
    }

-- a slot in the log that is neither faulty nor without its record is whole
pub slot_whole : (S : Setting) (F : Cluster) (c k : ℕ) → witness S c ≡ false → (views_of S F c).readable ≡ true → k < (views_of S F c).length → is_faulty ((views_of S F c).condition k) ≡ false → is_record_lost ((views_of S F c).condition k) ≡ false
    → (views_of S F c).condition k ≡ Whole
unfolding views_of seen_as view_of condition_as condition_at condition is_blank is_lost is_faulty is_record_lost
slot_whole S F c k card ok h t u =
    rw card (go ((F c).records k) ((F c).entries k) (used_below S.shape.m (F c) k h) ((readable_sound (S.present c) S.shape.m (F c) ok).kept k (omega (arith, length_le S.shape.m (F c)))) (rw card at t) (rw card at u))
  where
    go : (r : Record) (x : Entry) → is_blank r ≡ false → is_lost (condition r x) ≡ false → is_faulty (condition r x) ≡ false → is_record_lost (condition r x) ≡ false → condition r x ≡ Whole
    go (good e) (intact f p) a b t u = at (eqb e f) t
      where
        at : (v : Bool) → is_faulty (cond v Whole Faulty) ≡ false → cond v Whole Faulty ≡ Whole
        at true t = refl
        at false t = absurd (true≢false t)
    go (good e) (broken y) a b t u = absurd (true≢false t)
    go blank x a b t u = absurd (true≢false a)
    go (bad z) (intact f p) a b t u = absurd (true≢false u)
    go (bad z) (broken y) a b t u = absurd (true≢false b)

-- a leader with no store left is whole
pub leader_whole : (S : Setting) (F : Cluster) → witness S S.leader ≡ false → (views_of S F S.leader).readable ≡ true → LeaderDone S (views_of S F) → (k : ℕ) → k < (views_of S F S.leader).length
    → (views_of S F S.leader).condition k ≡ Whole
leader_whole S F card ok d k h = slot_whole S F S.leader k card ok h (d.unfaulty k h) (d.unlost k h)

pub leader_entry : (S : Setting) (F : Cluster) → witness S S.leader ≡ false → (views_of S F S.leader).readable ≡ true → LeaderDone S (views_of S F) → (k : ℕ) → k < (views_of S F S.leader).length
    → IntactAt ((views_of S F S.leader).epoch k) ((F S.leader).entries k)
unfolding views_of seen_as view_of condition_at epoch_at is_whole
leader_entry S F card ok d k h = whole_intact ((F S.leader).records k) ((F S.leader).entries k) (ap is_whole (sym (card_same (witness S S.leader) (condition_at (F S.leader) k) card) ∙ leader_whole S F card ok d k h))

-- ---- a donor has the entry intact with the leader's epoch
pub record Donated (S : Setting) (W : ℕ → View) (k : ℕ) : Type 0 where
  pub below : donor S W k < S.shape.n
  pub asked : answers S W (donor S W k) ≡ true
  pub whole : is_whole ((W (donor S W k)).condition k) ≡ true
  pub epochs : (W (donor S W k)).epoch k ≡ (W S.leader).epoch k
  pub faulty : is_faulty ((W S.leader).condition k) ≡ true

pub fetch_facts : (S : Setting) (W : ℕ → View) (k : ℕ) → rule S W k ≡ Fetch → Donated S W k
unfolding rule donor have agrees
fetch_facts S W k e =
    go (is_faulty ((W S.leader).condition k)) (ltb (donor S W k) S.shape.n) (may_truncate S.shape.n (count (dont_have S W k) S.shape.n)) refl refl e
  where
    d : ℕ
    d = donor S W k

    go : (a b t : Bool) → is_faulty ((W S.leader).condition k) ≡ a → ltb d S.shape.n ≡ b → cond a (cond b Fetch (cond t Truncate Wait)) Keep ≡ Fetch → Donated S W k
    go true true t p q e =
        let h : d < S.shape.n = ltb-true d S.shape.n q in
        let z = lowest_passes (have S W k) S.shape.n h in
        let z₁ = and_left (answers S W d) (is_whole ((W d).condition k)) (and_left (answers S W d && is_whole ((W d).condition k)) (agrees S W d k) z) in
        let z₂ = and_right (answers S W d) (is_whole ((W d).condition k)) (and_left (answers S W d && is_whole ((W d).condition k)) (agrees S W d k) z) in
        let z₃ = and_right (answers S W d && is_whole ((W d).condition k)) (agrees S W d k) z in
        record { below = h; asked = z₁; whole = z₂; epochs = eqb-true ((W d).epoch k) ((W S.leader).epoch k) (and_right (is_used ((W d).condition k)) (eqb ((W d).epoch k) ((W S.leader).epoch k)) z₃); faulty = p }
    go true false true p q e = absurd (let z : ◌≡◌ {A = ℕ} 0 1 = cc in omega arith)
    go true false false p q e = absurd (let z : ◌≡◌ {A = ℕ} 0 1 = cc in omega arith)
    go false b t p q e = absurd (let z : ◌≡◌ {A = ℕ} 0 1 = cc in omega arith)

pub donor_entry : (S : Setting) (F : Cluster) (k : ℕ) → Donated S (views_of S F) k
    → IntactAt ((views_of S F S.leader).epoch k) ((F (donor S (views_of S F) k)).entries k)
unfolding views_of seen_as view_of condition_at epoch_at
donor_entry S F k d =
    let c = donor S (views_of S F) k in
    let a = whole_card (witness S c) (condition_at (F c) k) d.whole in
    let y = whole_intact ((F c).records k) ((F c).entries k) (ap is_whole (sym a.same) ∙ d.whole) in
    record { payload = y.payload; is = y.is ∙ ap (λ (e : ℕ). intact e y.payload) d.epochs }

-- the entry of the first missing slot of a card is the leader's already
pub like_entry : (S : Setting) (F : Cluster) (c : ℕ) → witness S c ≡ false → unlike S F c ≡ false → (F c).entries (views_of S F c).length ≡ (F S.leader).entries (views_of S F c).length
unfolding unlike
like_entry S F c card e = same_entry_lem ((F c).entries (views_of S F c).length) ((F S.leader).entries (views_of S F c).length) (not-false (same_entry ((F c).entries (views_of S F c).length) ((F S.leader).entries (views_of S F c).length)) (rw card at e))

-- only a card gets an entry
pub unlike_card : (S : Setting) (F : Cluster) (c : ℕ) → unlike S F c ≡ true → witness S c ≡ false
unfolding unlike
unlike_card S F c e = go (witness S c) refl
  where
    go : (w : Bool) → witness S c ≡ w → witness S c ≡ false
    go true h = h ∙ sym (rw h at e)
    go false h = h

pub leader_fits : (S : Setting) (F : Cluster) (c : ℕ) → (views_of S F c).length ≤ S.shape.m
unfolding views_of seen_as view_of
leader_fits S F c = length_le S.shape.m (F c)

pub leader_rises : (S : Setting) (F : Cluster) → (views_of S F S.leader).readable ≡ true → (j : ℕ) → suc j < (views_of S F S.leader).length
    → (views_of S F S.leader).epoch j ≤ (views_of S F S.leader).epoch (suc j)
unfolding views_of seen_as view_of
leader_rises S F ok j h = (readable_sound (S.present S.leader) S.shape.m (F S.leader) ok).rise j h

-- a missing slot's epoch is not below the last one's
pub append_up : (S : Setting) (F : Cluster) (c : ℕ) → ReadyPlan S (views_of S F) → LeaderDone S (views_of S F) → first_differing S (views_of S F) c ≡ (views_of S F c).length
    → (views_of S F c).length < (views_of S F S.leader).length → (j : ℕ) → suc j ≡ (views_of S F c).length → (views_of S F c).epoch j ≤ (views_of S F S.leader).epoch (views_of S F c).length
append_up S F c r ld full h j q =
    let a = leader_rises S F r.leader j (omega (arith, h)) in
    let b : (views_of S F S.leader).epoch (suc j) ≡ (views_of S F S.leader).epoch (views_of S F c).length = ap (λ (t : ℕ). (views_of S F S.leader).epoch t) q in
    omega (arith, a, b, (below_differing S (views_of S F) c j (omega (arith, full))).epochs)

-- a witness's good record
good_only : (e : ℕ) (x : Entry) → is_complete (condition_as true (condition (good e) x)) ≡ true
unfolding is_complete condition_as condition
good_only e (intact f p) = go (eqb e f)
  where
    go : (t : Bool) → is_complete (condition_as true (cond t Whole Faulty)) ≡ true
    go true = refl
    go false = refl
good_only e (broken b) = refl

-- a record beside the leader's entry, and a witness's record, leave nothing to do
pub append_complete : (S : Setting) (F : Cluster) (c : ℕ) → ReadyPlan S (views_of S F) → LeaderDone S (views_of S F) → (views_of S F c).length < (views_of S F S.leader).length → unlike S F c ≡ false
    → is_complete (condition_as (witness S c) (condition (good ((views_of S F S.leader).epoch (views_of S F c).length)) ((F c).entries (views_of S F c).length))) ≡ true
unfolding is_complete condition_as
append_complete S F c r ld h e = go (witness S c) refl
  where
    l : ℕ
    l = (views_of S F c).length

    v : ℕ
    v = (views_of S F S.leader).epoch l

    go : (w : Bool) → witness S c ≡ w → is_complete (condition_as w (condition (good v) ((F c).entries l))) ≡ true
    go true q = good_only v ((F c).entries l)
    go false q = let y = leader_entry S F r.card r.leader ld l h in rw (like_entry S F c q e, y.is, whole_beside v y.payload) refl
