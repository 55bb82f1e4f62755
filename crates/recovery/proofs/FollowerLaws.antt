-- What a replica has still to get, and the first of the followers' stores, as the code comes to them.
use Prim.Native.Nat.{ℕ, ◌≤◌, ◌<◌}
use mathlib.Core.Path.{◌≡◌, sym, ap, ◌∙◌}
use mathlib.Core.Bool.{Bool, true, false, cond, not}
use mathlib.Core.Option.{Option, none, some}
use native.Mathlib.Omega.{arith}
use lib.Dec.{eqb, ltb}
use lib.ListN.{get_or}
use borrow.Author.Tests.{lt-ltb, le-ltb, eq-eqb, ne_eqb}
use Rattle.search.specs.Search.{lowest}
use Rattle.search.proofs.SearchLaws.{lowest_is}
use Rattle.slices.specs.Parts.{Bytes}
use Rattle.slices.proofs.SameLaws.{and_off}
use Rattle.record.specs.declared.Shape.{Shape}
use Rattle.image.specs.View.{View}
use Rattle.image.specs.Cluster.{Cluster, decode}
use Rattle.image.proofs.ClusterLaws.{image_fits}
use Rattle.search.specs.Sets.{has}
use Rattle.planner.specs.Setting.{Setting}
use Rattle.planner.specs.Rules.{answers}
use Rattle.planner.specs.Plan.{views_in}
use Rattle.planner.specs.Survey.{SurveyIs}
use Rattle.planner.specs.declared.Survey.{Survey}
use Rattle.protocol.specs.Store.{Store}
use Rattle.protocol.specs.Recovery.{◌or◌, follower_store, is_some, first_of, unlike, due, followers_store}
use Rattle.image.specs.Fits.{ImageFits}
use Rattle.recovery.specs.Look.{Looked, InRange}

-- ---- one replica

module _ {S : Setting} {W : ℕ → View} {n leader : ℕ} {s : Survey} (v : SurveyIs S W n leader s) where
  pub looked : {Z : Shape} → S.shape ≡ Z → (c : ℕ) → c < n → (W c).readable ≡ true → Looked Z.m (W c) c (get_or s.lengths c 0) s.conditions s.epochs
  looked ez c h r = rw (← ez) (record {
    length_is = v.surveyed.length_is c h r;
    log_fits = v.logs_fit c;
    condition_is = λ k l. v.surveyed.condition_is c k h l r;
    epoch_is = λ k l. v.surveyed.epoch_is c k h l r;
  })

  -- the leader's
  pub looked_leader : {Z : Shape} → S.shape ≡ Z → Looked Z.m (W leader) leader (get_or s.lengths leader 0) s.conditions s.epochs
  looked_leader ez = looked ez leader v.leader_below v.leader_reads

module _ (S : Setting) (b : Bytes) where
  module _ (c : ℕ) where
    pub due_leader : (leader : ℕ) → S.leader ≡ leader → c ≡ leader → none ≡ due S (decode S.shape b) c
    unfolding due answers
    due_leader leader el e = rw (eq-eqb c S.leader (e ∙ sym el))

    pub due_silent : (views_in S b c).readable ≡ false → none ≡ due S (decode S.shape b) c
    unfolding due answers views_in
    due_silent e = rw (e, and_off (not (eqb c S.leader)))

    pub due_answers : (leader : ℕ) → S.leader ≡ leader → (c ≡ leader → ⊥) → (views_in S b c).readable ≡ true → {o : Option Store}
        → o ≡ follower_store S (views_in S b) (unlike S (decode S.shape b) c) c → o ≡ due S (decode S.shape b) c
    unfolding due answers views_in
    due_answers leader el h r e = rw (ne_eqb c S.leader (λ q. h (q ∙ el)), r) e

-- whether c is readable, by a test of replica d
pub tested : (readable c d : ℕ) {x y : Bool} → x ≡ has readable d → d ≡ c → x ≡ y → has readable c ≡ y
tested readable c d e i h = rw (← i) (sym e ∙ h)

-- ---- the first of them

first_is : (f : ℕ → Option Store) (b c : ℕ) → lowest (λ j. is_some (f j)) b ≡ c → first_of f b ≡ cond (ltb c b) (f c) none
unfolding first_of
first_is f b c q = ap (λ (x : ℕ). cond (ltb x b) (f x) none) q

module _ (S : Setting) (F : Cluster) (n : ℕ) (en : S.shape.n ≡ n) where
  first_of_lem : (c : ℕ) → lowest (λ j. is_some (due S F j)) n ≡ c → followers_store S F ≡ cond (ltb c n) (due S F c) none
  unfolding followers_store
  first_of_lem c q = ap (first_of (due S F)) en ∙ first_is (due S F) n c q

  pub followers_found : (c : ℕ) → c < n → ((j : ℕ) → j < c → is_some (due S F j) ≡ false) → {o : Option Store} → o ≡ due S F c → is_some o ≡ true → o ≡ followers_store S F
  followers_found c h below e t =
      let q = lowest_is (λ j. is_some (due S F j)) n c (omega arith) below (λ l. ap is_some (sym e) ∙ t) in
      e ∙ sym (first_of_lem c q ∙ rw (lt-ltb c n h))

  pub followers_none : (c : ℕ) → n ≤ c → ((j : ℕ) → j < c → is_some (due S F j) ≡ false) → none ≡ followers_store S F
  followers_none c h below =
      let q = lowest_is (λ j. is_some (due S F j)) n n (omega arith) (λ j l. below j (omega arith)) (λ l. absurd (omega arith)) in
      sym (first_of_lem n q ∙ rw (le-ltb n n (omega arith)))

-- ---- the leader's before the followers'

pub or_leader : (o a b : Option Store) → o ≡ a → is_some o ≡ true → o ≡ (a or b)
unfolding ◌or◌ is_some
or_leader none a b e t = absurd (let z : ◌≡◌ {A = ℕ} 0 1 = cc in omega arith)
or_leader (some s) a b e t = rw (← e)

pub or_follower : (o a b p : Option Store) → o ≡ a → is_some o ≡ false → p ≡ b → p ≡ (a or b)
unfolding ◌or◌ is_some
or_follower none a b p e t f = rw (← e) f
or_follower (some s) a b p e t f = absurd (let z : ◌≡◌ {A = ℕ} 0 1 = cc in omega arith)

-- ---- the images lie in the buffer

pub image_within : {Z : Shape} {leader : ℕ} {s : Survey} {size : ℕ} → InRange Z leader s size → (c : ℕ) → c < Z.n → ImageFits Z size c
image_within {Z} v c h = omega (arith, image_fits Z Z.n c h, v.size_is)
