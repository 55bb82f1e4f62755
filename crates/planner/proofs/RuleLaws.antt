-- The rules of a slot, case by case, and the walk over the leader's slots.
use Prim.Native.Nat.{ℕ, zero, suc, ◌+◌, ◌*◌, ◌<◌, ◌≤◌}
use mathlib.Core.Path.{◌≡◌, refl, sym, ◌∙◌}
use mathlib.Core.Bool.{Bool, true, false, cond}
use mathlib.Core.List.{List}
use native.Mathlib.Omega.{arith}
use native.Mathlib.Decide.{ℕ_discrete}
use lib.Dec.{eqb, ltb}
use lib.ListN.{length, get_or, set, replicate, length-set}
use lib.Seq.{get_or-set_same, get_or-set_other}
use borrow.Author.Tests.{eq-eqb, ne_eqb, lt-ltb, le-ltb, ltb-true, ltb-false}
use Rattle.search.specs.Search.{count, listed}
use Rattle.search.proofs.SearchLaws.{lowest_is, lowest_le}
use Rattle.search.proofs.ListedLaws.{listed_ext}
use Rattle.image.specs.View.{View}
use Rattle.planner.specs.Setting.{Setting}
use Rattle.planner.specs.Rules.{may_truncate, is_faulty, is_truncate, have, dont_have, donor, rule, end, Keep, Fetch, Truncate, Wait}
use Rattle.planner.specs.Plan.{kept_byte, rule_byte}
use Rattle.planner.specs.Survey.{condition_from, survey_setting, survey_views, slot_byte, Walked, marked_byte}
use Rattle.planner.proofs.SurveyLaws.{faulty_number}

-- the end lies within the leader's log
pub end_le : (S : Setting) (W : ℕ → View) → end S W ≤ (W S.leader).length
unfolding end
end_le S W = lowest_le (λ k. is_truncate (rule S W k)) (W S.leader).length

-- ---- one slot

module _ (S : Setting) (W : ℕ → View) (k : ℕ) where
  pub keeps : is_faulty ((W S.leader).condition k) ≡ false → rule S W k ≡ Keep
  unfolding rule
  keeps f = rw f refl

  module _ (f : is_faulty ((W S.leader).condition k) ≡ true) where
    pub fetches : (d : ℕ) → donor S W k ≡ d → d < S.shape.n → rule S W k ≡ Fetch
    unfolding rule
    fetches d e h = rw (f, e, lt-ltb d S.shape.n h) refl

    pub no_donor : donor S W k ≡ S.shape.n → rule S W k ≡ cond (may_truncate S.shape.n (count (dont_have S W k) S.shape.n)) Truncate Wait
    unfolding rule
    no_donor e = rw (f, e, le-ltb S.shape.n S.shape.n (omega arith)) refl

pub donor_is : (S : Setting) (W : ℕ → View) (k d : ℕ) → d ≤ S.shape.n → ((c : ℕ) → c < d → have S W k c ≡ false) → (d < S.shape.n → have S W k d ≡ true) → donor S W k ≡ d
unfolding donor
donor_is S W k d = lowest_is (have S W k) S.shape.n d

-- ---- the walk

pub walked_none : (S : Setting) (W : ℕ → View) (bytes : List ℕ) → length bytes ≡ 64 → ((j : ℕ) → get_or bytes j 0 ≡ 0) → Walked S W bytes 0
walked_none S W bytes n z = record { sized = n; standing = λ j l. absurd (omega arith); passed = λ j l. absurd (omega arith); ahead = λ j l. z j }

pub walked_more : (S : Setting) (W : ℕ → View) {bytes : List ℕ} {x : ℕ} (k : ℕ) → Walked S W bytes k → k < 64 → is_truncate (rule S W k) ≡ false → x ≡ slot_byte S W k → Walked S W (set bytes k x) (k + 1)
walked_more S W {bytes} {x} k w h t e = record {
  sized = length-set bytes k x ∙ w.sized;
  standing = λ j l. stand j (ℕ_discrete j k) l;
  passed = λ j l. byte j (ℕ_discrete j k) l;
  ahead = λ j l. get_or-set_other bytes k j x 0 (λ q. omega arith) ∙ w.ahead j (omega arith);
}
  where
    stand : (j : ℕ) → Dec (j ≡ k) → j < k + 1 → is_truncate (rule S W j) ≡ false
    stand j (yes q) l = rw q t
    stand j (no q) l = w.standing j (omega arith)

    byte : (j : ℕ) → Dec (j ≡ k) → j < k + 1 → get_or (set bytes k x) j 0 ≡ slot_byte S W j
    byte j (yes q) l = rw q (get_or-set_same bytes k x 0 (omega (arith, w.sized)) ∙ e)
    byte j (no q) l = get_or-set_other bytes k j x 0 q ∙ w.passed j (omega arith)

-- the walk ends at the lowest truncated slot, or behind the log
pub walked_end : (S : Setting) (W : ℕ → View) {bytes : List ℕ} (k : ℕ) → Walked S W bytes k → k ≤ (W S.leader).length → (k < (W S.leader).length → is_truncate (rule S W k) ≡ true) → k ≡ end S W
unfolding end
walked_end S W k w h t = sym (lowest_is (λ j. is_truncate (rule S W j)) (W S.leader).length k h w.standing t)

-- ---- a slot's byte, over a survey's numbers

module _ (n leader l readable : ℕ) (conditions epochs : List ℕ) (k : ℕ) where
  abbrev S : Setting
  S = survey_setting n leader

  abbrev W : ℕ → View
  W = survey_views l readable conditions epochs

  pub kept_slot : {x : ℕ} → (get_or conditions (leader * 64 + k) 0 ≡ 3 → ⊥) → x ≡ kept_byte (condition_from (get_or conditions (leader * 64 + k) 0))
      → (is_truncate (rule S W k) ≡ false) × (x ≡ slot_byte S W k)
  unfolding survey_setting survey_views slot_byte rule_byte is_truncate
  kept_slot f e =
      let r = keeps S W k (faulty_number (get_or conditions (leader * 64 + k) 0) ∙ ne_eqb _ _ f) in
      (rw r refl, rw r e)

  module _ (f : get_or conditions (leader * 64 + k) 0 ≡ 3) where
    faulty_is : is_faulty (condition_from (get_or conditions (leader * 64 + k) 0)) ≡ true
    faulty_is = faulty_number (get_or conditions (leader * 64 + k) 0) ∙ eq-eqb _ _ f

    pub fetched_slot : {x : ℕ} (c : ℕ) → c < n → (have S W k c ≡ true) × ((j : ℕ) → j < c → have S W k j ≡ false) → x ≡ 11 + c
        → (is_truncate (rule S W k) ≡ false) × (x ≡ slot_byte S W k)
    unfolding survey_setting survey_views slot_byte rule_byte is_truncate
    fetched_slot c b h e =
        let z : donor S W k ≡ c = donor_is S W k c (omega arith) h.1 (λ _. h.0) in
        let r = fetches S W k faulty_is c z b in
        (rw r refl, rw (r, z) (omega arith))

    module _ (none : (j : ℕ) → j < n → have S W k j ≡ false) where
      alone : rule S W k ≡ cond (may_truncate n (count (dont_have S W k) n)) Truncate Wait
      unfolding survey_setting survey_views
      alone = no_donor S W k faulty_is (donor_is S W k n (omega arith) none (λ b. absurd (omega arith)))

      pub waiting_slot : {x : ℕ} → may_truncate n (count (dont_have S W k) n) ≡ false → x ≡ 3 → (is_truncate (rule S W k) ≡ false) × (x ≡ slot_byte S W k)
      unfolding slot_byte rule_byte is_truncate
      waiting_slot t e =
          let r = alone in
          (rw (r, t) refl, rw (r, t) e)

      pub truncated_slot : may_truncate n (count (dont_have S W k) n) ≡ true → is_truncate (rule S W k) ≡ true
      unfolding is_truncate
      truncated_slot t =
          let r = alone in
          rw (r, t) refl

pub zero_at : (n j : ℕ) → ◌≡◌ {A = ℕ} (get_or (replicate n 0) j 0) 0
zero_at zero j = refl
zero_at (suc n) zero = refl
zero_at (suc n) (suc j) = zero_at n j

-- ---- bytes of conditions

pub kept_low : (x : ℕ) → x < 3 → x ≡ kept_byte (condition_from x)
unfolding kept_byte condition_from
kept_low zero h = refl
kept_low (suc zero) h = refl
kept_low (suc (suc zero)) h = refl
kept_low (suc (suc (suc x))) h = absurd (omega arith)

pub kept_high : (x : ℕ) → 3 ≤ x → 0 ≡ kept_byte (condition_from x)
unfolding kept_byte condition_from
kept_high zero h = absurd (omega arith)
kept_high (suc zero) h = absurd (omega arith)
kept_high (suc (suc zero)) h = absurd (omega arith)
kept_high (suc (suc (suc zero))) h = refl
kept_high (suc (suc (suc (suc zero)))) h = refl
kept_high (suc (suc (suc (suc (suc x))))) h = refl

-- ---- marked from the end on

-- of the bytes from e to l, those below k are marked
pub record Marked (bytes marked : List ℕ) (e l k : ℕ) : Type 0 where
  pub sized : length marked ≡ 64
  pub low : (j : ℕ) → j < k → get_or marked j 0 ≡ marked_byte bytes e l j
  pub high : (j : ℕ) → k ≤ j → get_or marked j 0 ≡ get_or bytes j 0

pub marked_none : (bytes : List ℕ) (e l : ℕ) → length bytes ≡ 64 → Marked bytes bytes e l e
unfolding marked_byte
marked_none bytes e l n = record { sized = n; low = λ j h. rw (lt-ltb j e h) refl; high = λ j h. refl }

pub marked_more : {bytes marked : List ℕ} {x : ℕ} (e l k : ℕ) → Marked bytes marked e l k → e ≤ k → k < l → l ≤ 64 → x ≡ cond (eqb k e) 4 5 → Marked bytes (set marked k x) e l (k + 1)
unfolding marked_byte
marked_more {bytes} {marked} {x} e l k m h g f q = record {
  sized = length-set marked k x ∙ m.sized;
  low = λ j b. go j b (ℕ_discrete j k);
  high = λ j b. get_or-set_other marked k j x 0 (λ z. omega arith) ∙ m.high j (omega arith);
}
  where
    go : (j : ℕ) → j < k + 1 → Dec (j ≡ k) → get_or (set marked k x) j 0 ≡ marked_byte bytes e l j
    go j b (yes z) = rw z (get_or-set_same marked k x 0 (omega (arith, m.sized)) ∙ q ∙ rw (le-ltb k e h, lt-ltb k l g) refl)
    go j b (no z) = get_or-set_other marked k j x 0 z ∙ m.low j (omega arith)

pub marked_all : {bytes marked : List ℕ} (e l k : ℕ) → Marked bytes marked e l k → e ≤ l → k ≤ l → l ≤ k → marked ≡ listed 64 (marked_byte bytes e l)
unfolding marked_byte
marked_all {bytes} {marked} e l k m h g f = listed_ext 64 (marked_byte bytes e l) 0 marked m.sized (λ j x. go j (ltb j l) refl)
  where
    go : (j : ℕ) (t : Bool) → ltb j l ≡ t → get_or marked j 0 ≡ marked_byte bytes e l j
    go j true q = m.low j (omega (arith, ltb-true j l q))
    go j false q = let b = ltb-false j l q in m.high j (omega arith) ∙ rw (le-ltb j e (omega arith), q) refl
