-- A survey with one slot changed is the survey of the views with that slot changed.
use Prim.Native.Nat.{ℕ, suc, ◌+◌, ◌*◌, ◌≤◌, ◌<◌}
use mathlib.Core.Path.{◌≡◌, refl, sym, ap, ◌∙◌, subst}
use mathlib.Core.Bool.{Bool, true, false, cond}
use native.Mathlib.Omega.{arith}
use lib.Dec.{ltb}
use lib.ListN.{get_or, set}
use lib.Seq.{get_or-set_same, get_or-set_other}
use borrow.Author.Tests.{lt-ltb, le-ltb}
use Rattle.search.specs.Put.{put}
use Rattle.search.proofs.UpdateLaws.{put_case, put_back}
use Rattle.image.specs.View.{View, condition_as}
use Rattle.image.specs.declared.condition.Condition.{Condition}
use Rattle.image.specs.declared.condition.Condition.TheVariants.{Unused, Whole}
use Rattle.image.specs.View.{condition_number}
use Rattle.record.specs.declared.Shape.{Shape}
use Rattle.record.specs.Layout.{is_witness}
use Rattle.planner.specs.Setting.{Setting, witness}
use Rattle.planner.specs.Survey.{SurveyOf}
use Rattle.planner.specs.declared.Survey.{Survey}
use Rattle.protocol.specs.Store.{store_entry, store_record, store_blank, store_replica, store_slot}
use Rattle.protocol.proofs.ReadyPlan.{firsts_same}
use Rattle.recovery.proofs.WitnessLaws.{is_told}
use Rattle.recovery.specs.Note.{with_slot, seen_after, views_after, SlotSet, Noted}

module _ (S : Setting) (W : ℕ → View) (c k l : ℕ) (a : Condition) (e : ℕ) where
  abbrev U : ℕ → View
  U = put W c (with_slot (W c) k l a e)

  readable_kept : (d : ℕ) → (U d).readable ≡ (W d).readable
  unfolding with_slot
  readable_kept d = put_case (λ (v : View). v.readable ≡ (W d).readable) W c (with_slot (W c) k l a e) d (λ q. rw q) (λ q. refl)

  first_kept : (d : ℕ) → (U d).first ≡ (W d).first
  unfolding with_slot
  first_kept d = put_case (λ (v : View). v.first ≡ (W d).first) W c (with_slot (W c) k l a e) d (λ q. rw q) (λ q. refl)

  module _ (n leader : ℕ) (s r : Survey) (t : SlotSet s r c k l (condition_number a) e) (cn : c < n) (km : k < S.shape.m) (on : (W c).readable ≡ true) (lm : l ≤ S.shape.m)
      (f : SurveyOf S W n leader s.readable s.firsts s.lengths s.conditions s.epochs) where
    length_set : (d : ℕ) → d < n → (U d).readable ≡ true → get_or r.lengths d 0 ≡ (U d).length
    unfolding with_slot
    length_set d h ok =
        rw t.lengths (put_case (λ (v : View). get_or (set s.lengths c l) d 0 ≡ v.length) W c (with_slot (W c) k l a e) d
        (λ q. rw q (get_or-set_same s.lengths c l 0 (omega (arith, t.lengths_sized, f.few))))
        (λ q. get_or-set_other s.lengths c d l 0 q ∙ f.surveyed.length_is d h (sym (readable_kept d) ∙ ok)))

    condition_set : (d j : ℕ) → d < n → j < S.shape.m → (U d).readable ≡ true → get_or r.conditions (d * 64 + j) 0 ≡ condition_number ((U d).condition j)
    unfolding with_slot
    condition_set d j h b ok =
        rw t.conditions (put_case (λ (v : View). get_or (set s.conditions (c * 64 + k) (condition_number a)) (d * 64 + j) 0 ≡ condition_number (v.condition j)) W c (with_slot (W c) k l a e) d
        (λ q. rw q (put_case (λ (x : Condition). get_or (set s.conditions (c * 64 + k) (condition_number a)) (c * 64 + j) 0 ≡ condition_number x) (W c).condition k a j
        (λ p. rw p (get_or-set_same s.conditions (c * 64 + k) (condition_number a) 0 (omega (arith, t.conditions_sized, f.few, f.slots_fit))))
        (λ p. get_or-set_other s.conditions (c * 64 + k) (c * 64 + j) (condition_number a) 0 (λ z. p (omega arith)) ∙ f.surveyed.condition_is c j cn b on)))
        (λ q. get_or-set_other s.conditions (c * 64 + k) (d * 64 + j) (condition_number a) 0 (λ z. q (omega (arith, f.slots_fit))) ∙ f.surveyed.condition_is d j h b (sym (readable_kept d) ∙ ok)))

    epoch_set : (d j : ℕ) → d < n → j < S.shape.m → (U d).readable ≡ true → get_or r.epochs (d * 64 + j) 0 ≡ (U d).epoch j
    unfolding with_slot
    epoch_set d j h b ok =
        rw t.epochs (put_case (λ (v : View). get_or (set s.epochs (c * 64 + k) e) (d * 64 + j) 0 ≡ v.epoch j) W c (with_slot (W c) k l a e) d
        (λ q. rw q (put_case (λ (x : ℕ). get_or (set s.epochs (c * 64 + k) e) (c * 64 + j) 0 ≡ x) (W c).epoch k e j
        (λ p. rw p (get_or-set_same s.epochs (c * 64 + k) e 0 (omega (arith, t.epochs_sized, f.few, f.slots_fit))))
        (λ p. get_or-set_other s.epochs (c * 64 + k) (c * 64 + j) e 0 (λ z. p (omega arith)) ∙ f.surveyed.epoch_is c j cn b on)))
        (λ q. get_or-set_other s.epochs (c * 64 + k) (d * 64 + j) e 0 (λ z. q (omega (arith, f.slots_fit))) ∙ f.surveyed.epoch_is d j h b (sym (readable_kept d) ∙ ok)))

    pub slot_set : SurveyOf S U n leader r.readable r.firsts r.lengths r.conditions r.epochs
    unfolding with_slot
    slot_set = record {
      n_is = f.n_is;
      leader_is = f.leader_is;
      few = f.few;
      leader_below = f.leader_below;
      slots_fit = f.slots_fit;
      leader_reads = readable_kept leader ∙ f.leader_reads;
      leader_card = f.leader_card;
      same_firsts_lem = firsts_same S W U readable_kept first_kept ∙ f.same_firsts_lem;
      logs_fit = λ d. put_case (λ (v : View). v.length ≤ S.shape.m) W c (with_slot (W c) k l a e) d (λ q. lm) (λ q. f.logs_fit d);
      surveyed = record {
        readable_is = λ d h. rw t.readables (f.surveyed.readable_is d h) ∙ sym (readable_kept d);
        first_is = λ d h ok. rw t.firsts (f.surveyed.first_is d h (sym (readable_kept d) ∙ ok)) ∙ sym (first_kept d);
        length_is = length_set;
        condition_is = condition_set;
        epoch_is = epoch_set;
      };
    }

-- ---- what a slot is once its record is stored

pub recorded_witness : (Z : Shape) (c : ℕ) {t : Bool} {number r : ℕ} → t ≡ is_witness Z number → number ≡ suc c → t ≡ true → r ≡ 5
    → r ≡ condition_number (condition_as (is_witness Z (suc c)) Whole)
unfolding condition_as
recorded_witness Z c e n h q = rw (is_told Z c e n h) q

pub recorded_card : (Z : Shape) (c : ℕ) {t : Bool} {number r : ℕ} → t ≡ is_witness Z number → number ≡ suc c → t ≡ false → r ≡ 1
    → r ≡ condition_number (condition_as (is_witness Z (suc c)) Whole)
unfolding condition_as
recorded_card Z c e n h q = rw (is_told Z c e n h) q

-- ---- the three stores

either : {m : ℕ} (t : Bool) (l x y : ℕ) → l ≡ cond t x y → x ≤ m → y ≤ m → l ≤ m
either true l x y e h g = omega arith
either false l x y e h g = omega arith

-- an entry behind the log
pub noted_entry : (Z : Shape) (s : Survey) (c k : ℕ) → get_or s.lengths c 0 ≤ k → (d : ℕ) → Noted Z (store_entry c k d) s s
unfolding views_after seen_after store_replica store_slot
noted_entry Z s c k h d S W n leader z cn km ok f =
    let i = f.surveyed.length_is c cn ok in
    let z : put W c (cond (ltb k (W c).length) (with_slot (W c) k (W c).length Whole ((W c).epoch k)) (W c)) ≡ W = rw (le-ltb k (W c).length (omega arith)) (put_back W c) in
    subst (λ (X : ℕ → View). SurveyOf S X n leader s.readable s.firsts s.lengths s.conditions s.epochs) (sym z) f

module _ (Z : Shape) (s r : Survey) (c k : ℕ) where
  pub noted_blank : {x : ℕ} → SlotSet s r c k k x 0 → x ≡ condition_number Unused → Noted Z (store_blank c k) s r
  unfolding views_after seen_after store_replica store_slot
  noted_blank t z S W n leader sh cn km ok f = slot_set S W c k k Unused 0 n leader s r (rw z at t) cn km ok (omega arith) f

  pub noted_record : {l : ℕ} (e : ℕ) → l ≡ cond (ltb k (get_or s.lengths c 0)) (get_or s.lengths c 0) (suc k) → {x : ℕ} → SlotSet s r c k l x e → x ≡ condition_number (condition_as (is_witness Z (suc c)) Whole) → Noted Z (store_record c k e) s r
  unfolding views_after seen_after store_replica store_slot
  noted_record {l} e q {x} t y S W n leader sh cn km ok f =
      let i = f.surveyed.length_is c cn ok in
      let z : l ≡ cond (ltb k (W c).length) (W c).length (suc k) = rw (← i) q in
      let own : x ≡ condition_number (condition_as (witness S c) Whole) = y ∙ ap (λ (Y : Shape). condition_number (condition_as (is_witness Y (suc c)) Whole)) (sym sh) in
      rw (← z) (slot_set S W c k l (condition_as (witness S c) Whole) e n leader s r (rw own at t) cn km ok (either (ltb k (W c).length) l (W c).length (suc k) z (f.logs_fit c) km) f)

  pub noted_mended : k < get_or s.lengths c 0 → {x : ℕ} → SlotSet s r c k (get_or s.lengths c 0) x (get_or s.epochs (c * 64 + k) 0) → x ≡ condition_number Whole → (d : ℕ) → Noted Z (store_entry c k d) s r
  unfolding views_after seen_after store_replica store_slot
  noted_mended h t y d S W n leader sh cn km ok f =
      let i = f.surveyed.length_is c cn ok in
      let j = f.surveyed.epoch_is c k cn km ok in
      rw (lt-ltb k (W c).length (omega arith)) (slot_set S W c k (W c).length Whole ((W c).epoch k) n leader s r (rw (i, j, y) at t) cn km ok (f.logs_fit c) f)
