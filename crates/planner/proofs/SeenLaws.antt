-- The survey of a cluster, replica by replica.
use Prim.Native.Nat.{ℕ, suc, ◌+◌, ◌*◌, ◌-◌, ◌<◌, ◌≤◌}
use mathlib.Core.Path.{◌≡◌, refl, sym, ◌∙◌, ap, subst}
use mathlib.Core.Bool.{Bool, true, false, not}
use mathlib.Core.List.{List}
use native.Mathlib.Omega.{arith}
use native.Mathlib.Decide.{ℕ_discrete}
use native.Mathlib.Numerals.{add-one}
use lib.Dec.{eqb}
use Rattle.std.specs.Prelude.{Result, Ok, Err, IfOk}
use lib.ListN.{length, get_or, set, take, drop, length-set}
use lib.Seq.{get_or-set_same, get_or-set_other}
use denote.Enum.Declared.{tag_of}
use borrow.Author.Tests.{eq-eqb, ne_eqb}
use Rattle.slices.specs.Parts.{Bytes}
use Rattle.slices.proofs.PartLaws.{length_part}
use Rattle.slices.proofs.SpliceLaws.{part_lent}
use Rattle.slices.proofs.SameLaws.{and_off, clash}
use Rattle.record.specs.declared.Shape.{Shape}
use Rattle.record.specs.Layout.{is_witness}
use Rattle.image.specs.Image.{Image, image_size, decode_image}
use Rattle.image.specs.View.{View, view_of, condition_as, seen_as, image_refusal, condition_at}
use Rattle.image.specs.contracts.condition.Condition.{the_type}
use Rattle.image.specs.declared.condition.Condition.{Condition}
use Rattle.image.specs.declared.condition.Condition.TheVariants.{Unused, Whole, RecordLost, Faulty, Lost, RecordOnly}
use Rattle.image.specs.View.{condition_number}
use Rattle.image.specs.declared.condition.Slot.{Slot}
use Rattle.image.specs.declared.refusal.Refusal.{Refusal}
use Rattle.image.specs.declared.refusal.Refusal.TheVariants.{SlotCount, ReplicaCount, BufferLength, Header, UsedAfterBlank, BothLost, EpochFalls, AppendEpoch, AppendPayload, AppendFull, Present, Leader, LentLength, CommandLine, FirstIndex, FirstDiffers, Witnesses}
use Rattle.image.specs.Refusal.{refusal_number, refusal_of}
use Rattle.image.specs.Seen.{slot_of, slot_in, Seen}
use Rattle.image.specs.Cluster.{image_at, image_part, decode}
use Rattle.image.proofs.ClusterLaws.{image_fits}
use Rattle.image.proofs.ScannedLaws.{taken_at}
use Rattle.search.specs.Sets.{has}
use Rattle.planner.specs.Setting.{setting_of, views_of}
use Rattle.planner.specs.Plan.{views_in}
use Rattle.planner.specs.Sets.{inserted, set_of}
use Rattle.planner.specs.Survey.{Surveyed, Copied, number_as}
use Rattle.planner.proofs.SetLaws.{set_none, set_in, set_out, has_set}

-- ---- where an image stands in the cluster

module _ (Z : Shape) (c : ℕ) (b : Bytes) (h : c < Z.n) (len : length b ≡ image_at Z Z.n) where
  pub image_there : image_at Z c + image_size Z (c + 1) ≤ length b
  image_there = rw add-one (omega (arith, image_fits Z Z.n c h, len))

  module _ {start size : ℕ} (s : start ≡ image_at Z c) (z : size ≡ image_size Z (c + 1)) where
    part_is : take (start + size - start) (drop start b) ≡ image_part Z b c
    unfolding image_part
    part_is = part_lent b start size ∙ rw (s, z, add-one) refl

    pub lent_sized : length (take (start + size - start) (drop start b)) ≡ image_size Z (c + 1)
    unfolding image_part
    lent_sized = ap length part_is ∙ rw add-one (length_part b (image_at Z c) (image_size Z (suc c)) (rw add-one at image_there))

    lent_is : decode_image Z (c + 1) (take (start + size - start) (drop start b)) ≡ decode Z b c
    unfolding decode
    lent_is = rw (part_is, add-one) refl

    -- what is said of the image as it was lent is so of the cluster's
    pub view_there : {V : Type 0} (first len : V → ℕ) (slots : V → List Slot) (r : Result V Refusal)
        → refusal_of r ≡ image_refusal Z.m (decode_image Z (c + 1) (take (start + size - start) (drop start b)))
        → IfOk r (λ v. Seen Z.m (decode_image Z (c + 1) (take (start + size - start) (drop start b))) (first v) (len v) (slots v))
        → (refusal_of r ≡ image_refusal Z.m (decode Z b c)) × IfOk r (λ v. Seen Z.m (decode Z b c) (first v) (len v) (slots v))
    view_there first len slots r e s =
        subst (λ (i : Image). (refusal_of r ≡ image_refusal Z.m i) × IfOk r (λ v. Seen Z.m i (first v) (len v) (slots v))) lent_is (e, s)

-- ---- copied slots

pub copied_none : (c : ℕ) (old : List ℕ) (seen : ℕ → ℕ) → Copied c old seen old 0
copied_none c old seen = record { same_size = refl; here = λ j h. absurd (omega arith); below = λ i h. refl }

pub copied_more : {c : ℕ} {old : List ℕ} {seen : ℕ → ℕ} {new : List ℕ} {x : ℕ} (k : ℕ) → Copied c old seen new k → c * 64 + k < length new → x ≡ seen k
    → Copied c old seen (set new (c * 64 + k) x) (k + 1)
copied_more {c} {old} {seen} {new} {x} k p h e = record {
  same_size = length-set new (c * 64 + k) x ∙ p.same_size;
  here = λ j l. go j (ℕ_discrete j k) l;
  below = λ i l. get_or-set_other new (c * 64 + k) i x 0 (λ q. omega arith) ∙ p.below i l;
}
  where
    go : (j : ℕ) → Dec (j ≡ k) → j < k + 1 → get_or (set new (c * 64 + k) x) (c * 64 + j) 0 ≡ seen j
    go j (yes q) l = rw q (get_or-set_same new (c * 64 + k) x 0 h ∙ e)
    go j (no q) l = get_or-set_other new (c * 64 + k) (c * 64 + j) x 0 (λ z. q (omega arith)) ∙ p.here j (omega arith)

pub copied_all : {c : ℕ} {old : List ℕ} {seen : ℕ → ℕ} {new : List ℕ} (k : ℕ) → Copied c old seen new k → 64 ≤ k → Copied c old seen new 64
copied_all k p h = record { same_size = p.same_size; here = λ j l. p.here j (omega arith); below = p.below }

-- ---- the replicas below c are surveyed

pub record Partly (m : ℕ) (W : ℕ → View) (readable : ℕ) (firsts lengths conditions epochs : List ℕ) (c : ℕ) : Type 0 where
  pub firsts_sized : length firsts ≡ 7
  pub lengths_sized : length lengths ≡ 7
  pub conditions_sized : length conditions ≡ 448
  pub epochs_sized : length epochs ≡ 448
  pub set_is : readable ≡ set_of (λ d. (W d).readable) c
  pub first_is : (d : ℕ) → d < c → (W d).readable ≡ true → get_or firsts d 0 ≡ (W d).first
  pub length_is : (d : ℕ) → d < c → (W d).readable ≡ true → get_or lengths d 0 ≡ (W d).length
  pub condition_is : (d k : ℕ) → d < c → k < m → (W d).readable ≡ true → get_or conditions (d * 64 + k) 0 ≡ condition_number ((W d).condition k)
  pub epoch_is : (d k : ℕ) → d < c → k < m → (W d).readable ≡ true → get_or epochs (d * 64 + k) 0 ≡ (W d).epoch k

pub partly_none : (m : ℕ) (W : ℕ → View) (firsts lengths conditions epochs : List ℕ) → length firsts ≡ 7 → length lengths ≡ 7 → length conditions ≡ 448 → length epochs ≡ 448 → Partly m W 0 firsts lengths conditions epochs 0
partly_none m W firsts lengths conditions epochs f a b e = record {
  firsts_sized = f;
  lengths_sized = a;
  conditions_sized = b;
  epochs_sized = e;
  set_is = set_none (λ d. (W d).readable);
  first_is = λ d h. absurd (omega arith);
  length_is = λ d h. absurd (omega arith);
  condition_is = λ d k h. absurd (omega arith);
  epoch_is = λ d k h. absurd (omega arith);
}

pub partly_all : {m : ℕ} {W : ℕ → View} {readable : ℕ} {firsts lengths conditions epochs : List ℕ} (n c : ℕ) → Partly m W readable firsts lengths conditions epochs c → c ≤ n → n ≤ c
    → Surveyed n m W readable firsts lengths conditions epochs
partly_all {m} {W} n c p h g = record {
  readable_is = λ d l. rw p.set_is (has_set (λ e. (W e).readable) c d (omega arith));
  first_is = λ d l. p.first_is d (omega arith);
  length_is = λ d l. p.length_is d (omega arith);
  condition_is = λ d k l. p.condition_is d k (omega arith);
  epoch_is = λ d k l. p.epoch_is d k (omega arith);
}

pub partly_skip : {m : ℕ} {W : ℕ → View} {readable : ℕ} {firsts lengths conditions epochs : List ℕ} (c : ℕ) → Partly m W readable firsts lengths conditions epochs c → (W c).readable ≡ false
    → Partly m W readable firsts lengths conditions epochs (c + 1)
partly_skip {m} {W} {readable} {firsts} {lengths} {conditions} {epochs} c p off = record {
  firsts_sized = p.firsts_sized;
  lengths_sized = p.lengths_sized;
  conditions_sized = p.conditions_sized;
  epochs_sized = p.epochs_sized;
  set_is = set_out (λ d. (W d).readable) c p.set_is off;
  first_is = λ d h r. p.first_is d (below d h r) r;
  length_is = λ d h r. p.length_is d (below d h r) r;
  condition_is = λ d k h l r. p.condition_is d k (below d h r) l r;
  epoch_is = λ d k h l r. p.epoch_is d k (below d h r) l r;
}
  where
    below : (d : ℕ) → d < c + 1 → (W d).readable ≡ true → d < c
    below d h r = go (ℕ_discrete d c)
      where
        go : Dec (d ≡ c) → d < c
        go (yes q) = absurd (clash (rw q at r) off)
        go (no q) = omega arith

pub partly_more : {m : ℕ} {W : ℕ → View} {readable : ℕ} {firsts lengths conditions epochs : List ℕ} {seen-conditions seen_epochs : ℕ → ℕ} {conditions' epochs' : List ℕ} (c first len : ℕ)
    → Partly m W readable firsts lengths conditions epochs c → c < 7 → m ≤ 64 → (W c).readable ≡ true → first ≡ (W c).first → len ≡ (W c).length
    → ((k : ℕ) → k < m → seen-conditions k ≡ condition_number ((W c).condition k)) → ((k : ℕ) → k < m → seen_epochs k ≡ (W c).epoch k)
    → Copied c conditions seen-conditions conditions' 64 → Copied c epochs seen_epochs epochs' 64
    → Partly m W (inserted readable c) (set firsts c first) (set lengths c len) conditions' epochs' (c + 1)
partly_more {m} {W} {readable} {firsts} {lengths} {conditions} {epochs} {seen-conditions} {seen_epochs} {conditions'} {epochs'} c first len p c7 m64 on fe le ce ee cc' ec' = record {
  firsts_sized = length-set firsts c first ∙ p.firsts_sized;
  lengths_sized = length-set lengths c len ∙ p.lengths_sized;
  conditions_sized = cc'.same_size ∙ p.conditions_sized;
  epochs_sized = ec'.same_size ∙ p.epochs_sized;
  set_is = set_in (λ d. (W d).readable) c p.set_is on;
  first_is = λ d h r. at_first d r h (ℕ_discrete d c);
  length_is = λ d h r. at_length d r h (ℕ_discrete d c);
  condition_is = λ d k h l r. at_condition d k l r h (ℕ_discrete d c);
  epoch_is = λ d k h l r. at_epoch d k l r h (ℕ_discrete d c);
}
  where
    at_first : (d : ℕ) → (W d).readable ≡ true → d < c + 1 → Dec (d ≡ c) → get_or (set firsts c first) d 0 ≡ (W d).first
    at_first d r h (yes q) = rw q (get_or-set_same firsts c first 0 (omega (arith, p.firsts_sized)) ∙ fe)
    at_first d r h (no q) = get_or-set_other firsts c d first 0 q ∙ p.first_is d (omega arith) r

    at_length : (d : ℕ) → (W d).readable ≡ true → d < c + 1 → Dec (d ≡ c) → get_or (set lengths c len) d 0 ≡ (W d).length
    at_length d r h (yes q) = rw q (get_or-set_same lengths c len 0 (omega (arith, p.lengths_sized)) ∙ le)
    at_length d r h (no q) = get_or-set_other lengths c d len 0 q ∙ p.length_is d (omega arith) r

    at_condition : (d k : ℕ) → k < m → (W d).readable ≡ true → d < c + 1 → Dec (d ≡ c) → get_or conditions' (d * 64 + k) 0 ≡ condition_number ((W d).condition k)
    at_condition d k l r h (yes q) = rw q (cc'.here k (omega arith) ∙ ce k l)
    at_condition d k l r h (no q) = cc'.below (d * 64 + k) (omega arith) ∙ p.condition_is d k (omega arith) l r

    at_epoch : (d k : ℕ) → k < m → (W d).readable ≡ true → d < c + 1 → Dec (d ≡ c) → get_or epochs' (d * 64 + k) 0 ≡ (W d).epoch k
    at_epoch d k l r h (yes q) = rw q (ec'.here k (omega arith) ∙ ee k l)
    at_epoch d k l r h (no q) = ec'.below (d * 64 + k) (omega arith) ∙ p.epoch_is d k (omega arith) l r

-- ---- what is seen of replica c

number_as_lem : (w : Bool) (a : Condition) → number_as w (condition_number a) ≡ condition_number (condition_as w a)
unfolding number_as condition_as
number_as_lem false a = refl
number_as_lem true Unused = refl
number_as_lem true Whole = refl
number_as_lem true RecordLost = refl
number_as_lem true Faulty = refl
number_as_lem true Lost = refl
number_as_lem true RecordOnly = refl

-- a condition as a byte is its number
pub condition_byte : (a : Condition) → tag_of the_type a ≡ condition_number a
condition_byte Unused = refl
condition_byte Whole = refl
condition_byte RecordLost = refl
condition_byte Faulty = refl
condition_byte Lost = refl
condition_byte RecordOnly = refl

-- how the code tells
pub number_card : {w : Bool} (x : ℕ) → w ≡ false → x ≡ number_as w x
unfolding number_as
number_card x e = rw e refl

pub number_unused : (w : Bool) (x : ℕ) → x ≡ 0 → x ≡ number_as w x
unfolding number_as
number_unused w x e = rw (eq-eqb x 0 e, and_off w) refl

pub number_lost : (w : Bool) (x : ℕ) → x ≡ 4 → x ≡ number_as w x
unfolding number_as
number_lost w x e = rw (eq-eqb x 4 e, and_off (not (eqb x 0)), and_off w) refl

pub number_used : {w : Bool} {r : ℕ} (x : ℕ) → r ≡ 5 → w ≡ true → (x ≡ 0 → ⊥) → (x ≡ 4 → ⊥) → r ≡ number_as w x
unfolding number_as
number_used x q e a b = rw (e, ne_eqb x 0 a, ne_eqb x 4 b) q

-- an image that is not refused, and one that is
pub not_refused : {V : Type 0} {r : Result V Refusal} {v : V} {n : ℕ} → refusal_of r ≡ n → r ≡ Ok v → n ≡ 0
not_refused e q = sym (rw q at e)

number_above : (x : Refusal) → refusal_number x ≡ 0 → ⊥
number_above SlotCount e = omega (arith, e)
number_above ReplicaCount e = omega (arith, e)
number_above BufferLength e = omega (arith, e)
number_above Header e = omega (arith, e)
number_above UsedAfterBlank e = omega (arith, e)
number_above BothLost e = omega (arith, e)
number_above EpochFalls e = omega (arith, e)
number_above AppendEpoch e = omega (arith, e)
number_above AppendPayload e = omega (arith, e)
number_above AppendFull e = omega (arith, e)
number_above Present e = omega (arith, e)
number_above Leader e = omega (arith, e)
number_above LentLength e = omega (arith, e)
number_above CommandLine e = omega (arith, e)
number_above FirstIndex e = omega (arith, e)
number_above FirstDiffers e = omega (arith, e)
number_above Witnesses e = omega (arith, e)

pub is_refused : {V : Type 0} {r : Result V Refusal} {x : Refusal} {n : ℕ} → refusal_of r ≡ n → r ≡ Err x → n ≡ 0 → ⊥
is_refused {x = x} e q z = number_above x (rw (q, z) at e)

module _ (Z : Shape) (present : ℕ) (b : Bytes) (c : ℕ) where
  pub absent_off : has present c ≡ false → (views_in (setting_of Z 0 present) b c).readable ≡ false
  unfolding views_in views_of seen_as view_of setting_of
  absent_off e = rw e refl

  pub refused_off : (image_refusal Z.m (decode Z b c) ≡ 0 → ⊥) → (views_in (setting_of Z 0 present) b c).readable ≡ false
  unfolding views_in views_of seen_as view_of setting_of
  refused_off e = rw (ne_eqb (image_refusal Z.m (decode Z b c)) 0 e) (and_off (has present c))

  -- f and l are what the code keeps of the view
  pub seen_more : {readable r first len f l : ℕ} {firsts lengths conditions epochs : List ℕ} {slots : List Slot} {conditions' epochs' : List ℕ} {w : Bool} {number : ℕ} → w ≡ is_witness Z number → number ≡ c + 1
      → Partly Z.m (views_in (setting_of Z 0 present) b) readable firsts lengths conditions epochs c → c < 7 → Z.m ≤ 64 → has present c ≡ true → image_refusal Z.m (decode Z b c) ≡ 0
      → Seen Z.m (decode Z b c) first len slots → Copied c conditions (λ k. number_as w (condition_number (slot_in slots k).condition)) conditions' 64 → Copied c epochs (λ k. (slot_in slots k).epoch) epochs' 64 → r ≡ inserted readable c
      → f ≡ first → l ≡ len → Partly Z.m (views_in (setting_of Z 0 present) b) r (set firsts c f) (set lengths c l) conditions' epochs' (c + 1)
  unfolding views_in views_of seen_as view_of setting_of
  seen_more {readable} {r} {first} {len} {f} {l} {firsts} {lengths} {conditions} {epochs} {slots} {w = w} {number = number} u num p c7 m64 on ok s x y q fs ls =
      let v : w ≡ is_witness Z (suc c) = rw (num, add-one) at u in
      rw (q, fs, ls) (partly_more c first len p c7 m64 (rw (on, eq-eqb _ _ ok) refl) s.first_is s.length_is
      (λ k h. ap (λ (t : Slot). number_as w (condition_number t.condition)) (there s k h)
      ∙ number_as_lem w (condition_at (decode Z b c) k)
      ∙ ap (λ (t : Bool). condition_number (condition_as t (condition_at (decode Z b c) k))) v)
      (λ k h. ap (λ (t : Slot). t.epoch) (there s k h)) x y)
    where
      there : Seen Z.m (decode Z b c) first len slots → (k : ℕ) → k < Z.m → slot_in slots k ≡ slot_of (decode Z b c) k
      there s k h = taken_at Z.m (slot_of (decode Z b c)) slots _ s.slots_are k h

-- the leader makes no difference
pub surveyed_any : (Z : Shape) (present : ℕ) (b : Bytes) {readable : ℕ} {firsts lengths conditions epochs : List ℕ}
    → Surveyed Z.n Z.m (views_in (setting_of Z 0 present) b) readable firsts lengths conditions epochs → (leader : ℕ)
    → Surveyed Z.n Z.m (views_in (setting_of Z leader present) b) readable firsts lengths conditions epochs
unfolding views_in views_of setting_of
surveyed_any Z present b s leader = s
