-- What holds of numbers that are not refused, and the end of a call that measures.
use Prim.Native.Nat.{ℕ, ◌≤◌}
use mathlib.Core.Path.{◌≡◌, refl, sym, ◌∙◌}
use mathlib.Core.Bool.{true, false, ◌&&◌}
use native.Mathlib.Omega.{arith}
use lib.Dec.{leb, eqb}
use borrow.Author.Tests.{leb-true, not-false}
use Rattle.std.specs.Prelude.{Result, Ok, Err}
use Rattle.slices.proofs.SameLaws.{and_left, and_right}
use Rattle.record.specs.declared.Shape.{Shape}
use Rattle.image.specs.declared.refusal.Refusal.{Refusal}
use Rattle.image.specs.declared.refusal.Refusal.TheVariants.{SlotCount, ReplicaCount, BufferLength, Header, UsedAfterBlank, BothLost, EpochFalls, AppendEpoch, AppendPayload, AppendFull, Present, Leader, LentLength, CommandLine, FirstIndex, FirstDiffers, Witnesses}
use Rattle.image.specs.Refusal.{refusal_number, refusal_of, unless_refused}
use Rattle.image.specs.View.{is_size, is_replica, is_edition, named_refusal}
use Rattle.image.specs.Cluster.{image_at}
use Rattle.image.proofs.CallLaws.{slots_high, size_high, named_slots_in}
use Rattle.image.proofs.ClusterLaws.{images_few}
use Rattle.image.proofs.RefusalLaws.{refuse_zero, else_zero_l, else_zero_r}
use Rattle.call_sizes.specs.declared.Measure.{Measure}
use Rattle.call_sizes.specs.Sizes.{slot_refusal, bytes_of, Found, Measured}

-- ---- numbers that are not refused

module _ (Z : Shape) (c : ℕ) (none : named_refusal Z c ≡ 0) where
  pub few_slots : Z.m ≤ 64
  few_slots = slots_high Z.m (named_slots_in Z c none)

  named : (is_size Z.n && is_edition Z.edition && is_replica Z.n c) ≡ true
  unfolding named_refusal
  named = not-false _ (refuse_zero 1 _ (else_zero_r _ _ none))

  few_replicas : Z.n ≤ 7
  few_replicas = size_high Z.n (and_left (is_size Z.n) (is_edition Z.edition) (and_left (is_size Z.n && is_edition Z.edition) (is_replica Z.n c) named))

  replica : is_replica Z.n c ≡ true
  replica = and_right (is_size Z.n && is_edition Z.edition) (is_replica Z.n c) named

  pub replica_from : 1 ≤ c
  unfolding is_replica
  replica_from = leb-true 1 c (and_left (leb 1 c) (leb c Z.n) replica)

  pub replica_to : c ≤ Z.n
  unfolding is_replica
  replica_to = leb-true c Z.n (and_right (leb 1 c) (leb c Z.n) replica)

  -- every offset of its cluster is a small number
  pub offset_small : (d : ℕ) → d ≤ Z.n → image_at Z d ≤ 18446744073709551615
  offset_small d h = omega (arith, images_few Z d few_slots, h, few_replicas)

-- ---- a slot that is not refused

module _ (Z : Shape) (c k : ℕ) (none : slot_refusal Z c k ≡ 0) where
  named_in : named_refusal Z c ≡ 0
  unfolding slot_refusal
  named_in = else_zero_r _ _ none

  slot : (leb 1 k && leb k Z.m) ≡ true
  unfolding slot_refusal
  slot = not-false _ (refuse_zero 0 _ (else_zero_l _ _ none))

  pub slot_from : 1 ≤ k
  slot_from = leb-true 1 k (and_left (leb 1 k) (leb k Z.m) slot)

  slot_to : k ≤ Z.m
  slot_to = leb-true k Z.m (and_right (leb 1 k) (leb k Z.m) slot)

  pub few_slots_in : Z.m ≤ 64
  few_slots_in = few_slots Z c named_in

  pub slot_below : k ≤ 64
  slot_below = omega (arith, slot_to, few_slots_in)

-- ---- the end of a call

number_above : (r : Refusal) → eqb (refusal_number r) 0 ≡ false
number_above SlotCount = refl
number_above ReplicaCount = refl
number_above BufferLength = refl
number_above Header = refl
number_above UsedAfterBlank = refl
number_above BothLost = refl
number_above EpochFalls = refl
number_above AppendEpoch = refl
number_above AppendPayload = refl
number_above AppendFull = refl
number_above Present = refl
number_above Leader = refl
number_above LentLength = refl
number_above CommandLine = refl
number_above FirstIndex = refl
number_above FirstDiffers = refl
number_above Witnesses = refl

found_bytes : (refusal bytes : ℕ) (r : Result ℕ Refusal) → Found refusal bytes r → bytes_of r ≡ unless_refused refusal bytes 0
unfolding unless_refused
found_bytes refusal bytes (Ok n) h = h.1 ∙ sym (rw (← h.0))
found_bytes refusal bytes (Err r) h = sym (rw (← h.0, number_above r))

pub is_measured :
    (refusal bytes : ℕ) (r : Result ℕ Refusal) (x : Measure) → Found refusal bytes r → (x.refusal ≡ refusal_of r) × (x.value ≡ bytes_of r) → Measured refusal bytes x
is_measured refusal bytes r x h m = (m.0 ∙ h.0, m.1 ∙ found_bytes refusal bytes r h)
