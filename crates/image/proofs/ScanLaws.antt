-- The length of a scanned log, and refusals 5 to 7 in their order.
use Prim.Native.Nat.{ℕ, suc, ◌-◌, ◌≤◌, ◌<◌}
use mathlib.Core.Path.{◌≡◌, sym, ◌∙◌}
use mathlib.Core.Bool.{Bool, true, false, not, ◌||◌}
use mathlib.Core.List.{List}
use native.Mathlib.Decide.{dec_lt}
use native.Mathlib.Omega.{arith}
use lib.Dec.{leb, ltb}
use lib.ListN.{length, take}
use borrow.Author.Tests.{lt-ltb, le-ltb, le-leb, lt-leb}
use Rattle.search.proofs.SearchLaws.{lowest_is, lowest_le, all_intro, all_off}
use Rattle.image.specs.Refusal.{refuse, ◌else◌}
use Rattle.image.specs.View.{is_unused}
use Rattle.image.specs.Seen.{slot_in}
use Rattle.image.specs.Scan.{length_in, gap_in, lost_in, falls_in, scan_refusal}
use Rattle.image.specs.declared.condition.Slot.{Slot}

pub length_within : (slots : List Slot) {len : ℕ} → len ≡ length_in slots → len ≤ length slots
unfolding length_in
length_within slots {len} e =
    rw e (lowest_le (λ k. is_unused (slot_in slots k).condition) (length slots))

-- slot k is the first that is unused, or the end
module _ (slots : List Slot) (k : ℕ) (used : (j : ℕ) → j < k → is_unused (slot_in slots j).condition ≡ false) where
  pub length_found : k < length slots → is_unused (slot_in slots k).condition ≡ true → k ≡ length_in slots
  unfolding length_in
  length_found h e = sym (lowest_is (λ k. is_unused (slot_in slots k).condition) (length slots) k (omega arith) used (λ l. e))

  pub length_end : length slots ≡ k → length slots ≡ length_in slots
  unfolding length_in
  length_end h = h ∙ sym (lowest_is (λ k. is_unused (slot_in slots k).condition) (length slots) k (omega arith) used (λ l. absurd (omega arith)))

module _ (len : ℕ) (slots : List Slot) where
  pub scan_gap : gap_in len slots ≡ true → 5 ≡ scan_refusal len slots
  unfolding scan_refusal refuse ◌else◌
  scan_gap h = sym (rw h)

  module _ (gap : gap_in len slots ≡ false) where
    pub scan_lost : lost_in slots ≡ true → 6 ≡ scan_refusal len slots
    unfolding scan_refusal refuse ◌else◌
    scan_lost h = sym (rw (gap, h))

    module _ (lost : lost_in slots ≡ false) where
      pub scan_falls : falls_in (take len slots) ≡ true → 7 ≡ scan_refusal len slots
      unfolding scan_refusal refuse ◌else◌
      scan_falls h = sym (rw (gap, lost, h))

      pub scan_none : falls_in (take len slots) ≡ false → 0 ≡ scan_refusal len slots
      unfolding scan_refusal refuse ◌else◌
      scan_none h = sym (rw (gap, lost, h))

-- ---- epochs that fall

module _ (used : List Slot) where
  abbrev rises : ℕ → Bool
  rises k = not (ltb (suc k) (length used)) || leb (slot_in used k).epoch (slot_in used (suc k)).epoch

  -- each used slot before k is followed by none of a lower epoch
  abbrev pub RisesTo : ℕ → Type 0
  RisesTo k = (j : ℕ) → suc j < k → (slot_in used j).epoch ≤ (slot_in used (suc j)).epoch

  pub falls_found : (k : ℕ) → 1 ≤ k → k < length used → (slot_in used k).epoch < (slot_in used (k - 1)).epoch → true ≡ falls_in used
  unfolding falls_in
  falls_found k l h e =
      let z : suc (k - 1) ≡ k = omega arith in
      sym (rw (all_off rises (length used) (k - 1) (omega arith) (rw (z, lt-ltb k (length used) h, lt-leb (slot_in used (k - 1)).epoch (slot_in used k).epoch e))))

  pub falls_none : (k : ℕ) → length used ≤ k → RisesTo k → false ≡ falls_in used
  unfolding falls_in
  falls_none k h r = sym (rw (all_intro rises (length used) (λ j l. go j (dec_lt (suc j) (length used)))))
    where
      go : (j : ℕ) → Dec (suc j < length used) → rises j ≡ true
      go j (yes l) = rw (lt-ltb (suc j) (length used) l, le-leb (slot_in used j).epoch (slot_in used (suc j)).epoch (r j (omega arith)))
      go j (no l) = rw (le-ltb (suc j) (length used) (omega arith))
