-- What the reader's tests say of an image, in plain terms: `Sound` is an image that is not refused.
use Prim.Native.Nat.{ℕ, zero, suc, ◌+◌, ◌≤◌, ◌<◌}
use mathlib.Core.Path.{◌≡◌, refl, sym, ap}
use mathlib.Core.Bool.{Bool, true, false, not, ◌||◌, true≢false}
use native.Mathlib.Omega.{arith}
use native.Mathlib.Decide.{dec_lt}
use lib.Dec.{eqb, leb, ltb}
use borrow.Author.Tests.{eqb-true, eq-eqb, leb-true, lt-ltb, le-ltb, le-leb, not-true, not-false}
use Rattle.search.specs.Search.{count}
use Rattle.search.proofs.SearchLaws.{lowest_le, lowest_passes, below_lowest, all_elim, all_intro}
use Rattle.search.proofs.CountLaws.{count_below}
use Rattle.slices.proofs.SameLaws.{and_left, and_right}
use Rattle.record.specs.Meaning.{Record, good, blank, bad}
use Rattle.image.specs.Refusal.{refuse, ◌else◌}
use Rattle.image.specs.Image.{Image}
use Rattle.image.specs.View.{is_blank, is_proper, is_lost, condition_at, epoch_at, log_length, no_gap, none_lost, rising, image_refusal, view_of}
use Rattle.image.proofs.RefusalLaws.{refuse_off, refuse_zero, else_zero, else_zero_l, else_zero_r}

pub record Sound (m : ℕ) (i : Image) : Type 0 where
  pub headed : is_proper i.header ≡ true
  pub tail : (k : ℕ) → log_length m i ≤ k → k < m → i.records k ≡ blank
  pub kept : (k : ℕ) → k < m → is_lost (condition_at i k) ≡ false
  pub rise : (k : ℕ) → suc k < log_length m i → epoch_at i k ≤ epoch_at i (suc k)

is_blank_lem : (r : Record) → is_blank r ≡ true → r ≡ blank
unfolding is_blank
is_blank_lem (good e) h = absurd (true≢false (sym h))
is_blank_lem blank h = refl
is_blank_lem (bad b) h = absurd (true≢false (sym h))

or_second : (a b : Bool) → a ≡ false → (a || b) ≡ true → b ≡ true
or_second true b e f = absurd (true≢false e)
or_second false b e f = f

-- ---- the log's length

pub length_le : (m : ℕ) (i : Image) → log_length m i ≤ m
unfolding log_length
length_le m i = lowest_le (λ k. is_blank (i.records k)) m

pub used_below : (m : ℕ) (i : Image) (k : ℕ) → k < log_length m i → is_blank (i.records k) ≡ false
unfolding log_length
used_below m i k h = below_lowest (λ k. is_blank (i.records k)) m k h

pub blank_next : (m : ℕ) (i : Image) → log_length m i < m → i.records (log_length m i) ≡ blank
unfolding log_length
blank_next m i h = is_blank_lem _ (lowest_passes (λ k. is_blank (i.records k)) m h)

-- refusal 5 in plain terms
module _ (m : ℕ) (i : Image) where
  pub gap_elim : no_gap m i ≡ true → (k : ℕ) → log_length m i ≤ k → k < m → i.records k ≡ blank
  unfolding no_gap
  gap_elim g k a b =
      is_blank_lem (i.records k)
      (or_second (ltb k (log_length m i)) (is_blank (i.records k)) (le-ltb k (log_length m i) a)
      (all_elim (λ k. ltb k (log_length m i) || is_blank (i.records k)) m g k b))

  pub gap_intro : ((k : ℕ) → log_length m i ≤ k → k < m → i.records k ≡ blank) → no_gap m i ≡ true
  unfolding no_gap is_blank
  gap_intro t = all_intro (λ k. ltb k (log_length m i) || is_blank (i.records k)) m (λ k h. go k h (dec_lt k (log_length m i)))
    where
      go : (k : ℕ) → k < m → Dec (k < log_length m i) → (ltb k (log_length m i) || is_blank (i.records k)) ≡ true
      go k h (yes l) = rw (lt-ltb k (log_length m i) l)
      go k h (no l) = rw (le-ltb k (log_length m i) (omega arith), t k (omega arith) h)

  -- 01's length: the number of used slots
  pub length_count : no_gap m i ≡ true → log_length m i ≡ count (λ k. not (is_blank (i.records k))) m
  unfolding is_blank
  length_count g =
      sym (count_below (λ k. not (is_blank (i.records k))) (log_length m i) m (length_le m i) (λ k h. rw (used_below m i k h)) (λ k a b. rw (gap_elim g k a b)))

  -- refusal 6
  pub lost_elim : none_lost m i ≡ true → (k : ℕ) → k < m → is_lost (condition_at i k) ≡ false
  unfolding none_lost
  lost_elim l k a = not-true (is_lost (condition_at i k)) (all_elim (λ k. not (is_lost (condition_at i k))) m l k a)

  pub lost_intro : ((k : ℕ) → k < m → is_lost (condition_at i k) ≡ false) → none_lost m i ≡ true
  unfolding none_lost
  lost_intro f = all_intro (λ k. not (is_lost (condition_at i k))) m (λ k h. rw (f k h))

  -- refusal 7
  pub rising_elim : rising m i ≡ true → (k : ℕ) → suc k < log_length m i → epoch_at i k ≤ epoch_at i (suc k)
  unfolding rising
  rising_elim r k a =
      let z = all_elim (λ k. not (ltb (suc k) (log_length m i)) || leb (epoch_at i k) (epoch_at i (suc k))) m r k (omega (arith, length_le m i)) in
      leb-true (epoch_at i k) (epoch_at i (suc k)) (rw (lt-ltb (suc k) (log_length m i) a) at z)

  pub rising_intro : ((k : ℕ) → suc k < log_length m i → epoch_at i k ≤ epoch_at i (suc k)) → rising m i ≡ true
  unfolding rising
  rising_intro u = all_intro (λ k. not (ltb (suc k) (log_length m i)) || leb (epoch_at i k) (epoch_at i (suc k))) m (λ k h. go k (dec_lt (suc k) (log_length m i)))
    where
      go : (k : ℕ) → Dec (suc k < log_length m i) → (not (ltb (suc k) (log_length m i)) || leb (epoch_at i k) (epoch_at i (suc k))) ≡ true
      go k (yes l) = rw (lt-ltb (suc k) (log_length m i) l, le-leb (epoch_at i k) (epoch_at i (suc k)) (u k l))
      go k (no l) = rw (le-ltb (suc k) (log_length m i) (omega arith))

  -- 01 compares with every earlier slot
  pub rising_all : rising m i ≡ true → (d j : ℕ) → j + d < log_length m i → epoch_at i j ≤ epoch_at i (j + d)
  rising_all r zero j h = let e : j + 0 ≡ j = omega arith in rw e (omega arith)
  rising_all r (suc d) j h =
      let e : j + suc d ≡ suc (j + d) = omega arith in
      rw e (omega (arith, rising_all r d j (omega arith), rising_elim r (j + d) (omega arith)))

  -- ---- all of them
  pub sound_elim : image_refusal m i ≡ 0 → Sound m i
  unfolding image_refusal
  sound_elim e = record {
    headed = test 3 (is_proper i.header) (else_zero_l r4 (r5 else r6 else r7) e);
    tail = gap_elim (test 4 (no_gap m i) (else_zero_l r5 (r6 else r7) e₁));
    kept = lost_elim (test 5 (none_lost m i) (else_zero_l r6 r7 e₂));
    rise = rising_elim (test 6 (rising m i) (else_zero_r r6 r7 e₂));
  }
    where
      r4 : ℕ
      r4 = refuse 4 (not (is_proper i.header))

      r5 : ℕ
      r5 = refuse 5 (not (no_gap m i))

      r6 : ℕ
      r6 = refuse 6 (not (none_lost m i))

      r7 : ℕ
      r7 = refuse 7 (not (rising m i))

      e₁ : (r5 else r6 else r7) ≡ 0
      e₁ = else_zero_r r4 (r5 else r6 else r7) e

      e₂ : (r6 else r7) ≡ 0
      e₂ = else_zero_r r5 (r6 else r7) e₁

      test : (k : ℕ) (b : Bool) → refuse (suc k) (not b) ≡ 0 → b ≡ true
      test k b z = not-false b (refuse_zero k (not b) z)

  pub sound_intro : Sound m i → image_refusal m i ≡ 0
  unfolding image_refusal
  sound_intro s =
      else_zero (test 4 s.headed)
      (else_zero (test 5 (gap_intro s.tail)) (else_zero (test 6 (lost_intro s.kept)) (test 7 (rising_intro s.rise))))
    where
      test : (k : ℕ) {b : Bool} → b ≡ true → refuse k (not b) ≡ 0
      test k e = refuse_off k (ap not e)

-- readable: present, and its image not refused
module _ (present : Bool) (m : ℕ) (i : Image) where
  pub readable_present : (view_of present m i).readable ≡ true → present ≡ true
  unfolding view_of
  readable_present e = and_left present (eqb (image_refusal m i) 0) e

  pub readable_sound : (view_of present m i).readable ≡ true → Sound m i
  unfolding view_of
  readable_sound e = sound_elim m i (eqb-true (image_refusal m i) 0 (and_right present (eqb (image_refusal m i) 0) e))

  pub readable_intro : present ≡ true → Sound m i → (view_of present m i).readable ≡ true
  unfolding view_of
  readable_intro p s = rw (p, eq-eqb (image_refusal m i) 0 (sound_intro m i s))
