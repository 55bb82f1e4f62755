-- What storing an entry or a record does to an image that is not refused: its conditions, epochs, length, and that it stays unrefused.
use Prim.Native.Nat.{ℕ, suc, ◌≤◌, ◌<◌}
use mathlib.Core.Path.{◌≡◌, refl, sym, ap, fun_ext}
use mathlib.Core.Bool.{Bool, false, true≢false}
use native.Mathlib.Omega.{arith}
use native.Mathlib.Decide.{ℕ_discrete}
use Rattle.search.specs.Search.{lowest}
use Rattle.search.specs.Put.{put}
use Rattle.search.proofs.SearchLaws.{lowest_is}
use Rattle.search.proofs.UpdateLaws.{put_same, put_other, put_case}
use Rattle.record.specs.Meaning.{Record, good, blank, Entry}
use Rattle.image.specs.Image.{Image}
use Rattle.image.specs.SetSlot.{set_record, set_entry}
use Rattle.image.specs.View.{condition, epoch_of, is_blank, is_lost, condition_at, epoch_at, log_length}
use Rattle.image.proofs.ViewLaws.{Sound, length_le, used_below}

-- ---- an entry is stored at slot k
module _ (m : ℕ) (i : Image) (k : ℕ) (x : Entry) where
  pub entry_length : log_length m (set_entry i k x) ≡ log_length m i
  unfolding log_length set_entry
  entry_length = refl

  pub entry_epoch_lem : epoch_of (i.records k) x ≡ epoch_at i k → (j : ℕ) → epoch_at (set_entry i k x) j ≡ epoch_at i j
  unfolding epoch_at set_entry
  entry_epoch_lem e j = put_case (λ (y : Entry). epoch_of (i.records j) y ≡ epoch_of (i.records j) (i.entries j)) i.entries k x j (λ q. rw q e) (λ q. refl)

  pub entry_condition : condition_at (set_entry i k x) k ≡ condition (i.records k) x
  unfolding condition_at set_entry
  entry_condition = rw put_same

  pub entry_condition_other : (j : ℕ) → (j ≡ k → ⊥) → condition_at (set_entry i k x) j ≡ condition_at i j
  unfolding condition_at set_entry
  entry_condition_other j q = rw (put_other i.entries k x j q)

  pub entry_sound : Sound m i → is_lost (condition (i.records k) x) ≡ false → epoch_of (i.records k) x ≡ epoch_at i k → Sound m (set_entry i k x)
  unfolding set_entry log_length
  entry_sound s l e = record {
    headed = s.headed;
    tail = s.tail;
    kept = λ j h. keep j h (ℕ_discrete j k);
    rise = λ j h. rw (entry_epoch_lem e j, entry_epoch_lem e (suc j)) (s.rise j h);
  }
    where
      keep : (j : ℕ) → j < m → Dec (j ≡ k) → is_lost (condition_at (set_entry i k x) j) ≡ false
      keep j h (yes q) = rw (q, entry_condition) l
      keep j h (no q) = rw (entry_condition_other j q) (s.kept j h)

-- ---- a record is stored at slot k
module _ (m : ℕ) (i : Image) (k : ℕ) (r : Record) where
  pub record_condition : condition_at (set_record i k r) k ≡ condition r (i.entries k)
  unfolding condition_at set_record
  record_condition = rw put_same

  pub record_condition_other : (j : ℕ) → (j ≡ k → ⊥) → condition_at (set_record i k r) j ≡ condition_at i j
  unfolding condition_at set_record
  record_condition_other j q = rw (put_other i.records k r j q)

  pub record_epoch_lem : epoch_at (set_record i k r) k ≡ epoch_of r (i.entries k)
  unfolding epoch_at set_record
  record_epoch_lem = rw put_same

  pub record_epoch_other : (j : ℕ) → (j ≡ k → ⊥) → epoch_at (set_record i k r) j ≡ epoch_at i j
  unfolding epoch_at set_record
  record_epoch_other j q = rw (put_other i.records k r j q)

  record_kept : Sound m i → is_lost (condition r (i.entries k)) ≡ false → (j : ℕ) → j < m → is_lost (condition_at (set_record i k r) j) ≡ false
  record_kept s l j h = go (ℕ_discrete j k)
    where
      go : Dec (j ≡ k) → is_lost (condition_at (set_record i k r) j) ≡ false
      go (yes q) = rw (q, record_condition) l
      go (no q) = rw (record_condition_other j q) (s.kept j h)

-- a used slot gets a record of its own epoch
module _ (m : ℕ) (i : Image) (k e : ℕ) (s : Sound m i) (used : is_blank (i.records k) ≡ false) (same : e ≡ epoch_at i k) where
  pub mended_length : log_length m (set_record i k (good e)) ≡ log_length m i
  unfolding log_length set_record is_blank
  mended_length = ap (λ (p : ℕ → Bool). lowest p m) (fun_ext (λ j. put_case (λ (r : Record). is_blank r ≡ is_blank (i.records j)) i.records k (good e) j (λ q. rw q (sym used)) (λ q. refl)))

  pub mended_epoch : (j : ℕ) → epoch_at (set_record i k (good e)) j ≡ epoch_at i j
  unfolding epoch_of
  mended_epoch j = go (ℕ_discrete j k)
    where
      go : Dec (j ≡ k) → epoch_at (set_record i k (good e)) j ≡ epoch_at i j
      go (yes q) = rw (q, record_epoch_lem m i k (good e)) same
      go (no q) = record_epoch_other m i k (good e) j q

  pub mended_sound : is_lost (condition (good e) (i.entries k)) ≡ false → Sound m (set_record i k (good e))
  unfolding set_record is_blank
  mended_sound l = record {
    headed = s.headed;
    tail = λ j a b. at j (rw mended_length at a) b (ℕ_discrete j k);
    kept = record_kept m i k (good e) s l;
    rise = λ j h. rw (mended_epoch j, mended_epoch (suc j)) (s.rise j (rw mended_length at h));
  }
    where
      at : (j : ℕ) → log_length m i ≤ j → j < m → Dec (j ≡ k) → (set_record i k (good e)).records j ≡ blank
      at j a b (yes q) = absurd (true≢false (rw (s.tail k (rw q at a) (rw q at b)) at used))
      at j a b (no q) = rw (put_other i.records k (good e) j q) (s.tail j a b)

-- the last used slot's record is blanked
module _ (m : ℕ) (i : Image) (l : ℕ) (s : Sound m i) (last : log_length m i ≡ suc l) where
  pub blanked_length : log_length m (set_record i l blank) ≡ l
  unfolding log_length set_record is_blank
  blanked_length =
      lowest_is (λ k. is_blank (put i.records l blank k)) m l (omega (arith, length_le m i, last))
      (λ j h. rw (put_other i.records l blank j (omega arith)) (used_below m i j (omega (arith, last))))
      (λ h. rw put_same)

  pub blanked_sound : Sound m (set_record i l blank)
  unfolding set_record is_lost condition
  blanked_sound = record {
    headed = s.headed;
    tail = λ j a b. at j b (rw blanked_length at a) (ℕ_discrete j l);
    kept = record_kept m i l blank s refl;
    rise = λ j h. below j (rw blanked_length at h);
  }
    where
      at : (j : ℕ) → j < m → l ≤ j → Dec (j ≡ l) → put i.records l blank j ≡ blank
      at j b a (yes q) = rw (q, put_same)
      at j b a (no q) = rw (put_other i.records l blank j q) (s.tail j (omega (arith, last)) b)

      below : (j : ℕ) → suc j < l → epoch_at (set_record i l blank) j ≤ epoch_at (set_record i l blank) (suc j)
      below j h = rw (record_epoch_other m i l blank j (omega arith), record_epoch_other m i l blank (suc j) (omega arith)) (s.rise j (omega (arith, last)))

-- the first unused slot gets a record, not below the last one's epoch
module _ (m : ℕ) (i : Image) (l e : ℕ) (s : Sound m i) (here : log_length m i ≡ l) (room : l < m) where
  pub appended_length : log_length m (set_record i l (good e)) ≡ suc l
  unfolding log_length set_record is_blank
  appended_length =
      lowest_is (λ k. is_blank (put i.records l (good e) k)) m (suc l) room
      (λ j h. put_case (λ (r : Record). is_blank r ≡ false) i.records l (good e) j (λ q. refl) (λ q. used_below m i j (omega (arith, here))))
      (λ h. rw (put_other i.records l (good e) (suc l) (omega arith), s.tail (suc l) (omega (arith, here)) h))

  pub appended_sound : is_lost (condition (good e) (i.entries l)) ≡ false → ((j : ℕ) → suc j ≡ l → epoch_at i j ≤ e) → Sound m (set_record i l (good e))
  unfolding set_record epoch_of
  appended_sound k up = record {
    headed = s.headed;
    tail = λ j a b. at j b (rw appended_length at a);
    kept = record_kept m i l (good e) s k;
    rise = λ j h. below j (rw appended_length at h) (ℕ_discrete (suc j) l);
  }
    where
      at : (j : ℕ) → j < m → suc l ≤ j → put i.records l (good e) j ≡ blank
      at j b a = rw (put_other i.records l (good e) j (omega arith)) (s.tail j (omega (arith, here)) b)

      below : (j : ℕ) → suc j < suc l → Dec (suc j ≡ l) → epoch_at (set_record i l (good e)) j ≤ epoch_at (set_record i l (good e)) (suc j)
      below j h (yes q) = rw (record_epoch_other m i l (good e) j (omega arith), q, record_epoch_lem m i l (good e)) (up j q)
      below j h (no q) = rw (record_epoch_other m i l (good e) j (omega arith), record_epoch_other m i l (good e) (suc j) q) (s.rise j (omega (arith, here)))

-- ---- entries after a store

pub entry_at_lem : (i : Image) (k : ℕ) (x : Entry) → (set_entry i k x).entries k ≡ x
unfolding set_entry
entry_at_lem i k x = put_same i.entries k x

pub entry_off : (i : Image) (k : ℕ) (x : Entry) (j : ℕ) → (j ≡ k → ⊥) → (set_entry i k x).entries j ≡ i.entries j
unfolding set_entry
entry_off i k x j q = put_other i.entries k x j q

pub record_off : (i : Image) (k : ℕ) (r : Record) (j : ℕ) → (set_record i k r).entries j ≡ i.entries j
unfolding set_record
record_off i k r j = refl
