-- The first unused slot gets an entry and a record: what is seen of the image then. Bytes come in AppendLaws.
use Prim.Native.Nat.{ℕ, suc, ◌≤◌, ◌<◌}
use mathlib.Core.Path.{◌≡◌, refl, ◌∙◌}
use mathlib.Core.Bool.{Bool, true, false, cond, not, ◌&&◌}
use native.Mathlib.Omega.{arith}
use lib.Dec.{eqb}
use borrow.Author.Tests.{eq-eqb, ne_eqb}
use Rattle.search.proofs.UpdateLaws.{put_same, put_other}
use Rattle.slices.specs.Parts.{Bytes}
use Rattle.record.specs.Meaning.{Entry, good, blank, intact, broken}
use Rattle.image.specs.Image.{Image}
use Rattle.image.specs.SetSlot.{set_record, set_entry}
use Rattle.image.specs.View.{condition, epoch_of, is_lost, condition_at, epoch_at, log_length}
use Rattle.image.specs.declared.condition.Condition.{Condition}
use Rattle.image.specs.declared.condition.Condition.TheVariants.{Unused, Whole, RecordLost, Faulty, Lost, RecordOnly}
use Rattle.image.specs.Verdict.{is_fresh, verdict_of, verdict_at}
use Rattle.image.proofs.ViewLaws.{Sound}
use Rattle.image.proofs.StoreLaws.{entry_length, entry_epoch_lem, entry_condition_other, entry_sound, record_condition, record_condition_other, record_epoch_lem, record_epoch_other, appended_length, appended_sound}
use Rattle.image.proofs.VerdictLaws.{verdict_whole, verdict_unused}

unfoldable pub added : Image → ℕ → ℕ → Bytes → Image
added i l e p = set_record (set_entry i l (intact e p)) l (good e)

pub whole_beside : (e : ℕ) (p : Bytes) → condition (good e) (intact e p) ≡ Whole
unfolding condition
whole_beside e p = rw (eq-eqb e e refl)

-- ---- verdicts of a slot that keeps condition and entry, while the log grows by one

-- 4 at the last slot becomes 3
grown_last : (k : ℕ) (a : Condition) (x : Entry) → verdict_of (suc (suc k)) k a x ≡ cond (eqb (verdict_of (suc k) k a x) 4) 3 (verdict_of (suc k) k a x)
unfolding verdict_of
grown_last k Unused x = rw (ne_eqb k (suc (suc k)) (λ q. omega arith), ne_eqb k (suc k) (λ q. omega arith))
grown_last k Whole x = refl
grown_last k RecordLost x = refl
grown_last k Faulty (intact e p) = refl
grown_last k Faulty (broken b) = rw (ne_eqb (suc k) (suc (suc k)) (λ q. omega arith), eq-eqb (suc k) (suc k) refl)
grown_last k Lost x = refl
grown_last k RecordOnly x = refl

grown_other : (l k : ℕ) (a : Condition) (x : Entry) → ¬ (k ≡ l) → ¬ (suc k ≡ l) → ¬ (k ≡ suc l) → verdict_of (suc l) k a x ≡ verdict_of l k a x
unfolding verdict_of
grown_other l k Unused x p q r = rw (ne_eqb k l p, ne_eqb k (suc l) r)
grown_other l k Whole x p q r = refl
grown_other l k RecordLost x p q r = refl
grown_other l k Faulty (intact e y) p q r = refl
grown_other l k Faulty (broken b) p q r = rw (ne_eqb (suc k) l q, ne_eqb (suc k) (suc l) (λ z. p (omega arith)))
grown_other l k Lost x p q r = refl
grown_other l k RecordOnly x p q r = refl

-- ---- the image
module _ (m : ℕ) (i : Image) (l e : ℕ) (p : Bytes) where
  pub added_condition : condition_at (added i l e p) l ≡ Whole
  unfolding added set_entry
  added_condition = record_condition m (set_entry i l (intact e p)) l (good e) ∙ rw put_same (whole_beside e p)

  pub added_epoch : epoch_at (added i l e p) l ≡ e
  unfolding added epoch_of
  added_epoch = record_epoch_lem m (set_entry i l (intact e p)) l (good e)

  pub added_header : (added i l e p).header ≡ i.header
  unfolding added set_record set_entry
  added_header = refl

  pub added_entry : (added i l e p).entries l ≡ intact e p
  unfolding added set_record set_entry
  added_entry = put_same i.entries l (intact e p)

  pub added_entry_other : (k : ℕ) → ¬ (k ≡ l) → (added i l e p).entries k ≡ i.entries k
  unfolding added set_record set_entry
  added_entry_other k q = put_other i.entries l (intact e p) k q

  pub added_condition_other : (k : ℕ) → ¬ (k ≡ l) → condition_at (added i l e p) k ≡ condition_at i k
  unfolding added
  added_condition_other k q = record_condition_other m (set_entry i l (intact e p)) l (good e) k q ∙ entry_condition_other m i l (intact e p) k q

  module _ (s : Sound m i) (here : log_length m i ≡ l) (room : l < m) where
    unused : i.records l ≡ blank
    unused = s.tail l (omega (arith, here)) room

    no_epoch : epoch_of (i.records l) (intact e p) ≡ epoch_at i l
    unfolding epoch_at epoch_of
    no_epoch = rw unused

    entered_sound : Sound m (set_entry i l (intact e p))
    unfolding condition is_lost
    entered_sound = entry_sound m i l (intact e p) s (rw unused) no_epoch

    entered_length : log_length m (set_entry i l (intact e p)) ≡ l
    entered_length = entry_length m i l (intact e p) ∙ here

    pub added_epoch_other : (k : ℕ) → ¬ (k ≡ l) → epoch_at (added i l e p) k ≡ epoch_at i k
    unfolding added
    added_epoch_other k q = record_epoch_other m (set_entry i l (intact e p)) l (good e) k q ∙ entry_epoch_lem m i l (intact e p) no_epoch k

    pub added_length : log_length m (added i l e p) ≡ suc l
    unfolding added
    added_length = appended_length m (set_entry i l (intact e p)) l e entered_sound entered_length room

    pub added_sound : ((j : ℕ) → suc j ≡ l → epoch_at i j ≤ e) → Sound m (added i l e p)
    unfolding added
    added_sound up =
        appended_sound m (set_entry i l (intact e p)) l e entered_sound entered_length room
        (unfold set_entry is_lost in rw (put_same, whole_beside))
        (λ j q. rw (entry_epoch_lem m i l (intact e p) no_epoch j) (up j q))

    -- ---- verdicts
    pub added_verdict : verdict_at m (added i l e p) l ≡ 1
    added_verdict = verdict_whole m (added i l e p) l added_condition

    pub added_verdict_last : (k : ℕ) → suc k ≡ l → verdict_at m (added i l e p) k ≡ cond (eqb (verdict_at m i k) 4) 3 (verdict_at m i k)
    unfolding verdict_at
    added_verdict_last k q =
        let d : ¬ (k ≡ l) = λ z. omega arith in
        rw (added_length, added_condition_other k d, added_entry_other k d, here, ← q) (grown_last k (condition_at i k) (i.entries k))

    pub added_verdict_other : (k : ℕ) → ¬ (k ≡ l) → ¬ (suc k ≡ l) → ¬ (k ≡ suc l) → verdict_at m (added i l e p) k ≡ verdict_at m i k
    unfolding verdict_at
    added_verdict_other k a b d =
        rw (added_length, added_condition_other k a, added_entry_other k a, here) (grown_other l k (condition_at i k) (i.entries k) a b d)

    unused_at : (k : ℕ) → l ≤ k → k < m → condition_at i k ≡ Unused
    unfolding condition_at condition
    unused_at k a b = rw (s.tail k (omega (arith, here)) b)

    pub unused_verdict : suc l < m → verdict_at m i (suc l) ≡ 0
    unused_verdict h = verdict_unused m i (suc l) (unused_at (suc l) (omega arith) h) ∙ rw (here, ne_eqb (suc l) l (λ q. omega arith))

    -- what is now the first unused slot
    pub added_verdict_next : suc l < m → verdict_at m (added i l e p) (suc l) ≡ cond (is_fresh (i.entries (suc l))) 0 5
    added_verdict_next h =
        let d : ¬ (suc l ≡ l) = λ z. omega arith in
        verdict_unused m (added i l e p) (suc l) (added_condition_other (suc l) d ∙ unused_at (suc l) (omega arith) h)
        ∙ rw (added_length, eq-eqb (suc l) (suc l) refl, added_entry_other (suc l) d) (turn (is_fresh (i.entries (suc l))))
      where
        turn : (f : Bool) → ◌≡◌ {A = ℕ} (cond (true && not f) 5 0) (cond f 0 5)
        turn true = refl
        turn false = refl
