-- Verdict bytes and conditions: each verdict of documents 01 and 02 has its sentence.
use Prim.Native.Nat.{ℕ, suc, ◌≤◌}
use mathlib.Core.Path.{◌≡◌, refl, sym}
use mathlib.Core.Bool.{Bool, true, false, cond, not, ◌&&◌, ◌||◌}
use native.Mathlib.Omega.{arith}
use lib.Dec.{eqb}
use borrow.Author.Tests.{eqb-true, eqb-false}
use Rattle.slices.specs.Parts.{Bytes}
use Rattle.record.specs.Meaning.{Record, good, blank, bad, Entry, intact, broken}
use Rattle.image.specs.Image.{Image}
use Rattle.image.specs.View.{condition, epoch_of, condition_at, epoch_at, log_length}
use Rattle.image.specs.declared.condition.Condition.{Condition}
use Rattle.image.specs.declared.condition.Condition.TheVariants.{Unused, Whole, RecordLost, Faulty, Lost, RecordOnly}
use Rattle.image.specs.Verdict.{is_fresh, verdict_of, verdict_at}
use Rattle.image.specs.Read.{is_whole}

-- what each verdict says of slot k of a log of so many slots, whose entry is x: its condition, and what was tested
pub data Says (len k : ℕ) (x : Entry) : Condition → ℕ → Type 0 where
  says_whole : Says len k x Whole 1
  says_record_lost : Says len k x RecordLost 2
  says_stale : (e : ℕ) (p : Bytes) → x ≡ intact e p → Says len k x Faulty 6
  says_doubtful : (b : Bytes) → x ≡ broken b → len ≡ suc k → Says len k x Faulty 4
  says_damaged : (b : Bytes) → x ≡ broken b → Says len k x Faulty 3
  says_unfinished : Says len k x Unused 5
  says_unused : Says len k x Unused 0
  says_lost : Says len k x Lost 0
  says_record_only : Says len k x RecordOnly 0

says : (len k : ℕ) (a : Condition) (x : Entry) → Says len k x a (verdict_of len k a x)
unfolding verdict_of
says len k Whole x = says_whole
says len k RecordLost x = says_record_lost
says len k Faulty (intact e p) = says_stale e p refl
says len k Faulty (broken b) = go (eqb (suc k) len) refl
  where
    go : (t : Bool) → eqb (suc k) len ≡ t → Says len k (broken b) Faulty (cond t 4 3)
    go true h = says_doubtful b refl (sym (eqb-true (suc k) len h))
    go false h = says_damaged b refl
says len k Unused x = go (eqb k len && not (is_fresh x))
  where
    go : (t : Bool) → Says len k x Unused (cond t 5 0)
    go true = says_unfinished
    go false = says_unused
says len k Lost x = says_lost
says len k RecordOnly x = says_record_only

pub verdict_says : (m : ℕ) (i : Image) (k : ℕ) → Says (log_length m i) k (i.entries k) (condition_at i k) (verdict_at m i k)
unfolding verdict_at
verdict_says m i k = says (log_length m i) k (condition_at i k) (i.entries k)

-- ---- from a verdict

module _ {len k : ℕ} {x : Entry} where
  -- whole are verdicts 1 and 2
  whole_is : {a : Condition} {v : ℕ} → Says len k x a v → is_whole a ≡ (eqb v 1 || eqb v 2)
  unfolding is_whole
  whole_is says_whole = refl
  whole_is says_record_lost = refl
  whole_is (says_stale e p q) = refl
  whole_is (says_doubtful b q l) = refl
  whole_is (says_damaged b q) = refl
  whole_is says_unfinished = refl
  whole_is says_unused = refl
  whole_is says_lost = refl
  whole_is says_record_only = refl

  one_is : {a : Condition} {v : ℕ} → Says len k x a v → v ≡ 1 → a ≡ Whole
  one_is says_whole h = refl
  one_is says_record_lost h = absurd (omega (arith, h))
  one_is (says_stale e p q) h = absurd (omega (arith, h))
  one_is (says_doubtful b q l) h = absurd (omega (arith, h))
  one_is (says_damaged b q) h = absurd (omega (arith, h))
  one_is says_unfinished h = absurd (omega (arith, h))
  one_is says_unused h = absurd (omega (arith, h))
  one_is says_lost h = absurd (omega (arith, h))
  one_is says_record_only h = absurd (omega (arith, h))

  six_is : {a : Condition} {v : ℕ} → Says len k x a v → v ≡ 6 → (a ≡ Faulty) × ((e : ℕ) × (p : Bytes) × (x ≡ intact e p))
  six_is says_whole h = absurd (omega (arith, h))
  six_is says_record_lost h = absurd (omega (arith, h))
  six_is (says_stale e p q) h = (refl, (e, p, q))
  six_is (says_doubtful b q l) h = absurd (omega (arith, h))
  six_is (says_damaged b q) h = absurd (omega (arith, h))
  six_is says_unfinished h = absurd (omega (arith, h))
  six_is says_unused h = absurd (omega (arith, h))
  six_is says_lost h = absurd (omega (arith, h))
  six_is says_record_only h = absurd (omega (arith, h))

  four_is : {a : Condition} {v : ℕ} → Says len k x a v → v ≡ 4 → (a ≡ Faulty) × (len ≡ suc k)
  four_is says_whole h = absurd (omega (arith, h))
  four_is says_record_lost h = absurd (omega (arith, h))
  four_is (says_stale e p q) h = absurd (omega (arith, h))
  four_is (says_doubtful b q l) h = (refl, l)
  four_is (says_damaged b q) h = absurd (omega (arith, h))
  four_is says_unfinished h = absurd (omega (arith, h))
  four_is says_unused h = absurd (omega (arith, h))
  four_is says_lost h = absurd (omega (arith, h))
  four_is says_record_only h = absurd (omega (arith, h))

  -- 3 and 4 are said of an entry that is not intact
  noise_is : {a : Condition} {v : ℕ} → Says len k x a v → 3 ≤ v → v ≤ 4 → (b : Bytes) × (x ≡ broken b)
  noise_is says_whole l u = absurd (omega arith)
  noise_is says_record_lost l u = absurd (omega arith)
  noise_is (says_stale e p q) l u = absurd (omega arith)
  noise_is (says_doubtful b q h) l u = (b, q)
  noise_is (says_damaged b q) l u = (b, q)
  noise_is says_unfinished l u = absurd (omega arith)
  noise_is says_unused l u = absurd (omega arith)
  noise_is says_lost l u = absurd (omega arith)
  noise_is says_record_only l u = absurd (omega arith)

-- ---- a faulty slot

faulty_beside : (r : Record) (x : Entry) → condition r x ≡ Faulty → (r ≡ good (epoch_of r x)) × ((q : Bytes) → ¬ (x ≡ intact (epoch_of r x) q))
unfolding condition epoch_of
faulty_beside (good e) (intact f p) h = (refl, λ q y. go (eqb e f) refl h (let z : e ≡ f = cc in z))
  where
    go : (t : Bool) → eqb e f ≡ t → cond t Whole Faulty ≡ Faulty → e ≡ f → ⊥
    go true t h z = let w : ◌≡◌ {A = ℕ} 0 1 = cc in omega arith
    go false t h z = eqb-false e f t z
faulty_beside (good e) (broken b) h = (refl, λ q y. let z : ◌≡◌ {A = ℕ} 0 1 = cc in omega arith)
faulty_beside blank x h = absurd (let z : ◌≡◌ {A = ℕ} 0 1 = cc in omega arith)
faulty_beside (bad b) (intact f p) h = absurd (let z : ◌≡◌ {A = ℕ} 0 1 = cc in omega arith)
faulty_beside (bad b) (broken d) h = absurd (let z : ◌≡◌ {A = ℕ} 0 1 = cc in omega arith)

-- ---- an image's slots

module _ (m : ℕ) (i : Image) (k : ℕ) where
  pub whole_verdict : is_whole (condition_at i k) ≡ (eqb (verdict_at m i k) 1 || eqb (verdict_at m i k) 2)
  whole_verdict = whole_is (verdict_says m i k)

  pub verdict_whole : condition_at i k ≡ Whole → verdict_at m i k ≡ 1
  unfolding verdict_at verdict_of
  verdict_whole e = rw e

  pub verdict_lost : condition_at i k ≡ RecordLost → verdict_at m i k ≡ 2
  unfolding verdict_at verdict_of
  verdict_lost e = rw e

  -- stale, whatever the epoch of the intact entry
  pub verdict_stale : (e : ℕ) (p : Bytes) → condition_at i k ≡ Faulty → i.entries k ≡ intact e p → verdict_at m i k ≡ 6
  unfolding verdict_at verdict_of
  verdict_stale e p a x = rw (a, x)

  -- damaged, or at the last used slot doubtful
  pub verdict_noise : (b : Bytes) → condition_at i k ≡ Faulty → i.entries k ≡ broken b → verdict_at m i k ≡ cond (eqb (suc k) (log_length m i)) 4 3
  unfolding verdict_at verdict_of
  verdict_noise b a x = rw (a, x)

  pub verdict_unused : condition_at i k ≡ Unused → verdict_at m i k ≡ cond (eqb k (log_length m i) && not (is_fresh (i.entries k))) 5 0
  unfolding verdict_at verdict_of
  verdict_unused e = rw e

  -- a faulty slot's record is good, and its entry not intact with that record's epoch
  pub faulty_slot : condition_at i k ≡ Faulty → (i.records k ≡ good (epoch_at i k)) × ((q : Bytes) → ¬ (i.entries k ≡ intact (epoch_at i k) q))
  unfolding condition_at epoch_at
  faulty_slot h = faulty_beside (i.records k) (i.entries k) h

  pub is_stored : verdict_at m i k ≡ 1 → condition_at i k ≡ Whole
  is_stored = one_is (verdict_says m i k)

  pub is_stale : verdict_at m i k ≡ 6 → (condition_at i k ≡ Faulty) × ((e : ℕ) × (p : Bytes) × (i.entries k ≡ intact e p))
  is_stale = six_is (verdict_says m i k)

  pub is_doubtful : verdict_at m i k ≡ 4 → (condition_at i k ≡ Faulty) × (log_length m i ≡ suc k)
  is_doubtful = four_is (verdict_says m i k)

  pub is_noise : (v : ℕ) → 3 ≤ v → v ≤ 4 → verdict_at m i k ≡ v → (e : ℕ) (p : Bytes) → ¬ (i.entries k ≡ intact e p)
  is_noise v l u h e p x =
      let (b, q) = noise_is (verdict_says m i k) (omega arith) (omega arith) in
      let z : ◌≡◌ {A = ℕ} 0 1 = cc in
      omega arith
