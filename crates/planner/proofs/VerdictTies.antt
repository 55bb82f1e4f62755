-- The planner's words and the verdicts: faulty are 3, 4 and 6, used 1 to 4 and 6.
use Prim.Native.Nat.{ℕ}
use mathlib.Core.Path.{◌≡◌, refl}
use mathlib.Core.Bool.{Bool, true, false, cond, ◌&&◌, ◌||◌}
use lib.Dec.{eqb, leb}
use Rattle.image.specs.Image.{Image}
use Rattle.record.specs.Meaning.{Record, good, blank, bad, Entry, intact, broken}
use Rattle.image.specs.View.{is_lost, condition, condition_at, log_length}
use Rattle.image.specs.declared.condition.Condition.{Condition}
use Rattle.image.specs.declared.condition.Condition.TheVariants.{Whole, Faulty}
use Rattle.image.specs.Verdict.{verdict_at}
use Rattle.image.proofs.VerdictLaws.{Says, says_whole, says_record_lost, says_stale, says_doubtful, says_damaged, says_unfinished, says_unused, says_lost, says_record_only, verdict_says}
use Rattle.planner.specs.Rules.{is_faulty, is_record_only, is_used}

-- only what is seen of a witness is so: no record and entry are
pub not_record_only : (r : Record) (x : Entry) → is_record_only (condition r x) ≡ false
unfolding is_record_only condition
not_record_only (good e) (intact f p) = go (eqb e f)
  where
    go : (t : Bool) → is_record_only (cond t Whole Faulty) ≡ false
    go true = refl
    go false = refl
not_record_only (good e) (broken b) = refl
not_record_only blank x = refl
not_record_only (bad b) (intact e p) = refl
not_record_only (bad b) (broken d) = refl

module _ (m : ℕ) (i : Image) (k : ℕ) where
  faulty_is : {a : Condition} {v : ℕ} → Says (log_length m i) k (i.entries k) a v → is_faulty a ≡ (eqb v 3 || eqb v 4 || eqb v 6)
  unfolding is_faulty
  faulty_is says_whole = refl
  faulty_is says_record_lost = refl
  faulty_is (says_stale e p q) = refl
  faulty_is (says_doubtful b q l) = refl
  faulty_is (says_damaged b q) = refl
  faulty_is says_unfinished = refl
  faulty_is says_unused = refl
  faulty_is says_lost = refl
  faulty_is says_record_only = refl

  used_is : {a : Condition} {v : ℕ} → Says (log_length m i) k (i.entries k) a v → is_lost a ≡ false → is_record_only a ≡ false → is_used a ≡ (leb 1 v && leb v 4 || eqb v 6)
  unfolding is_used is_lost is_record_only
  used_is says_whole h o = refl
  used_is says_record_lost h o = refl
  used_is (says_stale e p q) h o = refl
  used_is (says_doubtful b q l) h o = refl
  used_is (says_damaged b q) h o = refl
  used_is says_unfinished h o = refl
  used_is says_unused h o = refl
  used_is says_lost h o = h
  used_is says_record_only h o = o

  pub faulty_verdict : is_faulty (condition_at i k) ≡ (eqb (verdict_at m i k) 3 || eqb (verdict_at m i k) 4 || eqb (verdict_at m i k) 6)
  faulty_verdict = faulty_is (verdict_says m i k)

  pub used_verdict : is_lost (condition_at i k) ≡ false
      → is_used (condition_at i k) ≡ (leb 1 (verdict_at m i k) && leb (verdict_at m i k) 4 || eqb (verdict_at m i k) 6)
  unfolding condition_at
  used_verdict h = used_is (verdict_says m i k) h (not_record_only (i.records k) (i.entries k))
