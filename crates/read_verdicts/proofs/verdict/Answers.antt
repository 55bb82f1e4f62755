-- `verdict` goes by the condition; of what is faulty or unused, by the entry too.
use Rattle.std.proofs.Common.{rules}
use mathlib.Core.Logic.{◌⊎◌, inl, inr}
use mathlib.Core.Path.{◌≡◌, refl, sym}
use Prim.Native.Nat.{ℕ}
use Rattle.record.specs.Meaning.{Entry}
use Rattle.image.specs.declared.condition.Condition.{Condition}
use Rattle.image.specs.Verdict.{verdict_of}
use Rattle.image.specs.declared.condition.Condition.TheVariants.{Lost, RecordOnly}
use Rattle.read_verdicts.proofs.verdict.Goals as goal

pub returns-in-Whole : goal.returns-in-Whole
unfolding verdict_of
returns-in-Whole c = search rules

pub returns-in-RecordLost : goal.returns-in-RecordLost
unfolding verdict_of
returns-in-RecordLost c = search rules

-- a slot that is lost, or of a witness, has no verdict of its own
lost_none : (used k : ℕ) (condition : Condition) (x : Entry) → (condition ≡ Lost) ⊎ (condition ≡ RecordOnly) → 0 ≡ verdict_of used k condition x
unfolding verdict_of
lost_none used k condition x (inl e) = sym (rw e refl)
lost_none used k condition x (inr e) = sym (rw e refl)

pub returns-in-Lost : goal.returns-in-Lost
returns-in-Lost c =
    λ i card. lost_none _ _ _ _ c.in-Lost.is
