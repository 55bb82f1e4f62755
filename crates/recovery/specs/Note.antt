-- For proofs only. What is seen of the replicas once a store has been made, by what was seen of them before.
use Rattle.std.specs.Prelude.{ℕ, suc, ◌+◌, ◌*◌, ◌<◌, ◌≡◌, Bool, true, cond, ltb, length, set}
use Rattle.search.specs.Put.{put}
use Rattle.slices.specs.Parts.{Bytes}
use Rattle.record.specs.declared.Shape.{Shape}
use Rattle.image.specs.View.{View, condition_as}
use Rattle.image.specs.declared.condition.Condition.{Condition}
use Rattle.image.specs.declared.condition.Condition.TheVariants.{Unused, Whole}
use Rattle.planner.specs.Setting.{Setting, witness}
use Rattle.planner.specs.Rules.{Ready, answer, end}
use Rattle.planner.specs.Plan.{views_in}
use Rattle.planner.specs.Survey.{SurveyIs}
use Rattle.planner.specs.declared.Survey.{Survey}
use Rattle.protocol.specs.Store.{Store, store_entry, store_record, store_blank, store_replica, store_slot}
use Rattle.protocol.specs.Call.{Numbers, named, refusal_in}
use Rattle.recovery.specs.Answers.{numbers}

-- a view with a log so long, and slot k in this condition and epoch
unfoldable pub with_slot : View → ℕ → ℕ → Condition → ℕ → View
with_slot v k l a e = record { readable = v.readable; first = v.first; length = l; condition = put v.condition k a; epoch = put v.epoch k e }

-- an entry mends a used slot, and is not seen behind the log; a record mends a used slot, or is appended, and on a witness it is all there is
-- of one; a blanked record ends the log
unfoldable pub seen_after : Bool → Store → View → View
seen_after witness (store_entry c k d) v = cond (ltb k v.length) (with_slot v k v.length Whole (v.epoch k)) v
seen_after witness (store_record c k e) v = with_slot v k (cond (ltb k v.length) v.length (suc k)) (condition_as witness Whole) e
seen_after witness (store_blank c k) v = with_slot v k k Unused 0

-- the replicas' views, after a store on one of them
unfoldable pub views_after : Setting → Store → (ℕ → View) → ℕ → View
views_after S s W = put W (store_replica s) (seen_after (witness S (store_replica s)) s (W (store_replica s)))

-- r is the survey s but for replica c: its log is so long, and its slot k has condition number x and epoch e
pub record SlotSet (s r : Survey) (c k l x e : ℕ) : Type 0 where
  pub readables : r.readable ≡ s.readable
  pub firsts : r.firsts ≡ s.firsts
  pub lengths : r.lengths ≡ set s.lengths c l
  pub conditions : r.conditions ≡ set s.conditions (c * 64 + k) x
  pub epochs : r.epochs ≡ set s.epochs (c * 64 + k) e
  pub lengths_sized : length s.lengths ≡ 7
  pub conditions_sized : length s.conditions ≡ 448
  pub epochs_sized : length s.epochs ≡ 448

-- a survey of the replicas of this shape, for whatever views it was one, is r once the store is made
abbrev pub Noted : Shape → Store → Survey → Survey → Type 0
Noted Z t s r =
    (S : Setting) (W : ℕ → View) (n leader : ℕ) → S.shape ≡ Z → store_replica t < n → store_slot t < S.shape.m → (W (store_replica t)).readable ≡ true
    → SurveyIs S W n leader s → SurveyIs S (views_after S t W) n leader r

-- a survey of a cluster that is not refused, and whose plan is ready; the leader counts from 0
pub record ReadySurvey (N : Numbers) (b : Bytes) (leader : ℕ) (s : Survey) : Type 0 where
  pub accepts : refusal_in N b ≡ 0
  pub sees : SurveyIs (named N) (views_in (named N) b) N.shape.n leader s
  pub ready : answer (named N) (views_in (named N) b) ≡ Ready (end (named N) (views_in (named N) b))

-- a ready survey of a call of this shape, its leader counted from 0, whatever the leader's number and the present set were
pub record SomeReadySurvey (Z : Shape) (leader : ℕ) (b : Bytes) (s : Survey) : Type 0 where
  pub leading : ℕ
  pub present : ℕ
  pub is : ReadySurvey (numbers Z leading present) b leader s
