-- For proofs only. A survey: what is seen of each replica, in numbers. Slot k of replica c stands at c * 64 + k.
use Rattle.std.specs.Prelude.{ℕ, zero, suc, pred, ◌+◌, ◌*◌, ◌<◌, ◌≤◌, ◌≡◌, Bool, true, false, cond, not, ◌&&◌, ◌||◌, List, eqb, ltb, length, get_or, take}
use Rattle.search.specs.Search.{all}
use Rattle.record.specs.declared.Shape.{Shape}
use Rattle.image.specs.View.{View}
use Rattle.image.specs.declared.condition.Condition.{Condition}
use Rattle.image.specs.declared.condition.Condition.TheVariants.{Unused, Whole, RecordLost, Faulty, Lost, RecordOnly}
use Rattle.image.specs.Refusal.{refuse}
use Rattle.image.specs.View.{condition_number, is_replica}
use Rattle.slices.specs.Parts.{Bytes}
use Rattle.search.specs.Sets.{has}
use Rattle.planner.specs.Setting.{Setting, setting_of, witness}
use Rattle.planner.specs.Rules.{rule, donor, is_truncate, end, first_waiting, same_firsts}
use Rattle.planner.specs.Plan.{views_in, rule_byte, plan_bytes}
use Rattle.planner.specs.declared.Survey.{Survey}
use Rattle.planner.specs.declared.Plan.{Plan}

-- the numbers of the readable replicas below n are those of the views W, in m slots
pub record Surveyed (n m : ℕ) (W : ℕ → View) (readable : ℕ) (firsts lengths conditions epochs : List ℕ) : Type 0 where
  pub readable_is : (c : ℕ) → c < n → has readable c ≡ (W c).readable
  pub first_is : (c : ℕ) → c < n → (W c).readable ≡ true → get_or firsts c 0 ≡ (W c).first
  pub length_is : (c : ℕ) → c < n → (W c).readable ≡ true → get_or lengths c 0 ≡ (W c).length
  pub condition_is : (c k : ℕ) → c < n → k < m → (W c).readable ≡ true → get_or conditions (c * 64 + k) 0 ≡ condition_number ((W c).condition k)
  pub epoch_is : (c k : ℕ) → c < n → k < m → (W c).readable ≡ true → get_or epochs (c * 64 + k) 0 ≡ (W c).epoch k

-- k of what is seen of replica c stands at its slots, and what stood below them stands
pub record Copied (c : ℕ) (old : List ℕ) (seen : ℕ → ℕ) (new : List ℕ) (k : ℕ) : Type 0 where
  pub same_size : length new ≡ length old
  pub here : (j : ℕ) → j < k → get_or new (c * 64 + j) 0 ≡ seen j
  pub below : (i : ℕ) → i < c * 64 → get_or new i 0 ≡ get_or old i 0

-- the condition of a number
unfoldable pub condition_from : ℕ → Condition
condition_from zero = Unused
condition_from (suc zero) = Whole
condition_from (suc (suc zero)) = RecordLost
condition_from (suc (suc (suc zero))) = Faulty
condition_from (suc (suc (suc (suc zero)))) = Lost
condition_from (suc (suc (suc (suc (suc x))))) = RecordOnly

-- the number of a condition, as it is seen of a witness or of a card (`condition_as`)
unfoldable pub number_as : Bool → ℕ → ℕ
number_as witness x = cond (witness && (not (eqb x 0) && not (eqb x 4))) 5 x

-- refusal 12, by the readable set and the witnesses: the leader's number is out of range, or the replica may not lead
unfoldable pub leader_test : ℕ → ℕ → ℕ → ℕ → ℕ
leader_test readable witnesses n leading = refuse 12 (not (is_replica n leading && (has readable (pred leading) && not (has witnesses (pred leading)))))

-- every readable replica below n has the leader's first index
unfoldable pub same_numbers : ℕ → ℕ → ℕ → List ℕ → Bool
same_numbers n leader readable firsts = all (λ c. not (has readable c) || eqb (get_or firsts c 0) (get_or firsts leader 0)) n

-- n replicas and their leader, from 0
unfoldable pub survey_setting : ℕ → ℕ → Setting
survey_setting n leader = record { shape = record { n = n; m = 64; edition = 1; witnesses = 0 }; leader = leader; present = λ c. true }

-- what a survey's numbers say, where the leader's log is so long. The rules of a slot look at no first index: any will do
unfoldable pub survey_views : ℕ → ℕ → List ℕ → List ℕ → ℕ → View
survey_views l readable conditions epochs c = record {
  readable = has readable c;
  first = 1;
  length = l;
  condition = λ k. condition_from (get_or conditions (c * 64 + k) 0);
  epoch = λ k. get_or epochs (c * 64 + k) 0;
}

-- slot k of replica c is used under the leader's epoch
unfoldable pub agrees_at : List ℕ → List ℕ → ℕ → ℕ → ℕ → Bool
agrees_at conditions epochs leader c k =
    not (eqb (get_or conditions (c * 64 + k) 0) 0) && eqb (get_or epochs (c * 64 + k) 0) (get_or epochs (leader * 64 + k) 0)

-- the plan byte of a slot that is not behind the end of the log
unfoldable pub slot_byte : Setting → (ℕ → View) → ℕ → ℕ
slot_byte S W k = rule_byte (rule S W k) ((W S.leader).condition k) (donor S W k)

-- a walk over the leader's slots came to slot k: none below it is truncated, and their bytes are right
pub record Walked (S : Setting) (W : ℕ → View) (bytes : List ℕ) (k : ℕ) : Type 0 where
  pub sized : length bytes ≡ 64
  pub standing : (j : ℕ) → j < k → is_truncate (rule S W j) ≡ false
  pub passed : (j : ℕ) → j < k → get_or bytes j 0 ≡ slot_byte S W j
  pub ahead : (j : ℕ) → k ≤ j → get_or bytes j 0 ≡ 0

-- the bytes of a walk that came to its end, with 4 there and 5 behind it
unfoldable pub marked_byte : List ℕ → ℕ → ℕ → ℕ → ℕ
marked_byte bytes e l k = cond (ltb k e) (get_or bytes k 0) (cond (ltb k l) (cond (eqb k e) 4 5) (get_or bytes k 0))

-- a survey is that of the views W, in which the leader is readable, no witness, and all that are readable have its first index
pub record SurveyOf (S : Setting) (W : ℕ → View) (n leader readable : ℕ) (firsts lengths conditions epochs : List ℕ) : Type 0 where
  pub n_is : S.shape.n ≡ n
  pub leader_is : S.leader ≡ leader
  pub few : n ≤ 7
  pub leader_below : leader < n
  pub slots_fit : S.shape.m ≤ 64
  pub leader_reads : (W leader).readable ≡ true
  pub leader_card : witness S leader ≡ false
  pub same_firsts_lem : same_firsts S W ≡ true
  pub logs_fit : (c : ℕ) → (W c).length ≤ S.shape.m
  pub surveyed : Surveyed n S.shape.m W readable firsts lengths conditions epochs

-- the plan of the views W
pub record Planned (S : Setting) (W : ℕ → View) (bytes : List ℕ) (final waiting : ℕ) : Type 0 where
  pub sized : length bytes ≡ 64
  pub bytes_are : take S.shape.m bytes ≡ plan_bytes S W
  pub end_is : final ≡ end S W
  pub waiting_is : waiting ≡ first_waiting S W

-- the same of the code's structs
abbrev pub SurveyIs : Setting → (ℕ → View) → ℕ → ℕ → Survey → Type 0
SurveyIs S W n leader s = SurveyOf S W n leader s.readable s.firsts s.lengths s.conditions s.epochs

abbrev pub PlanIs : Setting → (ℕ → View) → Plan → Type 0
PlanIs S W p = Planned S W p.bytes p.end p.waiting

-- what a call that is not refused begins with: the survey of the cluster, the leader counted from 0, and the plan
pub record Opened (Z : Shape) (number present : ℕ) (b : Bytes) (leader : ℕ) (s : Survey) (p : Plan) : Type 0 where
  pub survey_is : SurveyIs (setting_of Z number present) (views_in (setting_of Z number present) b) Z.n leader s
  pub plan_is : PlanIs (setting_of Z number present) (views_in (setting_of Z number present) b) p
