-- The planner's call: its refusal, its answer in document 01's numbers, the plan bytes and the rows of the table.
use Rattle.std.specs.Prelude.{ℕ, suc, ◌+◌, ◌^◌, ◌-◌, cond, not, ◌&&◌, eqb, leb, ltb, length}
use Rattle.search.specs.Search.{listed}
use Rattle.slices.specs.Parts.{Bytes}
use Rattle.record.specs.declared.Shape.{Shape}
use Rattle.image.specs.Refusal.{refuse, ◌else◌}
use Rattle.image.specs.View.{condition_number, View, is_size, is_replica, is_slots, is_edition}
use Rattle.image.specs.declared.condition.Condition.{Condition}
use Rattle.image.specs.Cluster.{decode, image_at}
use Rattle.planner.specs.Setting.{Setting, setting_of, views_of}
use Rattle.planner.specs.Rules.{Rule, Keep, Fetch, Truncate, Wait, rule, donor, end, may_lead, same_firsts}

-- what is seen of the cluster in a buffer
unfoldable pub views_in : Setting → Bytes → ℕ → View
views_in S b = views_of S (decode S.shape b)

-- refusals 1, 2, 3, 11 and 22: what is known of a call before an image is read. 22 is a witness that is no replica (02, Seven)
unfoldable pub shape_refusal : Shape → ℕ → ℕ → ℕ
shape_refusal Z present size =
    refuse 1 (not (is_slots Z.m))
    else refuse 2 (not (is_size Z.n && is_edition Z.edition))
    else refuse 3 (not (eqb size (image_at Z Z.n)))
    else refuse 11 (not (ltb present (2 ^ Z.n)))
    else refuse 22 (not (ltb Z.witnesses (2 ^ Z.n)))

-- these, then 12, then 21: the refusals of planning, step and run, in the order in which they are tried
unfoldable pub cluster_refusal : Shape → ℕ → ℕ → Bytes → ℕ
cluster_refusal Z leading present b =
    shape_refusal Z present (length b)
    else refuse 12 (not (is_replica Z.n leading && may_lead (setting_of Z leading present) (views_in (setting_of Z leading present) b)))
    else refuse 21 (not (same_firsts (setting_of Z leading present) (views_in (setting_of Z leading present) b)))

-- 13, after all else that applies: the plan has not m bytes, or the table not n rows
unfoldable pub lent_refusal : ℕ → Shape → ℕ → ℕ → ℕ
lent_refusal refusal Z plan rows = refusal else refuse 13 (not (eqb plan Z.m && eqb rows Z.n))

unfoldable pub plan_refusal : Shape → ℕ → ℕ → Bytes → ℕ → ℕ → ℕ
plan_refusal Z leading present b plan rows = lent_refusal (cluster_refusal Z leading present b) Z plan rows

-- 0 unused, 1 whole, 2 record to be rewritten
unfoldable pub kept_byte : Condition → ℕ
kept_byte a = cond (leb (condition_number a) 2) (condition_number a) 0

-- 3 wait, 4 the lowest cut, 10 + c fetch from replica number c
unfoldable pub rule_byte : Rule → Condition → ℕ → ℕ
rule_byte Keep a d = kept_byte a
rule_byte Fetch a d = 10 + suc d
rule_byte Truncate a d = 4
rule_byte Wait a d = 3

-- 5 after the cut
unfoldable pub plan_byte : Setting → (ℕ → View) → ℕ → ℕ
plan_byte S W k =
    cond (ltb k (W S.leader).length)
    (cond (ltb (end S W) k) 5 (rule_byte (rule S W k) ((W S.leader).condition k) (donor S W k)))
    0

unfoldable pub plan_bytes : Setting → (ℕ → View) → Bytes
plan_bytes S W = listed S.shape.m (plan_byte S W)

-- 01's row for a replica: whether it is readable and present, its log's length and its last epoch, both 0 if not
unfoldable pub row_length : View → ℕ
row_length v = cond v.readable v.length 0

unfoldable pub row_epoch : View → ℕ
row_epoch v = cond v.readable (cond (eqb v.length 0) 0 (v.epoch (v.length - 1))) 0
