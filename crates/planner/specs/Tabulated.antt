-- For proofs only. What stands between a survey's numbers and the planner's answer and table.
use Rattle.std.specs.Prelude.{ℕ, suc, ◌+◌, ◌*◌, ◌-◌, ◌≡◌, cond, List, ◌++◌, eqb, ltb, length, get_or, take, drop}
use Rattle.image.specs.View.{View}
use Rattle.image.specs.Answers.{Numbered, value}
use Rattle.search.specs.Sets.{has}
use Rattle.planner.specs.Setting.{Setting}
use Rattle.planner.specs.Rules.{answer}
use Rattle.planner.specs.declared.PlanAnswer.{PlanAnswer}
use Rattle.planner.specs.declared.ReplicaRow.{ReplicaRow}
use Rattle.planner.specs.Answers.{plan_numbers, plan_numbered, rows_of}

-- the answer of a plan with this end and this lowest waiting slot
unfoldable pub answer_at : ℕ → ℕ → Numbered (ℕ × ℕ)
answer_at e w = cond (ltb w e) (value (1, suc w)) (value (0, e))

unfoldable pub no_row : ReplicaRow
no_row = record { readable = 0; length = 0; last_epoch = 0 }

-- the rows, the first k of them anew
unfoldable pub front_rows : ℕ → List ReplicaRow → List ReplicaRow → List ReplicaRow
front_rows k new old = take k new ++ drop k old

-- the same from a survey's numbers
unfoldable pub last_epoch : List ℕ → ℕ → ℕ → ℕ
last_epoch epochs c l = cond (eqb l 0) 0 (get_or epochs (c * 64 + l - 1) 0)

unfoldable pub number_row : ℕ → List ℕ → List ℕ → ℕ → ReplicaRow
number_row readable lengths epochs c =
    cond (has readable c) (record { readable = 1; length = get_or lengths c 0; last_epoch = last_epoch epochs c (get_or lengths c 0) }) no_row

-- what the planner found: its answer, how many rows there are to fill, and the rows
pub record Outcome (refusal : ℕ) (S : Setting) (W : ℕ → View) (a : PlanAnswer) (count : ℕ) (rows : List ReplicaRow) : Type 0 where
  pub sized : length rows ≡ 7
  pub answer_is : plan_numbers a ≡ plan_numbered refusal (answer S W)
  pub count_is : count ≡ cond (eqb refusal 0) S.shape.n 0
  pub rows_are : refusal ≡ 0 → take S.shape.n rows ≡ rows_of S W
