-- Document 01, "The printing program": all that is printed, for every input.
use Rattle.std.specs.Prelude.{ℕ, suc, ◌≤◌, ◌≡◌, cond, [], ◌∷◌, ◌++◌, eqb, ltb, length, take, drop}
use Rattle.search.specs.Search.{joined}
use Rattle.slices.specs.Parts.{Bytes}
use Rattle.column.specs.Column.{column}
use Rattle.record.specs.declared.Shape.{Shape}
use Rattle.image.specs.View.{View}
use Rattle.planner.specs.Setting.{Setting, setting_of}
use Rattle.planner.specs.Rules.{Answer, Refused, Waiting, Ready, answer}
use Rattle.planner.specs.Plan.{views_in, cluster_refusal, plan_byte}
use Rattle.report.specs.Command.{command_line, present_of}
use Rattle.report.specs.declared.Command.{Command}
use Rattle.report.specs.declared.Command.TheVariants.{Well, Malformed}

-- the seven bytes `refused`
abbrev pub refused_word : Bytes
refused_word = 114 ∷ 101 ∷ 102 ∷ 117 ∷ 115 ∷ 101 ∷ 100 ∷ []

-- `refused` and the number, 4 wide, alone
unfoldable pub refused_line : ℕ → Bytes
refused_line r = refused_word ++ (column 4 r ++ (10 ∷ []))

-- n, leader (01's lead), status and the answer's number, each 4 wide
unfoldable pub head_line : ℕ → ℕ → ℕ → ℕ → Bytes
head_line n leader status number = column 4 n ++ (column 4 leader ++ (column 4 status ++ (column 4 number ++ (10 ∷ []))))

-- slot (01's place, 4 wide, from 1), epoch (11), plan byte (4)
unfoldable pub slot_line : ℕ → ℕ → ℕ → Bytes
slot_line k e p = column 4 (suc k) ++ (column 11 e ++ (column 4 p ++ (10 ∷ [])))

-- 0 ready with the final length, 1 waiting with the lowest waiting slot
unfoldable pub status_of : Answer → ℕ
status_of (Ready length) = 0
status_of (Waiting k) = 1
status_of Refused = 0

unfoldable pub number_of : Answer → ℕ
number_of (Ready length) = length
number_of (Waiting k) = suc k
number_of Refused = 0

-- a line for each used slot of the leader
unfoldable pub slot_lines : Setting → (ℕ → View) → Bytes
slot_lines S W = joined (W S.leader).length (λ k. slot_line k ((W S.leader).epoch k) (plan_byte S W k))

unfoldable pub plan_lines : ℕ → ℕ → Setting → (ℕ → View) → Bytes
plan_lines n leader S W = head_line n leader (status_of (answer S W)) (number_of (answer S W)) ++ slot_lines S W

-- of a cluster: the plan, or the refusal of planning
unfoldable pub cluster_report : Shape → ℕ → ℕ → Bytes → Bytes
cluster_report Z leader present b =
    cond (eqb (cluster_refusal Z leader present b) 0)
    (plan_lines Z.n leader (setting_of Z leader present) (views_in (setting_of Z leader present) b))
    (refused_line (cluster_refusal Z leader present b))

-- the printing program stays with edition 1 (02, Six), and knows of no witnesses
abbrev pub first_edition : ℕ → ℕ → Shape
first_edition n m = record { n = n; m = m; edition = 1; witnesses = 0 }

-- a command line that is not well formed is refused by 14
unfoldable pub command_report : Command → Bytes → Bytes
command_report (Well n m leader set) b = cluster_report (first_edition n m) leader (present_of n leader set) b
command_report Malformed b = refused_line 14

-- input over 65,536 bytes is refused by 3, before all else
unfoldable pub report_of : Bytes → Bytes
report_of b = cond (ltb 65536 (length b)) (refused_line 3) (command_report (command_line b) (drop 14 b))

-- so many bytes at the front of a page are these
pub record Prints (x page : Bytes) (count : ℕ) : Type 0 where
  pub fits : count ≤ length page
  pub bytes : take count page ≡ x
