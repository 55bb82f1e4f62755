-- What documents 01 and 02 (Ten) say of the set's column, as a claim that the check demands.
use Rattle.std.specs.Prelude.{ℕ, pred, ◌+◌, ◌^◌, ◌≤◌, ◌<◌, ◌≡◌, true, false, cond, not, [], ◌∷◌, ◌++◌, eqb, length, replicate}
use Rattle.slices.specs.Parts.{Bytes}
use Rattle.column.specs.Column.{column}
use Rattle.record.specs.declared.Shape.{Shape}
use Rattle.image.specs.Refusal.{refuse, ◌else◌}
use Rattle.image.specs.View.{is_size, is_replica, is_slots}
use Rattle.image.specs.Cluster.{image_at}
use Rattle.search.specs.Sets.{has}
use Rattle.planner.specs.Setting.{Setting, setting_of}
use Rattle.planner.specs.Rules.{is_faulty, end}
use Rattle.planner.specs.Plan.{views_in, kept_byte, plan_byte}
use Rattle.report.specs.Report.{refused_line, cluster_report, report_of}

-- an input: n, m and the leader's number, the four bytes of the set, a newline, and the cluster
unfoldable pub input_of : Shape → ℕ → Bytes → Bytes → Bytes
input_of Z leader set b = (column 3 Z.n ++ (column 3 Z.m ++ (column 3 leader ++ (set ++ (10 ∷ []))))) ++ b

-- the set's column left blank
abbrev pub blank_set : Bytes
blank_set = replicate 4 32

-- the shape is of edition 1 without witnesses, the numbers fit their columns, and the input is at most 65,536 bytes long
pub record Writable (Z : Shape) (leader : ℕ) (b : Bytes) : Type 0 where
  pub edition_one : Z.edition ≡ 1
  pub no_witnesses : Z.witnesses ≡ 0
  pub n_fits : Z.n < 1000
  pub m_fits : Z.m < 1000
  pub leader_fits : leader < 1000
  pub cluster_fits : 14 + length b ≤ 65536

-- 1, 2 or 3 where one applies, else r
unfoldable pub after_shape : Shape → Bytes → ℕ → ℕ
after_shape Z b r = refuse 1 (not (is_slots Z.m)) else refuse 2 (not (is_size Z.n)) else refuse 3 (not (eqb (length b) (image_at Z Z.n))) else r

-- the leader and nobody else
abbrev pub alone : Shape → ℕ → Setting
alone Z leader = setting_of Z leader (2 ^ pred leader)

pub record SetClaim : Type 0 where
  -- a set in full is the present set
  pub full : (Z : Shape) (leader w : ℕ) (b : Bytes) → Writable Z leader b → w < 10000
      → report_of (input_of Z leader (column 4 w) b) ≡ cluster_report Z leader w b
  -- a blank one is printed like the leader's own bit in full, for any bytes of a cluster, and that bit is no other replica's
  pub blank : (Z : Shape) (leader : ℕ) (b : Bytes) → Writable Z leader b → is_size Z.n ≡ true → is_replica Z.n leader ≡ true
      → report_of (input_of Z leader blank_set b) ≡ report_of (input_of Z leader (column 4 (2 ^ pred leader)) b)
  pub only : (leader c : ℕ) → has (2 ^ pred leader) c ≡ eqb c (pred leader)
  -- a leader that is not 1 to n is then 12, whatever number its column holds: 1, 2 and 3 come before, and 11 never
  pub no_leader : (Z : Shape) (leader : ℕ) (b : Bytes) → Writable Z leader b → is_replica Z.n leader ≡ false
      → report_of (input_of Z leader blank_set b) ≡ refused_line (after_shape Z b 12)
  -- a set in full with a bit for no replica is 11, whoever leads, behind 1, 2 and 3
  pub stray : (Z : Shape) (leader w : ℕ) (b : Bytes) → Writable Z leader b → w < 10000 → 2 ^ Z.n ≤ w
      → report_of (input_of Z leader (column 4 w) b) ≡ refused_line (after_shape Z b 11)
  -- the leader alone cuts and fetches nothing: its log ends where it ended, each faulty slot waits, and each other is kept
  pub uncut : (Z : Shape) (leader : ℕ) (b : Bytes) → is_size Z.n ≡ true
      → end (alone Z leader) (views_in (alone Z leader) b) ≡ (views_in (alone Z leader) b (pred leader)).length
  pub waits : (Z : Shape) (leader : ℕ) (b : Bytes) (k : ℕ) → is_size Z.n ≡ true → k < (views_in (alone Z leader) b (pred leader)).length
      → plan_byte (alone Z leader) (views_in (alone Z leader) b) k
      ≡ cond (is_faulty ((views_in (alone Z leader) b (pred leader)).condition k)) 3 (kept_byte ((views_in (alone Z leader) b (pred leader)).condition k))
