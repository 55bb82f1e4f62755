-- For proofs only. What the code of `pick` is given of one replica and of a cluster.
use Rattle.std.specs.Prelude.{ℕ, suc, ◌+◌, ◌*◌, ◌<◌, ◌≤◌, ◌≡◌, Bool, true, false, cond, List, get_or}
use Rattle.std.proofs.Math.Option.{Option, none}
use Rattle.slices.specs.Parts.{Bytes}
use Rattle.record.specs.declared.Shape.{Shape}
use Rattle.record.specs.Layout.{is_witness}
use Rattle.image.specs.View.{View}
use Rattle.image.specs.View.{condition_number}
use Rattle.image.specs.Cluster.{Cluster, image_at, decode}
use Rattle.search.specs.Sets.{has}
use Rattle.planner.specs.Setting.{Setting, views_of}
use Rattle.planner.specs.Plan.{views_in}
use Rattle.planner.specs.Survey.{SurveyIs}
use Rattle.planner.specs.declared.Survey.{Survey}
use Rattle.protocol.specs.Store.{Store, store_entry, store_record}
use Rattle.protocol.specs.Recovery.{if_below, leader_store, is_some, due}

-- a survey's numbers of replica c are those of its view
pub record Looked (m : ℕ) (v : View) (c length : ℕ) (conditions epochs : List ℕ) : Type 0 where
  pub length_is : length ≡ v.length
  pub log_fits : v.length ≤ m
  pub condition_is : (k : ℕ) → k < m → get_or conditions (c * 64 + k) 0 ≡ condition_number (v.condition k)
  pub epoch_is : (k : ℕ) → k < m → get_or epochs (c * 64 + k) 0 ≡ v.epoch k

-- the numbers of a survey lie in range, the leader's from 0: so many replicas of m slots in a buffer of that size, and no log longer than m
pub record InRange (Z : Shape) (leader : ℕ) (s : Survey) (size : ℕ) : Type 0 where
  pub few : Z.n ≤ 7
  pub slots_fit : Z.m ≤ 64
  pub leader_below : leader < Z.n
  pub leader_card : is_witness Z (suc leader) ≡ false
  pub size_is : size ≡ image_at Z Z.n
  pub leader_fits : get_or s.lengths leader 0 ≤ Z.m
  pub log_fits : (c : ℕ) → c < Z.n → has s.readable c ≡ true → get_or s.lengths c 0 ≤ Z.m

-- replica c answers, and its numbers too lie in range
pub record Answering (Z : Shape) (leader : ℕ) (s : Survey) (size c : ℕ) : Type 0 where
  pub in_range : InRange Z leader s size
  pub replica_below : c < Z.n
  pub replica_reads : has s.readable c ≡ true

-- a survey is that of the cluster in a buffer, for a setting of this shape and leader
pub record Sees (S : Setting) (b : Bytes) (Z : Shape) (leader : ℕ) (s : Survey) : Type 0 where
  pub shape_is : S.shape ≡ Z
  pub survey_is : SurveyIs S (views_in S b) Z.n leader s

-- the cluster in a buffer
abbrev pub cluster_in : Setting → Bytes → Cluster
cluster_in S b = decode S.shape b

-- the last part of `follower_store`: the first missing slot of c, entry before record
abbrev pub missing_store : Setting → (ℕ → View) → Bool → ℕ → Option Store
missing_store S W other c =
    if_below (W c).length (W S.leader).length
    (cond other (store_entry c (W c).length S.leader) (store_record c (W c).length ((W S.leader).epoch (W c).length)))

-- neither the leader nor a follower below c has a store outstanding
pub record RestBelow (S : Setting) (F : Cluster) (c : ℕ) : Type 0 where
  pub leader_rests : leader_store S (views_of S F) ≡ none
  pub followers_rest : (j : ℕ) → j < c → is_some (due S F j) ≡ false
