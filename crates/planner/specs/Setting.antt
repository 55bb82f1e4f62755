-- What a call names: the cluster's shape, the leader and the present set.
use Rattle.std.specs.Prelude.{ℕ, pred, suc, Bool}
use Rattle.search.specs.Sets.{has}
use Rattle.record.specs.declared.Shape.{Shape}
use Rattle.record.specs.Layout.{is_witness}
use Rattle.image.specs.View.{View, view_of, seen_as}
use Rattle.image.specs.Cluster.{Cluster}

-- replicas and slots from 0
pub record Setting : Type 0 where
  pub shape : Shape
  pub leader : ℕ
  pub present : ℕ → Bool

-- a shape, the leader's number (from 1) and the present set as a word
unfoldable pub setting_of : Shape → ℕ → ℕ → Setting
setting_of Z leading present = record { shape = Z; leader = pred leading; present = has present }

-- replica c is a witness (02, Seven)
abbrev pub witness : Setting → ℕ → Bool
witness S c = is_witness S.shape (suc c)

-- what is seen of each replica
unfoldable pub views_of : Setting → Cluster → ℕ → View
views_of S F c = seen_as (witness S c) (view_of (S.present c) S.shape.m (F c))
