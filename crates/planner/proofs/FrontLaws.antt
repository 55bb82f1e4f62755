-- A table whose first rows are filled.
use Prim.Native.Nat.{ℕ, suc, ◌<◌, ◌≤◌}
use mathlib.Core.Path.{◌≡◌, refl, sym, ◌∙◌}
use mathlib.Core.List.{List, append-nil}
use native.Mathlib.Omega.{arith}
use lib.ListN.{length, get_or, set, take, drop, length-append, length-drop, drop_of_length-le}
use lib.Seq.{take-suc, drop-cons, append_snoc, set_at, length-take-le}
use Rattle.planner.specs.declared.ReplicaRow.{ReplicaRow}
use Rattle.planner.specs.Tabulated.{no_row, front_rows}

pub front_none : (new old : List ReplicaRow) → old ≡ front_rows 0 new old
unfolding front_rows
front_none new old = refl

pub front_length : (k : ℕ) (new old : List ReplicaRow) → k ≤ length new → k ≤ length old → length (front_rows k new old) ≡ length old
unfolding front_rows
front_length k new old h g = length-append (take k new) (drop k old) ∙ omega (arith, length-take-le k new h, length-drop k old)

pub front_more : (k : ℕ) (new old : List ReplicaRow) {r : ReplicaRow} → k < length new → k < length old → r ≡ get_or new k no_row → set (front_rows k new old) k r ≡ front_rows (suc k) new old
unfolding front_rows
front_more k new old {r} h g e =
    rw (drop-cons old k no_row g, set_at (take k new) (get_or old k no_row) (drop (suc k) old) r k (length-take-le k new (omega arith)), e, take-suc new k no_row h)
    (sym (append_snoc (take k new) (get_or new k no_row) (drop (suc k) old)))

-- none filled, and all filled
pub front_all : (n : ℕ) (new old : List ReplicaRow) → length old ≡ n → front_rows n new old ≡ take n new
unfolding front_rows
front_all n new old e = let h : length old ≤ n = omega arith in rw (drop_of_length-le old h) (append-nil (take n new))
