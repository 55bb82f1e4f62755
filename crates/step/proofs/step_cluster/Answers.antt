-- `step_cluster` makes the store that is outstanding, if the cluster is not refused and does not wait.
use Prim.Native.Nat.{ℕ, ◌≤◌}
use mathlib.Core.Path.{◌≡◌}
use mathlib.Core.List.{List}
use lib.ListN.{length}
use Rattle.record.specs.declared.Shape.{Shape}
use Rattle.recovery.specs.NextStore.{BeginsAt}
use Rattle.recovery.specs.declared.NextStore.{NextStore}
use Rattle.recovery.specs.Answers.{numbers}
use Rattle.recovery.proofs.OutcomeLaws.{slots_few, store_fits, fits_more, refused_step, refused_step_bytes, waiting_step, waiting_step_bytes, ready_accepts, ready_next, ready_begins, ready_stepped, ready_step_bytes}
use native.Mathlib.Omega.{arith}
use Rattle.step.proofs.step_cluster.Goals as goal

-- The index that the log begins at is a number of its own: another one fails on a fact about numbers.
begun-at : (Z : Shape) (b : List ℕ) (s : NextStore) {x first : ℕ} → BeginsAt Z b s first → x ≡ first → BeginsAt Z b s x
begun-at Z b s h e = rw e h

pub make_store-requires : goal.make_store-requires
make_store-requires c =
    let a = c.args in
    let N = numbers a.shape a.leading a.present in
    let b = a.cluster.now in
    let q = c.in-Ready.is in
    let i = c.view_recovery.ensures in
    let e = ready_accepts N b q i in
    let s = c.in-Ready.store in
    record { m_bound = (slots_few N b e, store_fits N b e s (ready_next N b q i)); begins_at = begun-at a.shape b s (ready_begins N b q i) (omega arith) }

pub step_answer-requires : goal.step_answer-requires
step_answer-requires c =
    let a = c.args in
    let N = numbers a.shape a.leading a.present in
    let b = a.cluster.now in
    let s = c.in-Ready.store in
    let q = c.in-Ready.is in
    let i = c.view_recovery.ensures in
    let e = ready_accepts N b q i in
    let l : length b ≤ 18446744073709551615 = omega arith in
    (slots_few N b e, fits_more a.shape (length b) 18446744073709551615 s l (store_fits N b e s (ready_next N b q i)))

pub returns-in-Refused : goal.returns-in-Refused
returns-in-Refused c =
    let a = c.args in
    let N = numbers a.shape a.leading a.present in
    let b = a.cluster.now in
    let q = c.in-Refused.is in
    let i = c.view_recovery.ensures in
    record { answer = refused_step N b q i; bytes = refused_step_bytes N b q i }

pub returns-in-Waiting : goal.returns-in-Waiting
returns-in-Waiting c =
    let a = c.args in
    let N = numbers a.shape a.leading a.present in
    let b = a.cluster.now in
    let q = c.in-Waiting.is in
    let i = c.view_recovery.ensures in
    record { answer = waiting_step N b q i; bytes = waiting_step_bytes N b q i }

pub returns-in-Ready : goal.returns-in-Ready
returns-in-Ready c =
    let a = c.args in
    let N = numbers a.shape a.leading a.present in
    let b = a.cluster.now in
    let q = c.in-Ready.is in
    let i = c.view_recovery.ensures in
    record { answer = ready_stepped N b q i c.step_answer.ensures; bytes = ready_step_bytes N b q i c.make_store.ensures }
