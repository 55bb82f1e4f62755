-- Who is readable, by its own image, is who is seen to be.
use Prim.Native.Nat.{ℕ, suc, ◌<◌}
use mathlib.Core.Path.{◌≡◌, sym}
use mathlib.Core.Bool.{true, false, true≢false}
use lib.Dec.{eqb}
use lib.ListN.{length}
use borrow.Author.Tests.{eqb-true, eq-eqb}
use Rattle.slices.specs.Parts.{Bytes}
use Rattle.slices.proofs.SameLaws.{and_left, and_right, not_so}
use Rattle.record.specs.Meaning.{bad}
use Rattle.image.specs.Cluster.{image_part, decode}
use Rattle.image.specs.View.{view_of, seen_as, condition_at, condition, is_lost, call_refusal, read_refusal}
use Rattle.image.proofs.RefusalLaws.{else_zero_r}
use Rattle.image.proofs.ViewLaws.{readable_sound}
use Rattle.image.proofs.ClusterLaws.{none_means}
use Rattle.search.specs.Sets.{has}
use Rattle.planner.specs.Setting.{setting_of, witness, views_of}
use Rattle.planner.specs.Plan.{views_in}
use Rattle.planner.proofs.AskingLaws.{own_refusal}
use Rattle.protocol.specs.Call.{Numbers, named}
use Rattle.demand3.specs.Claim.{readable}
use Rattle.protocol.proofs.CallLaws.{Accepted}

pub readable_view : (N : Numbers) (b : Bytes) → Accepted N b → (c : ℕ) → c < N.shape.n → readable N b c ≡ (views_in (named N) b c).readable
unfolding readable
readable_view N b a c cn = sym (own_refusal N.shape N.leader N.present b c a.sizes a.editions a.slots a.size cn)

-- whatever else is refused, a replica that is readable by its own image is seen so
pub readable_seen : (N : Numbers) (b : Bytes) (c : ℕ) → readable N b c ≡ true → (views_in (named N) b c).readable ≡ true
unfolding readable views_in views_of seen_as view_of decode read_refusal setting_of
readable_seen N b c h =
    let r = read_refusal N.shape (suc c) (image_part N.shape b c) in
    let e = eqb-true r 0 (and_right (has N.present c) (eqb r 0) h) in
    rw (and_left (has N.present c) (eqb r 0) h) (eq-eqb _ 0 (else_zero_r (call_refusal N.shape (suc c) (length (image_part N.shape b c))) _ e))

-- a witness with a bad record is not readable: nothing stands beside it
pub spoilt_unreadable : (N : Numbers) (b : Bytes) (c k : ℕ) (z : Bytes) → k < N.shape.m → witness (named N) c ≡ true → (decode N.shape b c).records k ≡ bad z
    → readable N b c ≡ false
unfolding views_in views_of seen_as view_of setting_of condition_at condition is_lost
spoilt_unreadable N b c k z km w e =
    not_so (readable N b c) (λ h.
    let kept = (readable_sound (has N.present c) N.shape.m (decode N.shape b c) (readable_seen N b c h)).kept k km in
    true≢false (rw (e, none_means N.shape b c k (unfold setting_of in w)) at kept))
