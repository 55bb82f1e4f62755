-- Who is readable and what a replica answers, in document 01's words.
use Prim.Native.Nat.{ℕ, suc, ◌+◌, ◌<◌}
use mathlib.Core.Path.{◌≡◌, refl, sym, ap}
use mathlib.Core.Bool.{Bool, true, false, not, ◌&&◌, ◌||◌, true≢false}
use native.Mathlib.Omega.{arith}
use lib.Dec.{eqb}
use lib.ListN.{length}
use borrow.Author.Tests.{eq-eqb}
use Rattle.search.specs.Search.{one_if}
use Rattle.slices.specs.Parts.{Bytes}
use Rattle.slices.proofs.SameLaws.{and_off}
use Rattle.record.specs.declared.Shape.{Shape}
use Rattle.image.specs.View.{View, is_size, is_slots, is_edition, is_lost, view_of, seen_as, call_refusal, read_refusal}
use Rattle.image.specs.declared.condition.Condition.{Condition}
use Rattle.image.specs.declared.condition.Condition.TheVariants.{Unused, Whole, RecordLost, Faulty, Lost, RecordOnly}
use Rattle.image.specs.Read.{is_whole}
use Rattle.image.specs.Cluster.{image_at, image_part, decode}
use Rattle.image.proofs.RefusalLaws.{else_next}
use Rattle.image.proofs.CallLaws.{is_replica_lem, named_none, call_none}
use Rattle.image.proofs.ClusterLaws.{length_image}
use Rattle.search.specs.Sets.{has}
use Rattle.planner.specs.Setting.{Setting, setting_of, views_of}
use Rattle.planner.specs.Rules.{is_faulty, is_record_only, is_used, answers, agrees, have, have_faulty, dont_have}
use Rattle.planner.specs.Plan.{views_in}

pub own_refusal : (Z : Shape) (leader present : ℕ) (b : Bytes) (c : ℕ) → is_size Z.n ≡ true → is_edition Z.edition ≡ true → is_slots Z.m ≡ true
    → length b ≡ image_at Z Z.n → c < Z.n
    → (views_in (setting_of Z leader present) b c).readable ≡ has present c && eqb (read_refusal Z (suc c) (image_part Z b c)) 0
unfolding views_in views_of seen_as setting_of view_of decode read_refusal
own_refusal Z leader present b c sized edition slots size h =
    let l = length_image Z b size c h in
    let z : call_refusal Z (suc c) (length (image_part Z b c)) ≡ 0
    = sym (call_none Z (suc c) (length (image_part Z b c)) (named_none Z (suc c) slots sized edition (is_replica_lem Z.n (suc c) (omega arith) (omega arith))) refl l) in
    ap (λ (r : ℕ). has present c && eqb r 0) (sym (else_next _ z))

-- the leader answers nothing, nor does one that is away or unreadable
pub leader_may_hold : (S : Setting) (W : ℕ → View) (k : ℕ) → dont_have S W k S.leader ≡ false
unfolding dont_have answers
leader_may_hold S W k = rw (eq-eqb S.leader S.leader refl) refl

pub away_may_hold : (S : Setting) (W : ℕ → View) (k c : ℕ) → (W c).readable ≡ false → dont_have S W k c ≡ false
unfolding dont_have
away_may_hold S W k c h =
    let silent : answers S W c ≡ false = unfold answers in rw h (and_off (not (eqb c S.leader))) in
    rw silent refl

pub one_answer : (S : Setting) (W : ℕ → View) (k c : ℕ) → is_lost ((W c).condition k) ≡ false
    → one_if (have S W k c) + one_if (have_faulty S W k c) + one_if (dont_have S W k c) ≡ one_if (answers S W c)
unfolding have have_faulty dont_have agrees is_whole is_faulty is_record_only is_used is_lost one_if
one_answer S W k c h = go (answers S W c) ((W c).condition k) (eqb ((W c).epoch k) ((W S.leader).epoch k)) h
  where
    go : (a : Bool) (x : Condition) (e : Bool) → is_lost x ≡ false
        → one_if (a && is_whole x && (is_used x && e)) + one_if (a && (is_faulty x || is_record_only x) && (is_used x && e)) + one_if (a && not (is_used x && e)) ≡ one_if a
    go false x e h = refl
    go true Unused e h = refl
    go true Whole true h = refl
    go true Whole false h = refl
    go true RecordLost true h = refl
    go true RecordLost false h = refl
    go true Faulty true h = refl
    go true Faulty false h = refl
    go true Lost e h = absurd (true≢false h)
    go true RecordOnly true h = refl
    go true RecordOnly false h = refl
