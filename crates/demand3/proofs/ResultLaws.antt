-- What a result tells of the store that it was worked out from; no accepted call answers a refusal.
use Prim.Native.Nat.{ℕ}
use mathlib.Core.Path.{◌≡◌, refl}
use mathlib.Core.Bool.{false, true≢false}
use mathlib.Core.Option.{Option, none, some}
use native.Mathlib.Omega.{arith}
use Rattle.slices.specs.Parts.{Bytes}
use Rattle.planner.specs.Rules.{Answer, Refused, Waiting, Ready, answer}
use Rattle.planner.specs.Plan.{views_in}
use Rattle.protocol.specs.Store.{Store}
use Rattle.protocol.specs.Recovery.{is_some}
use Rattle.protocol.specs.StepBytes.{next_in, steps_bytes, stores_bytes}
use Rattle.protocol.specs.Call.{Call, plan, step, run, Numbers, named, refusal_in}
use Rattle.protocol.specs.CallResult.{Result, refused, ready, recovered, step_result, run_result, answered, ready_result, accepted_result, count_of, is_spent, is_stored}
use Rattle.protocol.proofs.CallLaws.{not_refused, accepted}

pub run_count : (c : ℕ) (o : Option Store) → count_of (run_result c o) ≡ c
unfolding count_of run_result
run_count c none = refl
run_count c (some s) = refl

pub run_spent : (c : ℕ) (o : Option Store) → is_spent (run_result c o) ≡ is_some o
unfolding is_spent run_result is_some
run_spent c none = refl
run_spent c (some s) = refl

pub step_stored : (o : Option Store) → is_stored (step_result o) ≡ is_some o
unfolding is_stored step_result is_some
step_stored none = refl
step_stored (some s) = refl

pub unspent_none : (c : ℕ) (o : Option Store) → is_spent (run_result c o) ≡ false → o ≡ none
unfolding is_spent run_result
unspent_none c none e = refl
unspent_none c (some s) e = absurd (true≢false e)

-- a call never answers a refusal unless it is refused
module _ (r : ℕ) where
  never_ready : (a : Answer) → (a ≡ Refused → ⊥) → ready_result a ≡ refused r → ⊥
  unfolding ready_result
  never_ready Refused h x = h refl
  never_ready (Waiting k) h x = let z : ◌≡◌ {A = ℕ} 0 1 = cc in omega arith
  never_ready (Ready l) h x = let z : ◌≡◌ {A = ℕ} 0 1 = cc in omega arith

  never_answered : (a : Answer) (x : Result) → (a ≡ Refused → ⊥) → (x ≡ refused r → ⊥) → answered a x ≡ refused r → ⊥
  unfolding answered
  never_answered Refused x h g e = h refl
  never_answered (Waiting k) x h g e = let z : ◌≡◌ {A = ℕ} 0 1 = cc in omega arith
  never_answered (Ready l) x h g e = g e

  never_step : (o : Option Store) → step_result o ≡ refused r → ⊥
  unfolding step_result
  never_step none x = let z : ◌≡◌ {A = ℕ} 0 1 = cc in omega arith
  never_step (some s) x = let z : ◌≡◌ {A = ℕ} 0 1 = cc in omega arith

  never_run : (c : ℕ) (o : Option Store) → run_result c o ≡ refused r → ⊥
  unfolding run_result
  never_run c none x = let z : ◌≡◌ {A = ℕ} 0 1 = cc in omega arith
  never_run c (some s) x = let z : ◌≡◌ {A = ℕ} 0 1 = cc in omega arith

  pub never : (N : Numbers) (q : Call) (b : Bytes) → refusal_in N b ≡ 0 → accepted_result N q b ≡ refused r → ⊥
  unfolding accepted_result
  never N (plan p t) b e x = never_ready (answer (named N) (views_in (named N) b)) (not_refused (named N) b (accepted N b e).leads (accepted N b e).firsts) x
  never N step b e x =
      never_answered (answer (named N) (views_in (named N) b)) (step_result (next_in (named N) b)) (not_refused (named N) b (accepted N b e).leads (accepted N b e).firsts) (never_step _) x
  never N (run j) b e x =
      never_answered (answer (named N) (views_in (named N) b)) (run_result (stores_bytes (named N) j b) (next_in (named N) (steps_bytes (named N) j b)))
      (not_refused (named N) b (accepted N b e).leads (accepted N b e).firsts) (never_run _ _) x

-- planning says ready, or a step says that nothing is outstanding
pub says_ready : (a : Answer) (l : ℕ) → ready_result a ≡ ready l → a ≡ Ready l
unfolding ready_result
says_ready Refused l x = absurd (let z : ◌≡◌ {A = ℕ} 0 1 = cc in omega arith)
says_ready (Waiting k) l x = absurd (let z : ◌≡◌ {A = ℕ} 0 1 = cc in omega arith)
says_ready (Ready k) l x = cc

pub says_recovered : (o : Option Store) (c : ℕ) → step_result o ≡ recovered c → o ≡ none
unfolding step_result
says_recovered none c x = refl
says_recovered (some s) c x = absurd (let z : ◌≡◌ {A = ℕ} 0 1 = cc in omega arith)
