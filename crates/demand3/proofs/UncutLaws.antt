-- Uncut calls from any cluster: what refused calls, planning and so many steps leave.
use Prim.Native.Nat.{ℕ, suc}
use mathlib.Core.Path.{◌≡◌, refl, sym, ◌∙◌}
use native.Mathlib.Decide.{ℕ_discrete}
use Rattle.slices.specs.Parts.{Bytes}
use Rattle.protocol.specs.Recovery.{after}
use Rattle.protocol.specs.StepBytes.{steps_bytes}
use Rattle.demand3.specs.Interrupted.{whole}
use Rattle.protocol.specs.Call.{Call, plan, step, run, Numbers, named, budget_of, refusal_in, refusal_of}
use Rattle.demand3.specs.CallList.{finished}
use Rattle.protocol.specs.CallResult.{refused, call_result, call_bytes}
use Rattle.demand3.specs.Claim.{Uncut}
use Rattle.protocol.proofs.CallLaws.{call_accepted, refused_result, refused_bytes, made_result, made_bytes, run_kept, step_kept, run_bytes, step_bytes}
use Rattle.protocol.proofs.Reached.{After, after_run}
use Rattle.demand3.proofs.AfterCalls as calls
use Rattle.protocol.proofs.StepCountLaws.{steps_suc}
use Rattle.demand3.proofs.ResultLaws.{never}

-- ---- what so many steps leave
pub after_none : (N : Numbers) (b : Bytes) → refusal_in N b ≡ 0 → After N b b
after_none N b e = calls.after N e finished

pub uncut : (N : Numbers) (b : Bytes) → Uncut N b
unfolding budget_of steps_bytes
uncut N b = record {
  refusal = λ q r x. number q r x (ℕ_discrete (refusal_of N q b) 0);
  refused_keeps = λ q r x. keeps q r x (ℕ_discrete (refusal_of N q b) 0);
  plan_keeps = λ p t. still (plan p t) refl (ℕ_discrete (refusal_of N (plan p t) b) 0);
  left = λ q e. rw (made_bytes N q b e) whole;
  no_step = still (run 0) refl (ℕ_discrete (refusal_of N (run 0) b) 0);
  more_steps = λ j. more j (ℕ_discrete (refusal_in N b) 0);
}
  where
    number : (q : Call) (r : ℕ) → call_result N q b ≡ refused r → Dec (refusal_of N q b ≡ 0) → refusal_of N q b ≡ r
    number q r x (yes e) = absurd (never r N q b (call_accepted N q b e) (sym (made_result N q b e) ∙ x))
    number q r x (no h) = let y = refused_result N q b h in cc

    keeps : (q : Call) (r : ℕ) → call_result N q b ≡ refused r → Dec (refusal_of N q b ≡ 0) → call_bytes N q b ≡ b
    keeps q r x (yes e) = absurd (never r N q b (call_accepted N q b e) (sym (made_result N q b e) ∙ x))
    keeps q r x (no h) = refused_bytes N q b h

    still : (q : Call) → steps_bytes (named N) (budget_of q) b ≡ b → Dec (refusal_of N q b ≡ 0) → call_bytes N q b ≡ b
    still q s (yes e) = made_bytes N q b e ∙ s
    still q s (no h) = refused_bytes N q b h

    more : (j : ℕ) → Dec (refusal_in N b ≡ 0) → call_bytes N (run (suc j)) b ≡ call_bytes N (run j) (call_bytes N step b)
    more j (yes e) = run_bytes N b e (suc j) ∙ steps_suc (named N) j b ∙ rw (step_bytes N b e) (sym (run_bytes N (steps_bytes (named N) 1 b) (after_run N b e 1).accepts j))
    more j (no h) = run_kept N b h (suc j) ∙ rw (step_kept N b h) (sym (run_kept N b h j))
