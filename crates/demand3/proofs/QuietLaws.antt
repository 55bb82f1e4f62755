-- The runs of a cluster that is refused or waits.
use Prim.Native.Nat.{ℕ}
use mathlib.Core.Path.{◌≡◌, refl, sym, ap, ◌∙◌}
use mathlib.Core.Bool.{true, false, true≢false}
use native.Mathlib.Omega.{arith}
use Rattle.slices.specs.Parts.{Bytes}
use Rattle.protocol.specs.Call.{run, Numbers}
use Rattle.protocol.specs.CallResult.{Result, refused, waiting, spent, call_result, count_of, without_count, run_end, is_spent, is_stored}
use Rattle.demand3.specs.Claim.{Runs}
use Rattle.protocol.proofs.StillLaws.{Still}

-- r is a refusal or waits
pub record Quiet (r : Result) : Type 0 where
  pub count : count_of r ≡ 0
  pub unspent : is_spent r ≡ false
  pub unstored : is_stored r ≡ false
  pub uncounted : without_count r ≡ r
  pub ends : run_end r ≡ r

pub refused_quiet : (r : ℕ) → Quiet (refused r)
unfolding count_of is_spent is_stored without_count run_end
refused_quiet r = record { count = refl; unspent = refl; unstored = refl; uncounted = refl; ends = refl }

pub waiting_quiet : (k : ℕ) → Quiet (waiting k)
unfolding count_of is_spent is_stored without_count run_end
waiting_quiet k = record { count = refl; unspent = refl; unstored = refl; uncounted = refl; ends = refl }

pub runs_still : (N : Numbers) (b : Bytes) (r : Result) → Still N b r → Quiet r → Runs N b
unfolding is_spent
runs_still N b r s q = record {
  counted = λ j. s.bytes (count_of (call_result N (run j) b)) ∙ sym (s.bytes j);
  smaller = λ i j l. absurd (omega (arith, ap count_of (s.runs j) ∙ q.count));
  bounded = λ j. omega (arith, ap count_of (s.runs j) ∙ q.count);
  outstanding = λ j. rw (s.bytes j, s.runs j, s.steps) (q.unspent ∙ sym q.unstored);
  budget = λ j c x. absurd (true≢false (spent_true c ∙ ap is_spent (sym x ∙ s.runs j) ∙ q.unspent));
  enough = λ j l. ap is_spent (s.runs j) ∙ q.unspent;
}
  where
    spent_true : (c : ℕ) → true ≡ is_spent (spent c)
    spent_true c = refl
