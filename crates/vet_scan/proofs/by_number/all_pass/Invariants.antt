-- Every number below k passes.
use Rattle.std.proofs.Common.{◌≡◌, ℕ, ◌<◌, Bool, true}
use Rattle.vet_scan.proofs.by_number.all_pass.Given as goal

abbrev pub invariant-loop-k : goal.invariant-loop-k
invariant-loop-k g l = (p : ℕ → Bool) → ((k : ℕ) (b : Bool) → k < l.bound → goal.F-post g l.passes k b → b ≡ p k) → (j : ℕ) → j < l.k → p j ≡ true
