-- Lists of planner, step and run calls with their arguments, refused ones included, the power failing at any store.
use Rattle.std.specs.Prelude.{◌≡◌, List, [], ◌∷◌}
use Rattle.slices.specs.Parts.{Bytes}
use Rattle.protocol.specs.Call.{Call, Numbers, named, budget_of, refusal_of}
use Rattle.demand3.specs.Interrupted.{LeftBytes}

-- a request carries its own numbers
pub record Request : Type 0 where
  pub numbers : Numbers
  pub call : Call

-- each call is refused on the cluster as it then is, whatever it names, and changes nothing; or it names the numbers N, and the power may
-- fail at any of its stores
pub data CallList (N : Numbers) : List Request → Bytes → Bytes → Type 0 where
  finished : {b : Bytes} → CallList N [] b b
  refused : {qs : List Request} {b z : Bytes} (q : Request) → (refusal_of q.numbers q.call b ≡ 0 → ⊥) → CallList N qs b z → CallList N (q ∷ qs) b z
  made : {qs : List Request} {b a z : Bytes} (q : Call) → refusal_of N q b ≡ 0 → LeftBytes (named N) (budget_of q) b a → CallList N qs a z
      → CallList N (record { numbers = N; call = q } ∷ qs) b z
