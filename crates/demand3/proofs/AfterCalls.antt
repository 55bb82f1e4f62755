-- What every list of calls leaves, in bytes, with nothing supposed.
use Prim.Native.Nat.{◌<◌}
use mathlib.Core.Path.{◌≡◌, refl}
use mathlib.Core.List.{List}
use lib.ListN.{length}
use Rattle.slices.specs.Parts.{Bytes}
use Rattle.image.specs.Cluster.{image_at}
use Rattle.planner.specs.Setting.{setting_of}
use Rattle.demand3.specs.CallList.{Request, CallList, finished, refused, made}
use Rattle.protocol.specs.Call.{Numbers, named, refusal_in}
use Rattle.protocol.proofs.Reach.{here, reach_on}
use Rattle.protocol.proofs.Reached.{Reached, After, after_reached}
use Rattle.demand3.proofs.LeftLaws.{left_reach}
use Rattle.protocol.proofs.CallLaws.{accepted, call_accepted}

pub calls_reach : (N : Numbers) (low : (named N).leader < (named N).shape.n) {qs : List Request} {b z : Bytes} → length b ≡ image_at (named N).shape (named N).shape.n → CallList N qs b z → Reached (named N) b z
calls_reach N low size finished = record { size = size; reach = here }
calls_reach N low size (refused q h r) = calls_reach N low size r
calls_reach N low size (made q e l r) =
    let v = left_reach (named N) low size l in
    let w = calls_reach N low v.size r in
    record { size = w.size; reach = reach_on (named N) v.reach w.reach }

-- where planning is refused every call is
pub unchanged : (N : Numbers) {qs : List Request} {b z : Bytes} → (refusal_in N b ≡ 0 → ⊥) → CallList N qs b z → z ≡ b
unchanged N h finished = refl
unchanged N h (refused q x r) = unchanged N h r
unchanged N {b = b} h (made q e l r) = absurd (h (call_accepted N q b e))

pub after : (N : Numbers) {qs : List Request} {b₀ b : Bytes} → refusal_in N b₀ ≡ 0 → CallList N qs b₀ b → After N b₀ b
unfolding setting_of
after N {b₀ = b₀} e calls = let v = accepted N b₀ e in after_reached N e (calls_reach N v.low v.size calls)
