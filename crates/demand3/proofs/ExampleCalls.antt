-- The list of calls is played.
use Prim.Native.Nat.{ℕ, suc}
use mathlib.Core.Path.{◌≡◌}
use native.Mathlib.Omega.{arith}
use lib.ListN.{length-replicate}
use Rattle.image.specs.Image.{index}
use Rattle.planner.specs.Setting.{setting_of}
use Rattle.protocol.specs.Store.{store_entry, store_record, store_blank}
use Rattle.protocol.specs.StepBytes.{steps_bytes}
use Rattle.demand3.specs.Interrupted.{old, new, torn, whole, interrupted}
use Rattle.protocol.specs.Call.{plan, step, run, budget_of, refusal_of}
use Rattle.demand3.specs.CallList.{CallList, finished, refused, made}
use Rattle.example.specs.Undamaged.{noise}
use Rattle.example.specs.Damaged.{of_five, five, damaged_cluster}
use Rattle.example_visited.specs.Visited.{blanked_one, torn_one, fetched_one, two_more, last_stored, last_cluster}
use Rattle.demand3.specs.Played.{calls}
use Rattle.example.proofs.ComputedLaws.{computed}
use Rattle.example_visited.proofs.VisitedLaws.{visited_computed}

apart : {r k : ℕ} → r ≡ suc k → r ≡ 0 → ⊥
apart p q = omega (arith, p, q)

pub played : CallList five calls damaged_cluster last_cluster
unfolding calls blanked_one torn_one fetched_one two_more last_stored last_cluster budget_of refusal_of steps_bytes setting_of five
played =
    made (plan 3 5) computed.planned whole
    (refused (record { numbers = record { shape = record { n = 5; m = 0; edition = 1; witnesses = 0 }; leader = 1; present = 31 }; call = run 9 }) (apart computed.refused_1)
    (refused (record { numbers = record { shape = record { n = 8; m = 3; edition = 1; witnesses = 0 }; leader = 1; present = 31 }; call = step }) (apart computed.refused_2)
    (refused (record { numbers = record { shape = record { n = 5; m = 2; edition = 1; witnesses = 0 }; leader = 1; present = 31 }; call = step }) (apart computed.refused_3)
    (refused (record { numbers = record { shape = of_five; leader = 1; present = 63 }; call = step }) (apart computed.refused_11)
    (refused (record { numbers = record { shape = of_five; leader = 5; present = 31 }; call = step }) (apart computed.refused_12)
    (refused (record { numbers = five; call = plan 2 5 }) (apart computed.refused_13)
    (made (run 100) computed.go_first (interrupted 0 (store_blank 0 2) (omega arith) computed.next_first old)
    (made step computed.go_first (interrupted 0 (store_blank 0 2) (omega arith) computed.next_first new)
    (made step visited_computed.go_blanked (interrupted 0 (store_entry 0 0 1) (omega arith) visited_computed.next_torn (torn {c = 0} {k = 0} noise (unfold noise in length-replicate {A = ℕ} 240 9) (unfold index in rw visited_computed.begins computed.noise_broken)))
    (made step visited_computed.go_torn whole
    (made step visited_computed.go_fetched (interrupted 0 (store_record 0 1 2) (omega arith) visited_computed.next_record old)
    (made (run 2) visited_computed.go_fetched whole
    (made (run 45) visited_computed.go_two (interrupted 3 (store_entry 3 1 0) (omega arith) visited_computed.next_last new)
    (made (run 45) visited_computed.go_last whole finished))))))))))))))
