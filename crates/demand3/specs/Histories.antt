-- What was in flight in the example's clusters, and what their logs held.
use Rattle.std.specs.Prelude.{ℕ, zero, suc, Bool, false, cond, ◌||◌, eqb}
use Rattle.slices.specs.Parts.{Bytes}
use Rattle.example.specs.Undamaged.{payload_a, payload_b, payload_c, undamaged_five}
use Rattle.demand3.specs.Supposed.{History}
use Rattle.demand3.specs.Before.{Flight, history_of}

-- C at the leader, B and C at replica 5
unfoldable pub in_flight_five : ℕ → ℕ → Bool
in_flight_five zero k = eqb k 2
in_flight_five (suc zero) k = false
in_flight_five (suc (suc zero)) k = false
in_flight_five (suc (suc (suc zero))) k = false
in_flight_five (suc (suc (suc (suc c)))) k = eqb k 1 || eqb k 2

-- what epoch 2 wrote to each slot
unfoldable pub written_to : ℕ → Bytes
written_to k = cond (eqb k 0) payload_a (cond (eqb k 1) payload_b payload_c)

unfoldable pub flights_five : ℕ → Flight
flights_five c = record { in_flight = in_flight_five c; payload = written_to }

unfoldable pub histories_five : ℕ → History
histories_five c = history_of 3 (flights_five c) (undamaged_five c)

-- nothing, in the three and in the four
unfoldable pub no_flights : ℕ → Flight
no_flights c = record { in_flight = λ k. false; payload = written_to }
