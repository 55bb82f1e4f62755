use Rattle.std.proofs.Common.{sym, arith, eqb, get_or}
use borrow.Author.Tests.{eq-eqb, ne_eqb}
use Rattle.search.proofs.SearchLaws.{lowest_is}
use Rattle.vet_scan.specs.ByNumber.{length_in}
use Rattle.vet_scan.proofs.by_number.log_length.Goals as goal

pub returns-then-conditions-k-eq-UNUSED : goal.returns-then-conditions-k-eq-UNUSED
unfolding length_in
returns-then-conditions-k-eq-UNUSED c =
    sym (lowest_is (λ k. eqb (get_or c.args.conditions.now k 0) 0) _ _ (omega arith) (λ j h. ne_eqb _ 0 (c.loop-k.invariant j h)) (λ h. eq-eqb _ 0 c.if-conditions-k-eq-UNUSED.true))

pub returns : goal.returns
unfolding length_in
returns c =
    sym (lowest_is (λ k. eqb (get_or c.args.conditions.now k 0) 0) _ _ (omega arith) (λ j h. ne_eqb _ 0 (c.loop-k.invariant j (omega arith))) (λ h. absurd (omega arith)))
