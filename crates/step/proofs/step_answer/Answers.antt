-- `step_answer` gives a store's numbers, from 1, and its kind.
use Rattle.recovery.proofs.OutcomeLaws.{replica_few, answer_nothing, answer_entry, answer_record, answer_blank}
use native.Mathlib.Omega.{arith}
use Rattle.step.proofs.step_answer.Goals as goal

pub stored_at-requires : goal.stored_at-requires
stored_at-requires c =
    let f = rw c.in-Entry.is at c.requires.1 in
    (omega (arith, replica_few _ _ f.1.1), omega (arith, f.0))

pub stored_at-requires-in-Record : goal.stored_at-requires-in-Record
stored_at-requires-in-Record c =
    let f = rw c.in-Record.is at c.requires.1 in
    (omega (arith, replica_few _ _ f.1), omega (arith, f.0))

pub stored_at-requires-in-Blank : goal.stored_at-requires-in-Blank
stored_at-requires-in-Blank c =
    let f = rw c.in-Blank.is at c.requires.1 in
    (omega (arith, replica_few _ _ f.1), omega (arith, f.0))

pub returns-in-Nothing : goal.returns-in-Nothing
returns-in-Nothing c =
    answer_nothing c.in-Nothing.is

pub returns-in-Entry : goal.returns-in-Entry
returns-in-Entry c =
    answer_entry _ _ _ c.stored_at.ensures c.in-Entry.is (omega arith)

pub returns-in-Record : goal.returns-in-Record
returns-in-Record c =
    answer_record _ _ _ c.stored_at-in-Record.ensures c.in-Record.is (omega arith)

pub returns-in-Blank : goal.returns-in-Blank
returns-in-Blank c =
    answer_blank _ _ _ c.stored_at-in-Blank.ensures c.in-Blank.is (omega arith)
