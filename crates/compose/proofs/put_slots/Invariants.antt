use Rattle.report.proofs.LineLaws as law
use Rattle.compose.proofs.put_slots.Given as goal

abbrev pub invariant-loop-k : goal.invariant-loop-k
invariant-loop-k l = law.Lines l.initial.out l.epochs l.from l.plan l.k l.out
