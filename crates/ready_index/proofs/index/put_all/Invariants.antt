use Rattle.ready_index.proofs.MarkLemmas.{IsDone}
use Rattle.ready_index.proofs.index.put_all.Given as goal

abbrev pub invariant-loop-worker : goal.invariant-loop-worker
invariant-loop-worker l = IsDone l.mark l.slot l.ready l.initial.workers l.workers l.worker
