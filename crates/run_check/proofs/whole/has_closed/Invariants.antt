use Rattle.run_check.proofs.Names.{take, ◌↔◌, IsTrue, Closes}
use Rattle.run_check.proofs.whole.has_closed.Given as goal

abbrev pub invariant-loop-e : goal.invariant-loop-e
invariant-loop-e l = IsTrue l.closed ↔ Closes l.main (take l.e-index l.entries)
