use Rattle.std.proofs.Common.{drop}
use Rattle.run_check.proofs.Reached.{Reached}
use Rattle.run_check.proofs.made.carried.Given as goal

abbrev pub invariant-loop-statement : goal.invariant-loop-statement
invariant-loop-statement l = Reached l.fn.statements l.fn.lines l.bound.items (drop l.statement-index l.statements) l.rest
