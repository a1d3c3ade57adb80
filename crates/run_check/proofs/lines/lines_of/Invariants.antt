use Rattle.run_check.proofs.Names.{◌≡◌, take, lines_of}
use Rattle.run_check.proofs.lines.lines_of.Given as goal

abbrev pub invariant-loop-i : goal.invariant-loop-i
invariant-loop-i l = l.lines.items ≡ lines_of l.who (take l.i l.entries) (take l.i l.skipped)
