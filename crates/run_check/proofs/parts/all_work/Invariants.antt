use Rattle.run_check.proofs.Names.{◌≡◌, drop, all_work}
use Rattle.run_check.proofs.parts.all_work.Given as goal

abbrev pub invariant-loop-line : goal.invariant-loop-line
invariant-loop-line l = all_work l.lines ≡ all_work (drop l.line-index l.lines)
