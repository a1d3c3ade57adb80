use Rattle.node_steps.proofs.Names.{◌≡◌, drop, all_marked}
use Rattle.node_steps.proofs.phase_ops.all_marked.Given as goal

abbrev pub invariant-loop-mark : goal.invariant-loop-mark
invariant-loop-mark l = all_marked l.n l.marks ≡ all_marked l.left (drop l.mark-index l.marks)
