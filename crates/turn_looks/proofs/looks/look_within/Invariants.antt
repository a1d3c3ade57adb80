use Rattle.turn_looks.proofs.Names.{◌<◌, Pended}
use Rattle.turn_looks.proofs.looks.look_within.Given as goal

abbrev pub invariant-loop-i : goal.invariant-loop-i
invariant-loop-i g l =
    record { pended : Pended g.O.Object.legal (g.W.LookFor.op_of l.wanted) g.W.LookFor.waits l.fn.seat l.i l.seat; more : l.i < l.most }
