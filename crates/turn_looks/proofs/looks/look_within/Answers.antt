use Rattle.turn_looks.proofs.Names.{◌+◌, Some, refl, ◌==◌}
use Rattle.turn_looks.proofs.LookLemmas.{looked, unequal, not_so}
use Rattle.turn_looks.proofs.looks.look_within.Goals as goal

pub returns-then-last-clause-answered : goal.returns-then-last-clause-answered
returns-then-last-clause-answered g c =
    looked g.O.Object.legal (g.W.LookFor.op_of c.args.wanted.now) g.W.LookFor.waits (Some c.args.most) c.loop-i.i c.args.seat.now c.loop-i.seat c.turn.new.seat
    (c.loop-i.i + 1 == c.args.most) c.op.result c.in-Ok.reply c.op.ensures c.loop-i.invariant.pended c.in-Ok.ensures.turned (c.loop-i.invariant.more, refl)
    (λ e. unequal (c.loop-i.i + 1) c.args.most c.if-last.true e)

pub returns-then-not-is_waiting-clause-answered : goal.returns-then-not-is_waiting-clause-answered
returns-then-not-is_waiting-clause-answered g c =
    looked g.O.Object.legal (g.W.LookFor.op_of c.args.wanted.now) g.W.LookFor.waits (Some c.args.most) c.loop-i.i c.args.seat.now c.loop-i.seat c.turn.new.seat
    (c.loop-i.i + 1 == c.args.most) c.op.result c.in-Ok.reply c.op.ensures c.loop-i.invariant.pended c.in-Ok.ensures.turned (c.loop-i.invariant.more, refl)
    (λ e. not_so _ c.if-not-is_waiting.true c.is_waiting.ensures.1)
