use Rattle.std.proofs.Common.{◌+◌, None, false, refl}
use Rattle.turn_looks.proofs.LookLemmas.{looked, pended_more, not_so}
use Rattle.turn_looks.proofs.looks.look_on.Goals as goal

pub returns-then-not-is_waiting-clause-answered : goal.returns-then-not-is_waiting-clause-answered
returns-then-not-is_waiting-clause-answered g c =
    looked g.O.Object.legal (g.W.LookFor.op_of c.args.wanted.now) g.W.LookFor.waits None c.loop.invariant.0.0 c.args.seat.now c.loop.seat c.turn.new.seat false
    c.op.result c.in-Ok.reply c.op.ensures c.loop.invariant.0.1 c.in-Ok.ensures.turned refl
    (λ e. not_so _ c.if-not-is_waiting.true c.is_waiting.ensures.1)

pub loop-preserved : goal.loop-preserved
loop-preserved g c = (
  (
    c.loop.invariant.0.0 + 1,
    pended_more g.O.Object.legal
        (g.W.LookFor.op_of c.args.wanted.now) g.W.LookFor.waits c.loop.invariant.0.0 c.args.seat.now c.loop.seat c.turn.new.seat c.op.result c.in-Ok.reply
        c.op.ensures (c.is_waiting.ensures.0 c.if-not-is_waiting.false) c.loop.invariant.0.1 c.in-Ok.ensures.turned,
  ),
  (tt, tt),
)
