use Rattle.std.proofs.Common.{◌+◌, sym, ◌∙◌}
use Rattle.sched_workers.proofs.Until.{last_told, early_told, pended_more, still}
use Rattle.sched_workers.proofs.callers.until.look_until.Goals as goal

pub returns-then-last-clause-answered : goal.returns-then-last-clause-answered
returns-then-last-clause-answered g c =
    last_told c.args.wanted c.loop.invariant.0.0 c.args.seat.now c.loop.seat c.turn.new.seat c.has_come-last.result c.op.result c.in-Ok.reply
    c.if-last.true c.op.ensures c.loop.invariant.0.1 c.in-Ok.ensures.turned

pub returns-then-not-is_pending-clause-answered : goal.returns-then-not-is_pending-clause-answered
returns-then-not-is_pending-clause-answered g c =
    early_told c.args.wanted c.loop.invariant.0.0 c.args.seat.now c.loop.seat c.turn.new.seat c.has_come-last.result c.op.result c.in-Ok.reply
    c.if-last.false (sym c.is_pending.ensures ∙ c.if-not-is_pending.true) c.op.ensures c.loop.invariant.0.1 c.in-Ok.ensures.turned

pub returns-in-Err-clause-spent : goal.returns-in-Err-clause-spent
returns-in-Err-clause-spent g c =
    still c.args.wanted c.loop.invariant.0.0 c.args.seat.now c.loop.seat c.turn.new.seat c.loop.invariant.0.1 c.in-Err.ensures.spent

pub loop-preserved : goal.loop-preserved
loop-preserved g c = (
  (
    c.loop.invariant.0.0 + 1,
    pended_more c.args.wanted c.loop.invariant.0.0 c.args.seat.now c.loop.seat c.turn.new.seat c.has_come-last.result c.op.result c.in-Ok.reply
        c.if-last.false (sym c.is_pending.ensures ∙ c.if-not-is_pending.false) c.op.ensures c.loop.invariant.0.1 c.in-Ok.ensures.turned,
  ),
  (tt, tt),
)
