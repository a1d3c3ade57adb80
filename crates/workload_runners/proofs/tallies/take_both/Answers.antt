use Rattle.workload_runners.proofs.TallySeat.{retried_none, retried_more, takes_both}
use Rattle.workload_runners.proofs.tallies.take_both.Goals as goal

pub loop-init : goal.loop-init
loop-init g c = (retried_none c.args.seat.now c.args.task c.args.args.now c.requires.work, (tt, tt))

pub loop-preserved : goal.loop-preserved
loop-preserved g c = (
  retried_more c.args.seat.now c.loop.seat c.ask_both.new.seat c.args.task c.args.args.now c.in-Ok-None.field-0 c.in-Ok-None.field-0-is
      c.loop.invariant.0 c.in-Ok-None.ensures.asked,
  (tt, tt),
)

pub returns-in-Ok-Some-clause-taken : goal.returns-in-Ok-Some-clause-taken
returns-in-Ok-Some-clause-taken g c = takes_both c.args.seat.now c.loop.seat c.ask_both.new.seat c.args.task c.args.args.now c.in-Ok-Some.field-0
    c.in-Ok-Some.got c.in-Ok-Some.field-0-is c.loop.invariant.0 c.in-Ok-Some.ensures.asked
