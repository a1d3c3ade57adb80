use Rattle.std.proofs.Common.{Option, subst}
use Rattle.nested_workers.specs.Rounds.{NestedRounded}
use Rattle.turn_looks.specs.declared.services.ServeEnd.{ServeEnd}
use Rattle.nested_workers.proofs.Rounds.{nested_more, nested_none}
use Rattle.nested_workers.proofs.worker.rounds.Goals as goal

pub loop-init : goal.loop-init
loop-init g c = (nested_none c.args.seat c.requires.rest, (tt, tt))

pub loop-preserved : goal.loop-preserved
loop-preserved g c = (
  nested_more c.args.seat c.loop.seat c.round-back.result.0 c.loop.invariant.0
      (subst (λ (x : Option ServeEnd). NestedRounded c.loop.seat x c.round-back.result.0) c.in-None-end.is c.round-back.ensures),
  (tt, tt),
)
