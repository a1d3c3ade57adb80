use Rattle.workload_runners.proofs.Names.{Bool, LocksOnce, Option, subst, sym}
use Rattle.workload_runners.proofs.TallySeat.{locks_once}
use Rattle.workload_runners.proofs.tallies.ask_both.Goals as goal

pub answered-requires : goal.answered-requires
answered-requires g c = (locks_once c.args.seat.now c.turn.new.seat c.in-Ok.reply c.args.task c.args.args.now c.requires.work c.in-Ok.ensures.turned).0

pub returns-in-Ok-clause-asked : goal.returns-in-Ok-clause-asked
returns-in-Ok-clause-asked g c =
    subst (λ (x : Option Bool). LocksOnce c.args.seat.now c.args.task c.args.args.now x c.turn.new.seat) (sym c.answered.ensures)
    (locks_once c.args.seat.now c.turn.new.seat c.in-Ok.reply c.args.task c.args.args.now c.requires.work c.in-Ok.ensures.turned).1
