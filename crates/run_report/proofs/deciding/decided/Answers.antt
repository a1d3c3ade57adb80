use Rattle.run_report.proofs.Names.{nows}
use Rattle.run_report.proofs.Seats.{decided_next}
use Rattle.run_report.proofs.deciding.decided.Goals as goal

pub loop-short-preserved : goal.loop-short-preserved
loop-short-preserved c =
    decided_next c.args.who c.loop-short.short-index c.args.shorts.now c.short-item.result (nows c.loop-short.found.items)
    (nows c.push_if_decides.new.shorts.items)
    c.loop-short-test.true c.short-item.is c.loop-short.invariant c.in_ok-push_if_decides.ensures
