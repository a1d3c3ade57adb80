use Rattle.run_report.proofs.Names.{take, seen_in_standings, SameAs, passes_unstarted}
use Rattle.run_report.proofs.EndLoop.{ends_among}
use Rattle.run_report.proofs.standings.end_where.Given as goal

abbrev pub invariant-loop-handle : goal.invariant-loop-handle
invariant-loop-handle l = SameAs (seen_in_standings l.table)
    (ends_among (take l.handle-index l.handle-items) (passes_unstarted l.workers l.which (seen_in_standings l.fn.table)) l.end (seen_in_standings l.fn.table))
