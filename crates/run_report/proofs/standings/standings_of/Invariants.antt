use Rattle.run_report.proofs.Names.{take, nothing_seen, seen_from, seen_in_standings, SameAs}
use Rattle.run_report.proofs.standings.standings_of.Given as goal

abbrev pub invariant-loop-entry : goal.invariant-loop-entry
invariant-loop-entry l = SameAs (seen_in_standings l.table) (seen_from l.workers nothing_seen (take l.entry-index l.entries))
