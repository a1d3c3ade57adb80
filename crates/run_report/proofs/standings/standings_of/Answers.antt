use Rattle.run_report.proofs.Names.{subst, EndEffect, with_effect, seen_in_standings, SameAs}
use Rattle.run_report.proofs.History.{seen_none, seen_next}
use Rattle.run_report.proofs.standings.standings_of.Goals as goal

pub loop-entry-init : goal.loop-entry-init
loop-entry-init c = seen_none c.args.workers (seen_in_standings c.in_ok-table.table) c.in_ok-table.ensures

pub loop-entry-preserved : goal.loop-entry-preserved
loop-entry-preserved c =
    seen_next c.args.workers c.loop-entry.entry-index c.args.entries.now c.entry-item.result (seen_in_standings c.loop-entry.table)
    (seen_in_standings c.note.new.table)
    c.loop-entry-test.true c.entry-item.is c.loop-entry.invariant
    (subst (λ (change : EndEffect). SameAs (seen_in_standings c.note.new.table)
    (with_effect c.args.workers change (seen_in_standings c.loop-entry.table))) c.change_of.ensures c.in_ok-note.ensures)
