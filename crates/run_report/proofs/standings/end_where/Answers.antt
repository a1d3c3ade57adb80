use Rattle.run_report.proofs.Names.{refl, ◌∙◌, seen_in_standings, passes_unstarted}
use Rattle.run_report.proofs.EndLoop.{ends_keys}
use Rattle.run_report.proofs.standings.end_where.Goals as goal

pub returns : goal.returns
returns c =
    ends_keys (passes_unstarted c.args.workers c.args.which.now (seen_in_standings c.args.table.now)) c.args.end.now
    (seen_in_standings c.args.table.now) c.args.table.now.unstarted.entries
    c.deref-handle-items.result.now c.loop-handle.handle-index (seen_in_standings c.loop-handle.table)
    c.loop-handle-test.false (c.deref-handle-items.ensures.value ∙ c.in_ok-handles.ensures) (λ h. refl) c.loop-handle.invariant
