use Rattle.std.proofs.Common.{sym}
use Rattle.run_report.proofs.LiveActions.{below_at}
use Rattle.run_report.proofs.actions.share_core.Goals as goal

pub returns-then-has_both : goal.returns-then-has_both
returns-then-has_both c = below_at c.args.cores c.loop-core.core _ c.loop-core-test.true (sym c.if-has_both.ensures)
