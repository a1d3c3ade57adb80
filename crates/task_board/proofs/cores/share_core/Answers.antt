use Rattle.std.proofs.Common.{sym, add-one}
use Rattle.task_board.proofs.BelowLemmas.{below_at, below_next}
use Rattle.task_board.proofs.cores.share_core.Goals as goal

pub returns-then-has_both : goal.returns-then-has_both
returns-then-has_both c = below_at c.args.cores c.loop-core.core _ c.loop-core-test.true (sym c.if-has_both.ensures)

pub loop-core-preserved : goal.loop-core-preserved
loop-core-preserved c = rw add-one (below_next c.loop-core.core _ c.loop-core.invariant (sym c.if-has_both.ensures))
