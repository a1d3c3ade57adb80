use Rattle.std.proofs.Common.{arith}
use Rattle.journal_check.proofs.check.runs.Goals as goal

pub is_run_in-requires : goal.is_run_in-requires
is_run_in-requires c = record {
  seats = (omega (arith, c.workers.ensures.value, c.workers.ensures.range.1), omega (arith, c.requires.formed.count));
}
