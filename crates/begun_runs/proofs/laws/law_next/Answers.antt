use Rattle.begun_runs.proofs.Next.{each_is_asked}
use Rattle.begun_runs.proofs.laws.law_next.Goals as goal

-- src/laws.rt:15:1
pub returns : goal.returns
returns c = each_is_asked
