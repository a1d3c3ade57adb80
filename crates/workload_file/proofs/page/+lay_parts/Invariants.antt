use Rattle.workload_file.proofs.Cited.{length}
use Rattle.workload_file.proofs.page.+lay_parts.Given as goal

abbrev pub decreases-lay_parts : goal.decreases-lay_parts
decreases-lay_parts l = length l.parts.now
