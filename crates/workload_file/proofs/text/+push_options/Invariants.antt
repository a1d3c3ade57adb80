use Rattle.workload_file.proofs.Cited.{length}
use Rattle.workload_file.proofs.text.+push_options.Given as goal

abbrev pub decreases-push_options : goal.decreases-push_options
decreases-push_options l = length l.fields.now
