use Rattle.workload_file.proofs.Cited.{length}
use Rattle.workload_file.proofs.given.+add_values.Given as goal

abbrev pub decreases-add_values : goal.decreases-add_values
decreases-add_values l = length l.fields.now
