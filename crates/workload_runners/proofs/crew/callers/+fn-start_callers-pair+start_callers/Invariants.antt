use Rattle.std.proofs.Common.{vec_len}
use Rattle.workload_runners.proofs.crew.callers.+fn-start_callers-pair+start_callers.Given as goal

abbrev pub decreases-pair : goal.decreases-pair
decreases-pair g l = vec_len l.callers.others

abbrev pub decreases-start_callers : goal.decreases-start_callers
decreases-start_callers g l = vec_len l.callers.others
