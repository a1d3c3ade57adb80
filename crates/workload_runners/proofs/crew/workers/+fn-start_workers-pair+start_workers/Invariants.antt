use Rattle.std.proofs.Common.{vec_len}
use Rattle.workload_runners.proofs.crew.workers.+fn-start_workers-pair+start_workers.Given as goal

abbrev pub decreases-pair : goal.decreases-pair
decreases-pair g l = vec_len l.threads.workers

abbrev pub decreases-start_workers : goal.decreases-start_workers
decreases-start_workers g l = vec_len l.threads.workers
