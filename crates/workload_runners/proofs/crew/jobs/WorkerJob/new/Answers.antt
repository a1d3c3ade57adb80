use Rattle.workload_runners.proofs.Starts.{new_at_rest}
use Rattle.workload_runners.proofs.crew.jobs.WorkerJob.new.Goals as goal

pub invariant_of-result : goal.invariant_of-result
invariant_of-result g c = record { of_cell = c.requires.cell; rest = new_at_rest c.args.seat c.requires.worker c.requires.new }
