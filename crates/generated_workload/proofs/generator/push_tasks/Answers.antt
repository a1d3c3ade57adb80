use Rattle.generated_workload.proofs.Names.{sym, arith, append-nil}
use Rattle.generated_workload.specs.Generated.{generated_tasks}
use Rattle.generated_workload.proofs.generator.push_tasks.Goals as goal

pub loop-i-init : goal.loop-i-init
unfolding generated_tasks
loop-i-init c = record { so_far = sym (append-nil c.args.list.now); within = omega arith }
