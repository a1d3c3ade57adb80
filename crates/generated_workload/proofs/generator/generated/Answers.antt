use Rattle.generated_workload.proofs.Formed.{formed_of}
use Rattle.generated_workload.proofs.generator.generated.Goals as goal

pub returns-clause-formed : goal.returns-clause-formed
returns-clause-formed c = formed_of c.args.n c.args.workers c.made.result c.requires.tasks.0 c.requires.tasks.1 c.requires.workers.0 c.requires.workers.1
    c.made.ensures
