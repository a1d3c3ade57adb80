use Rattle.workload_file.proofs.Taken.{end_clean}
use Rattle.workload_file.proofs.load.read_workload.Goals as goal

pub returns-in-Ok-formed_workload_of-clause-clean : goal.returns-in-Ok-formed_workload_of-clause-clean
returns-in-Ok-formed_workload_of-clause-clean g c =
    end_clean (g.S.Source.faults c.args.src.now) (g.S.Source.faults c.read_all.new.src) (g.S.Source.left c.args.src.now)
    (g.S.Source.left c.read_all.new.src) c.in-Ok.bytes c.in-Ok.ensures.clean c.in-Ok.ensures.whole

pub returns-clause-clean : goal.returns-clause-clean
returns-clause-clean g c = end_clean (g.S.Source.faults c.args.src.now) (g.S.Source.faults c.read_all.new.src) (g.S.Source.left c.args.src.now)
    (g.S.Source.left c.read_all.new.src) c.in-Ok.bytes c.in-Ok.ensures.clean c.in-Ok.ensures.whole
