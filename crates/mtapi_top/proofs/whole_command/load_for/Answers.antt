use Rattle.std.proofs.Common.{Some}
use Rattle.mtapi_top.proofs.Refused.{read_is_workload}
use Rattle.mtapi_top.proofs.whole_command.load_for.Goals as goal

pub returns-in-Report-clause-workload : goal.returns-in-Report-clause-workload
returns-in-Report-clause-workload g c =
    read_is_workload (Some c.args.asked.now) (g.S.Source.left c.args.src.now)
    (g.S.Source.left c.read_workload.new.src) c.read_workload.result c.read_workload.ensures.exact
