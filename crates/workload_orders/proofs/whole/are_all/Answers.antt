use Rattle.std.proofs.Common.{rules, ◌≤◌, length}
use Rattle.workload_orders.proofs.Settled.{all_if}
use Rattle.workload_orders.proofs.whole.are_all.Goals as goal

-- src/whole.rt:15:1
pub returns : goal.returns
returns c =
    let some : 1 ≤ length c.args.reports.now.items = search rules in
    all_if c.args.load.now c.args.reports.now.items c.is_settled.result c.is_settled.ensures c.requires.formed some c.requires.shown
