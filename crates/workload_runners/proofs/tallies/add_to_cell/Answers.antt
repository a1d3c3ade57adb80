use Rattle.workload_runners.proofs.Names.{FitsSigned, FitsSigned-from, IfOk-weaker, to_z-of_z, w64}
use Rattle.workload_runners.proofs.TallySeat.{adds_sum, adds_nothing}
use Rattle.workload_runners.proofs.tallies.add_to_cell.Goals as goal

pub returns-in-Some-clause-added : goal.returns-in-Some-clause-added
returns-in-Some-clause-added g c = IfOk-weaker c.write_cell.result _ _
    (λ x y. adds_sum c.args.seat.now c.read_cell.new.seat c.write_cell.new.seat c.args.task c.args.args.now c.in-Ok.kept _ _ c.in-Ok.ensures.read y)
    c.write_cell.ensures.written

pub returns-in-None-clause-added : goal.returns-in-None-clause-added
returns-in-None-clause-added g c =
    let kept_fits : FitsSigned w64 c.in-Ok.kept = FitsSigned-from c.in-Ok.kept c.in-Ok.ensures.range in
    adds_nothing c.args.seat.now c.read_cell.new.seat c.args.task c.args.args.now c.in-Ok.kept c.in-Ok.ensures.read (simp to_z-of_z at c.in-None.ensures)
