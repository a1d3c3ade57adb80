use Rattle.std.proofs.Common.{FitsSigned, w64}
use Rattle.std.proofs.lemmas.Int.{to_z-of_z}
use Rattle.workload_runners.proofs.TallySeat.{writes_cell}
use Rattle.workload_runners.proofs.tallies.write_cell.Goals as goal

pub returns-in-Ok-clause-written : goal.returns-in-Ok-clause-written
returns-in-Ok-clause-written g c =
    let sum_fits : FitsSigned w64 c.args.sum = c.ranges.sum in
    writes_cell c.args.seat.now c.turn.new.seat c.in-Ok.field-0 c.args.task c.args.args.now c.args.kept c.args.sum c.requires.may c.requires.sum
    (simp to_z-of_z at c.in-Ok.ensures.turned)
