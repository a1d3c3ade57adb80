use Rattle.node_steps.proofs.Names.{FitsSigned, w64, to_z-of_z, fitting_from}
use Rattle.node_steps.proofs.tally_ops.plus.Goals as goal

pub returns : goal.returns
returns c =
    let a_fits : FitsSigned w64 c.args.a = c.ranges.a in
    let b_fits : FitsSigned w64 c.args.b = c.ranges.b in
    fitting_from _ _ (simp to_z-of_z at c.checked_add.ensures)
