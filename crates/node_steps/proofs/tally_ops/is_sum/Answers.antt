use Rattle.node_steps.proofs.Names.{FitsSigned, w64, ◌+ℤ◌, to_z-of_z, fits_from}
use Rattle.node_steps.proofs.TallySteps.{none_fits}
use Rattle.node_steps.proofs.tally_ops.is_sum.Goals as goal

pub returns-in-None-clause-other : goal.returns-in-None-clause-other
returns-in-None-clause-other c e =
    let kept_fits : FitsSigned w64 c.args.kept = c.ranges.kept in
    let number_fits : FitsSigned w64 c.args.number = c.ranges.number in
    none_fits (c.args.kept +ℤ c.args.number) (simp to_z-of_z at c.in-None.ensures) (rw (← e) (fits_from c.args.value c.ranges.value))
