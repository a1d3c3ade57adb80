use Rattle.workload_runners.proofs.Names.{◌+ℤ◌, ◌≡◌, FitsSigned, fitting, fitting_from, subst, to_z-of_z, w64, ℤ}
use Rattle.workload_runners.proofs.tallies.sum_of.Goals as goal

pub returns : goal.returns
returns c =
    let kept_fits : FitsSigned w64 c.args.kept = c.ranges.kept in
    let number_fits : FitsSigned w64 c.number_in.result = record { sfits = c.number_in.type_inv } in
    subst (λ (z : ℤ). c.checked_add.result ≡ fitting (c.args.kept +ℤ z)) c.number_in.ensures
    (fitting_from (c.args.kept +ℤ c.number_in.result) c.checked_add.result (simp to_z-of_z at c.checked_add.ensures))
