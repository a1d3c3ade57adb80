use Rattle.std.proofs.Common.{pos, ◌+ℤ◌, get_or, FitsSigned, w64, rules}
use Rattle.std.proofs.lemmas.Int.{to_z-of_z}
use Rattle.action_fn.proofs.Numbers.{fold_step}
use Rattle.action_fn.proofs.actions.+sum_from.Goals as goal

pub returns-in_ok-plus-in-len1-up : goal.returns-in_ok-plus-in-len1-up
returns-in_ok-plus-in-len1-up t c =
    let so_far_fits : FitsSigned w64 c.args.so_far = c.ranges.so_far in
    let value_fits : FitsSigned w64 (get_or c.args.values.now 0 (pos 0)) = search rules in
    let sum_fits : FitsSigned w64 c.in_ok-plus-in-len1-up.field-0 = search rules in
    fold_step ◌+ℤ◌ c.args.so_far c.in_ok-plus-in-len1-up.field-0 c.args.values.now _ _ c.in-len1-up.len_at_least
    (simp to_z-of_z at c.plus.ensures) c.in_ok-plus-in-len1-up.was (simp to_z-of_z at c.sum_from.ensures)
