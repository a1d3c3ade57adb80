use Rattle.std.proofs.Common.{FitsSigned, w64}
use Rattle.std.proofs.lemmas.Int.{to_z-of_z}
use Rattle.action_fn.proofs.Numbers.{quotient_from}
use Rattle.action_fn.proofs.actions.quotient_of.Goals as goal

pub returns : goal.returns
returns c =
    let dividend_fits : FitsSigned w64 c.args.dividend = c.ranges.dividend in
    let divisor_fits : FitsSigned w64 c.args.divisor = c.ranges.divisor in
    quotient_from c.args.dividend c.args.divisor _ divisor_fits (simp to_z-of_z at c.checked_div.ensures)
