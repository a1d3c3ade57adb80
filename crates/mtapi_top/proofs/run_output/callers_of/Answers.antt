use Rattle.mtapi_top.proofs.Names.{List, length, ap, arith, Part}
use Rattle.mtapi_top.proofs.Carried.{has_part}
use Rattle.mtapi_top.proofs.run_output.callers_of.Goals as goal

pub returns-clause-range : goal.returns-clause-range
returns-clause-range c =
    let some = has_part c.args.load.now c.requires in
    let few = c.requires.count in
    let same = ap (λ (ps : List Part). length ps) c.as_slice.ensures in
    (omega arith, omega arith)
