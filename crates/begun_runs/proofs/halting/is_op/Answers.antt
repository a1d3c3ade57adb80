-- `==` of ops says whether the two are equal, but for what a worker hands in.
use Rattle.std.proofs.Common.{◌≡◌, Bool, sym, subst}
use Rattle.std.specs.Bool.{Decides}
use Rattle.mtapi_machine.proofs.Equal.{op_decides, no_finish}
use Rattle.begun_runs.proofs.halting.is_op.Goals as goal

pub returns-in_default : goal.returns-in_default
returns-in_default c is =
    let d : Decides c.eq.result (c.args.op.now ≡ c.args.other.now) =
    subst (λ (b : Bool). Decides b (c.args.op.now ≡ c.args.other.now)) (sym c.eq.ensures)
    (op_decides c.args.op.now c.args.other.now (no_finish c.args.other.now c.in_default.not-Finish)) in
    d.0 is
