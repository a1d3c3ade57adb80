-- `==` of replies says whether the two are equal.
use Rattle.std.proofs.Common.{◌≡◌, Bool, sym, subst}
use Rattle.std.specs.Bool.{Decides}
use Rattle.mtapi_machine.proofs.Equal.{reply_decides}
use Rattle.mtapi_renaming.proofs.equal.same_reply.Goals as goal

pub returns : goal.returns
returns c = subst (λ (b : Bool). Decides b (c.args.a.now ≡ c.args.b.now)) (sym c.eq.ensures) (reply_decides c.args.a.now c.args.b.now)
