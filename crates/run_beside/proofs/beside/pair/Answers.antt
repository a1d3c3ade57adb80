use Rattle.std.proofs.Common.{◌≡◌, Bool, true, rules, subst}
use Rattle.std.specs.Bool.{OnTrue}
use Rattle.run_beside.proofs.PairRuns.{IfOk-alike}
use Rattle.run_beside.proofs.beside.pair.Goals as goal

pub returns-clause-ran : goal.returns-clause-ran
returns-clause-ran g c =
    let admitted : c.admits.result ≡ true = (let b = c.if-not-admits.false in cc) in
    IfOk-alike g.F.FnOnce g.B.Beside.refusals c.args.b c.args.carry c.scoped-back.result.1 _ _ _ _
    (subst (λ (b : Bool). OnTrue b (g.B.Beside.refusals c.admits.new.self ≡ g.B.Beside.refusals c.args.beside.now)) admitted c.admits.ensures.stays)
    c.scoped-back.ensures.1.1.1.0 (search rules)
