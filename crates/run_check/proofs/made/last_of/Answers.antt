use Rattle.run_check.proofs.Names.{◌∙◌, sym, subst, true, false, IsStated}
use Rattle.run_check.proofs.Stated.{look_is_stated}
use Rattle.run_check.proofs.Fronts.{no_look}
use Rattle.run_check.proofs.made.last_of.Goals as goal

pub returns-clause-none : goal.returns-clause-none
returns-clause-none c =
    let w = c.args.wanted in
    no_look w c.requires.timed c.args.op.now
    (λ e. absurd (let x = c.if-same_op.ensures.other (subst IsStated (sym c.op.ensures) (look_is_stated w c.requires.timed true)) (e ∙ sym c.op.ensures) in cc))
    (λ e. absurd (let x = c.if-same_op-2.ensures.other (subst IsStated (sym c.op-2.ensures) (look_is_stated w c.requires.timed false)) (e
    ∙ sym c.op-2.ensures) in cc))
