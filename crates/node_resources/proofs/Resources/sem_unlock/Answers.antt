use Rattle.node_resources.proofs.Names.{refl, sym, ◌∙◌, ErrSemInvalid, sem_unlock_refusals, sem_given, Sems, the_view}
use Rattle.mtapi_machine.specs.declared.ops.Op.TheVariants as op
use Rattle.node_resources.proofs.KindSteps.{kind_does}
use Rattle.node_resources.proofs.RowLemmas.{past_up, alters_does}
use Rattle.node_resources.proofs.Resources.sem_unlock.Goals as goal

pub returns : goal.returns
returns c s a v =
    let w = rw (← c.self.view_is) at v in
    kind_does Sems tt s c.args.who (op.SemUnlock c.args.sem) _ (the_view c.self.inside) w c.done.result c.change.new.self c.done.ensures
    (past_up Sems s c.args.gate c.args.who a _ _ _ (sym c.in_default.is
    ∙ c.refusal.ensures) (alters_does Sems s c.self.inside.sems w.sems ErrSemInvalid refl c.args.sem.0 (sem_unlock_refusals c.args.who)
    (sem_given c.args.who) c.change.result c.change.new.self c.change.ensures.refused c.change.ensures.new c.change.ensures.unchanged))
