use Rattle.node_resources.proofs.Names.{refl, sym, ◌∙◌, ErrSemInvalid, sem_delete_refusals, Sems, the_view}
use Rattle.mtapi_machine.specs.declared.ops.Op.TheVariants as op
use Rattle.node_resources.proofs.KindSteps.{kind_does}
use Rattle.node_resources.proofs.RowLemmas.{past_open, deletes_does}
use Rattle.node_resources.proofs.Resources.sem_delete.Goals as goal

pub returns : goal.returns
returns c s a v =
    let w = rw (← c.self.view_is) at v in
    kind_does Sems tt s c.args.who (op.SemDelete c.args.sem) _ (the_view c.self.inside) w c.done.result c.delete.new.self c.done.ensures
    (past_open Sems s c.args.gate c.args.who a _ _ _ (sym c.in_default.is
    ∙ c.open_refusal.ensures) (deletes_does Sems s c.self.inside.sems w.sems ErrSemInvalid refl c.args.sem.0 sem_delete_refusals c.delete.result
    c.delete.new.self c.delete.ensures.refused c.delete.ensures.removed c.delete.ensures.unchanged))
