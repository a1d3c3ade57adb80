use Rattle.node_resources.proofs.Names.{refl, sym, ◌∙◌, ErrRwlInvalid, rwl_delete_refusals, Rwls, the_view}
use Rattle.mtapi_machine.specs.declared.ops.Op.TheVariants as op
use Rattle.node_resources.proofs.KindSteps.{kind_does}
use Rattle.node_resources.proofs.RowLemmas.{past_open, deletes_does}
use Rattle.node_resources.proofs.Resources.rwl_delete.Goals as goal

pub returns : goal.returns
returns c s a v =
    let w = rw (← c.self.view_is) at v in
    kind_does Rwls tt s c.args.who (op.RwlDelete c.args.rwl) _ (the_view c.self.inside) w c.done.result c.delete.new.self c.done.ensures
    (past_open Rwls s c.args.gate c.args.who a _ _ _ (sym c.in_default.is
    ∙ c.open_refusal.ensures) (deletes_does Rwls s c.self.inside.rwls w.rwls ErrRwlInvalid refl c.args.rwl.0 rwl_delete_refusals c.delete.result
    c.delete.new.self c.delete.ensures.refused c.delete.ensures.removed c.delete.ensures.unchanged))
