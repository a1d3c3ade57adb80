use Rattle.node_resources.proofs.Names.{refl, sym, ◌∙◌, ErrRwlInvalid, rwl_unlock_refusals, rwl_given, Rwls, the_view}
use Rattle.mtapi_machine.specs.declared.ops.Op.TheVariants as op
use Rattle.node_resources.proofs.KindSteps.{kind_does}
use Rattle.node_resources.proofs.RowLemmas.{past_up, alters_does}
use Rattle.node_resources.proofs.Resources.rwl_unlock.Goals as goal

pub returns : goal.returns
returns c s a v =
    let w = rw (← c.self.view_is) at v in
    kind_does Rwls tt s c.args.who (op.RwlUnlock c.args.rwl c.args.writer) _ (the_view c.self.inside) w c.done.result c.change.new.self c.done.ensures
    (past_up Rwls s c.args.gate c.args.who a _ _ _ (sym c.in_default.is
    ∙ c.refusal.ensures) (alters_does Rwls s c.self.inside.rwls w.rwls ErrRwlInvalid refl c.args.rwl.0 (rwl_unlock_refusals c.args.who c.args.writer)
    (rwl_given c.args.who c.args.writer) c.change.result c.change.new.self c.change.ensures.refused c.change.ensures.new c.change.ensures.unchanged))
