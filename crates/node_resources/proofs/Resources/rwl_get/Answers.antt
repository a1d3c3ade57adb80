use Rattle.node_resources.proofs.Names.{refl, sym, ◌∙◌, ErrRwlIdInvalid, keyed_rwls, Rwls, the_view}
use Rattle.mtapi_machine.specs.declared.ops.Op.TheVariants as op
use Rattle.node_resources.proofs.KindSteps.{got, got_none}
use Rattle.node_resources.proofs.Resources.rwl_get.Goals as goal

pub returns-in-Ok : goal.returns-in-Ok
returns-in-Ok c s a v =
    got Rwls tt s c.args.who (op.RwlGet c.args.id) keyed_rwls c.args.gate a (the_view c.self.inside) c.args.self.now c.self.view_is v c.args.id (λ r. refl)
    (sym c.in_default.is ∙ c.refusal.ensures) c.in-Ok.rwl.0 c.in-Ok.ensures.only c.in-Ok.ensures.found

pub returns-in-Err : goal.returns-in-Err
returns-in-Err c s a v =
    got_none Rwls tt s c.args.who (op.RwlGet c.args.id) keyed_rwls c.args.gate a (the_view c.self.inside) c.args.self.now c.self.view_is v c.args.id (λ r. refl)
    (sym c.in_default.is ∙ c.refusal.ensures) ErrRwlIdInvalid refl c.in-Err.status c.in-Err.ensures.absent
