use Rattle.node_resources.proofs.Names.{refl, sym, ◌∙◌, ErrShmIdInvalid, keyed_segments, Segments, the_view}
use Rattle.mtapi_machine.specs.declared.ops.Op.TheVariants as op
use Rattle.node_resources.proofs.KindSteps.{got, got_none}
use Rattle.node_resources.proofs.Resources.shmem_get.Goals as goal

pub returns-in-Ok : goal.returns-in-Ok
returns-in-Ok c s a v =
    got Segments tt s c.args.who (op.ShmemGet c.args.id) keyed_segments c.args.gate a (the_view c.self.inside) c.args.self.now c.self.view_is v c.args.id
    (λ r. refl) (sym c.in_default.is ∙ c.refusal.ensures) c.in-Ok.shmem.0 c.in-Ok.ensures.only c.in-Ok.ensures.found

pub returns-in-Err : goal.returns-in-Err
returns-in-Err c s a v =
    got_none Segments tt s c.args.who (op.ShmemGet c.args.id) keyed_segments c.args.gate a (the_view c.self.inside) c.args.self.now c.self.view_is v c.args.id
    (λ r. refl) (sym c.in_default.is ∙ c.refusal.ensures) ErrShmIdInvalid refl c.in-Err.status c.in-Err.ensures.absent
