use Rattle.node_resources.proofs.Names.{refl, sym, ◌∙◌, false, ErrShmInvalid, detach_refusals, with_attached, Segments, the_view}
use Rattle.mtapi_machine.specs.declared.ops.Op.TheVariants as op
use Rattle.node_resources.proofs.KindSteps.{kind_does}
use Rattle.node_resources.proofs.RowLemmas.{past_up, alters_does}
use Rattle.node_resources.proofs.Resources.shmem_detach.Goals as goal

pub returns : goal.returns
returns c s a v =
    let w = rw (← c.self.view_is) at v in
    kind_does Segments tt s c.args.who (op.ShmemDetach c.args.shmem) _ (the_view c.self.inside) w c.done.result c.change.new.self c.done.ensures
    (past_up Segments s c.args.gate c.args.who a _ _ _ (sym c.in_default.is
    ∙ c.refusal.ensures) (alters_does Segments s c.self.inside.segments w.segments ErrShmInvalid refl c.args.shmem.0 (detach_refusals c.args.who)
    (with_attached c.args.who false) c.change.result c.change.new.self c.change.ensures.refused c.change.ensures.new c.change.ensures.unchanged))
