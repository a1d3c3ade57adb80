use Rattle.node_resources.proofs.Names.{refl, sym, ◌∙◌, ErrShmInvalid, cell_refusals, cell_of, Segments, the_view}
use Rattle.mtapi_machine.specs.declared.replies.Reply.TheVariants as reply
use Rattle.mtapi_machine.specs.declared.ops.Op.TheVariants as op
use Rattle.node_resources.proofs.KindSteps.{kind_does}
use Rattle.node_resources.proofs.RowLemmas.{past_up, reads_does}
use Rattle.node_resources.proofs.Resources.shmem_read.Goals as goal

pub returns : goal.returns
returns c s a v =
    let w = rw (← c.self.view_is) at v in
    rw (← c.self.view_is) (kind_does Segments tt s c.args.who (op.ShmemRead c.args.shmem c.args.cell) _
    (the_view c.self.inside) w c.number_read.result c.self.inside.segments c.number_read.ensures
    (past_up Segments s c.args.gate c.args.who a _ _ _ (sym c.in_default.is
    ∙ c.refusal.ensures) (reads_does Segments s c.self.inside.segments w.segments ErrShmInvalid refl c.args.shmem.0 reply.Number (cell_of c.args.cell)
    (cell_refusals c.args.who c.args.cell) c.read.result c.read.ensures)))
