use Rattle.node_resources.proofs.Names.{refl, sym, ◌∙◌, ErrMutexInvalid, mutex_unlock_refusals, unlocked, Mutexes, the_view}
use Rattle.mtapi_machine.specs.declared.ops.Op.TheVariants as op
use Rattle.node_resources.proofs.KindSteps.{kind_does}
use Rattle.node_resources.proofs.RowLemmas.{past_up, alters_does}
use Rattle.node_resources.proofs.Resources.mutex_unlock.Goals as goal

pub returns : goal.returns
returns c s a v =
    let w = rw (← c.self.view_is) at v in
    kind_does Mutexes tt s c.args.who (op.MutexUnlock c.args.mutex c.args.key) _ (the_view c.self.inside) w c.done.result c.change.new.self c.done.ensures
    (past_up Mutexes s c.args.gate c.args.who a _ _ _ (sym c.in_default.is
    ∙ c.refusal.ensures) (alters_does Mutexes s c.self.inside.mutexes w.mutexes ErrMutexInvalid refl c.args.mutex.0
    (mutex_unlock_refusals c.args.who c.args.key) unlocked c.change.result c.change.new.self c.change.ensures.refused c.change.ensures.new
    c.change.ensures.unchanged))
