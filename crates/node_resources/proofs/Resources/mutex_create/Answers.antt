use Rattle.node_resources.proofs.Names.{refl, sym, ◌∙◌, subst, ErrMutexExists, ErrMutexLimit, new_mutex, keyed_mutexes, Mutexes, ResourceTable, ResourcesStand, the_view}
use Rattle.mtapi_machine.specs.declared.ops.Op.TheVariants as op
use Rattle.node_resources.proofs.KindSteps.{kind_does}
use Rattle.node_resources.proofs.RowLemmas.{as_was, past_open, creates_does, refuses_does}
use Rattle.node_resources.proofs.Resources.mutex_create.Goals as goal
use Rattle.node_resources.proofs.Resources.mutex_create.Goals.{in-Ok, in-Err}

pub returns : goal.returns
returns c s a v =
    let t = subst (λ (t : ResourceTable). ResourcesStand s t) (sym c.self.view_is) v in
    let p = c.self.inside.mutexes in
    let x = new_mutex c.args.id c.args.recursive in
    let g = sym c.in_default.is ∙ c.open_refusal.ensures in
    elim c.match-create.branch [
      | in-Ok w ↦
          kind_does Mutexes tt s c.args.who (op.MutexCreate c.args.id c.args.recursive) _
          (the_view c.self.inside) t c.match-create.result c.create.new.self w.result-is
          (past_open Mutexes s c.args.gate c.args.who a _ _ _ g
          (creates_does Mutexes s keyed_mutexes p t.mutexes x c.args.id w.in-Ok.mutex.0 c.create.new.self refl w.in-Ok.ensures.new_id w.in-Ok.ensures.room
          w.in-Ok.ensures.made a.layout))
      | in-Err w ↦
          kind_does Mutexes tt s c.args.who (op.MutexCreate c.args.id c.args.recursive) _
          (the_view c.self.inside) t c.match-create.result c.create.new.self w.result-is
          (past_open Mutexes s c.args.gate c.args.who a _ _ _ g
          (as_was Mutexes s _ _ p c.create.new.self w.in-Err.ensures.unchanged
          (refuses_does Mutexes s keyed_mutexes p t.mutexes ErrMutexExists ErrMutexLimit refl refl x c.args.id w.in-Err.status refl
          w.in-Err.ensures.refused)))
    ]
