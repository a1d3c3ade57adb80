use Rattle.keyed_pool.proofs.IndexLemmas.{each, found_live}
use Rattle.keyed_pool.proofs.KeyedPool.find.Goals as goal

pub returns-in-Ok-clause-found : goal.returns-in-Ok-clause-found
returns-in-Ok-clause-found g c = rw (← c.self.view_is)
    (found_live g.T.HasId.id_of c.self.inside.pool _ _ _ c.self.invariant c.args.id c.in-Ok.place c.index.result.now
    (rw c.deref.ensures.value at c.in-Ok.ensures) c.index.ensures)

pub returns-in-Ok-clause-only : goal.returns-in-Ok-clause-only
returns-in-Ok-clause-only g c = rw (← c.self.view_is) (each g.T.HasId.id_of c.self.inside.pool _ _ _ c.self.invariant)

pub returns-in-Err-clause-only : goal.returns-in-Err-clause-only
returns-in-Err-clause-only g c = rw (← c.self.view_is) (each g.T.HasId.id_of c.self.inside.pool _ _ _ c.self.invariant)
