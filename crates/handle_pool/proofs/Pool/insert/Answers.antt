use Rattle.handle_pool.proofs.PlaceLemmas.{IsSound-fill, Inserts-fill}
use Rattle.handle_pool.proofs.Pool.insert.Goals as goal

pub invariant_of-self : goal.invariant_of-self
invariant_of-self g c =
    rw c.fill-generation.ensures.now (IsSound-fill _ _ _ _ _ _ _ c.args.value c.self.invariant c.fill-generation.ensures.was)

pub returns-clause-inserts : goal.returns-clause-inserts
returns-clause-inserts g c =
    rw (← c.self.view_is, c.fill-generation.ensures.now, c.from.ensures)
    (Inserts-fill _ _ _ _ _ _ _ c.args.value c.self.invariant c.fill-generation.ensures.was)
