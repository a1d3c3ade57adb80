use Rattle.handle_pool.proofs.FreshLemmas.{fresh-slots}
use Rattle.handle_pool.proofs.PlaceLemmas.{IsSound-fresh}
use Rattle.handle_pool.proofs.Pool.new.Goals as goal

pub invariant_of-result : goal.invariant_of-result
invariant_of-result g c =
    rw c.in_ok-places.ensures.fresh (IsSound-fresh c.args.max c.args.generations c.requires.some c.requires.few (c.requires.once, c.ranges.generations.fits))

pub returns-clause-slots : goal.returns-clause-slots
returns-clause-slots g c = rw c.in_ok-places.ensures.fresh (fresh-slots 0 c.args.max c.args.generations)
