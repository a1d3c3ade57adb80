use Rattle.keyed_pool.proofs.IndexLemmas.{IsIndexed-new}
use Rattle.keyed_pool.proofs.KeyedPool.new.Goals as goal

pub invariant_of-result : goal.invariant_of-result
invariant_of-result g c =
    let room = c.in_ok-with_capacity.ensures in
    IsIndexed-new g.T.HasId.id_of c.in_ok-new.field-0 c.args.max _ _ _ c.in_ok-new.ensures.slots room.items room.len room.capacity
