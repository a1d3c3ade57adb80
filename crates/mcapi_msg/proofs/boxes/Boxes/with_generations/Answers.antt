use Rattle.mcapi_msg.proofs.BoxLemmas.{kept-new}
use Rattle.mcapi_msg.proofs.boxes.Boxes.with_generations.Goals as goal

pub invariant_of-result : goal.invariant_of-result
invariant_of-result c =
    kept-new c.args.limit c.args.max _ c.in_ok-pool.pool c.in_ok-spare.spare.items c.requires.messages c.in_ok-pool.ensures.slots c.in_ok-spare.ensures.count
    c.in_ok-spare.ensures.empty c.in_ok-spare.ensures.room
