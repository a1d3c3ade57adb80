use Rattle.std.proofs.Common.{◌≡◌, length, vec_len, sym, ◌∙◌, rules}
use Rattle.mcapi_msg.proofs.BoxLemmas.{kept-without, reserve_fits}
use Rattle.mcapi_msg.proofs.boxes.Boxes.remove.Goals as goal

pub push_reserved-requires : goal.push_reserved-requires
push_reserved-requires c =
    let found = sym c.remove.ensures.value ∙ c.in-Some.is in
    let len : vec_len c.self.inside.spare ≡ length c.self.inside.spare.items = search rules in
    rw len (reserve_fits c.self.inside.limit _ c.args.at.0 c.self.inside.pool _ c.self.inside.spare.items c.self.invariant found)

pub invariant_of-self : goal.invariant_of-self
invariant_of-self c =
    let found = sym c.remove.ensures.value ∙ c.in-Some.is in
    rw (c.push_reserved.ensures.capacity, c.in-Some.ensures.removed)
    (kept-without c.self.inside.limit _ c.args.at.0 c.self.inside.pool c.in-Some.mailbox c.self.inside.spare.items c.push_reserved.new.self.items
    c.clear.new.self c.self.invariant found c.clear.ensures c.push_reserved.ensures.items)
