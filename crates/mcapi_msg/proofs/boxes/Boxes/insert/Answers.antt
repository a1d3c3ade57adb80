use Rattle.mcapi_msg.proofs.Names.{◌≡◌, length, vec_len, refl, sym, ap, subst, rules, Slots, slot_value, Inserts, NoneLive, Mailbox, RingTable, empty_rings, BoxTable, HasPort, HasFree, new_mailbox}
use Rattle.mcapi_msg.proofs.BoxLemmas.{kept-insert, reserve_has, popped_empty}
use Rattle.mcapi_msg.proofs.boxes.Boxes.insert.Goals as goal

pub unreachable-requires : goal.unreachable-requires
unreachable-requires c =
    let same = ap (λ (t : BoxTable). t.pool) c.self.view_is in
    let room : HasFree c.self.inside.pool = subst HasFree (sym same) c.requires.room in
    let some = reserve_has c.self.inside.limit _ c.self.inside.pool c.self.inside.spare.items c.self.invariant room in
    let len : vec_len c.self.inside.spare ≡ length c.self.inside.spare.items = search rules in
    let no = c.in_default.ensures.variant.1 (rw len some) in
    absurd (cc)

pub invariant_of-self : goal.invariant_of-self
invariant_of-self c =
    let same = ap (λ (t : BoxTable). t.pool) c.self.view_is in
    let m : Mailbox = record { port = c.args.port; owner = c.args.owner; rings = c.in-Some.rings } in
    let new : NoneLive (slot_value c.self.inside.pool) (HasPort c.args.port) =
    subst (λ (p : Slots Mailbox). NoneLive (slot_value p) (HasPort c.args.port)) (sym same) c.requires.new_port in
    rw c.pop.ensures.capacity
    (kept-insert c.self.inside.limit _ c.in-Ok.handle c.self.inside.pool c.insert.new.self m c.in-Some.rings c.self.inside.spare.items c.pop.new.self.items
    c.self.invariant c.in-Some.ensures.items refl new c.in-Ok.ensures.inserts)

pub returns-clause-made : goal.returns-clause-made
returns-clause-made c =
    let empty : c.in-Some.rings ≡ empty_rings c.self.inside.limit =
    popped_empty c.self.inside.limit _ c.self.inside.pool c.in-Some.rings c.self.inside.spare.items c.pop.new.self.items c.self.invariant
    c.in-Some.ensures.items in
    subst (λ (t : BoxTable). Inserts t.pool c.insert.new.self c.in-Ok.handle (new_mailbox c.args.port c.args.owner t.limit)) c.self.view_is
    (subst (λ (r : RingTable). Inserts c.self.inside.pool c.insert.new.self c.in-Ok.handle
    (record { port = c.args.port; owner = c.args.owner; rings = r })) empty c.in-Ok.ensures.inserts)
