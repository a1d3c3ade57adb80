use Rattle.std.proofs.Common.{Some, sym, vec_len, vec_capacity}
use Rattle.keyed_pool.proofs.IndexLemmas.{IsIndexed-without}
use Rattle.keyed_pool.proofs.KeyedPool.remove.Goals as goal

pub invariant_of-self-in-Ok : goal.invariant_of-self-in-Ok
invariant_of-self-in-Ok g c =
    let entries = c.self.inside.entries in
    let removed = c.remove-in-Ok.ensures in
    rw (c.in_ok-value.ensures.removed, removed.items)
    (IsIndexed-without g.T.HasId.id_of c.self.inside.pool entries.items (vec_len entries)
    (vec_capacity entries) c.self.invariant c.args.handle c.in_ok-value.value c.in-Ok.place _ _
    (sym {a = Some c.in_ok-value.value} c.in_ok-value.ensures.value)
    (rw (c.deref.ensures.value, c.id.ensures) at c.in-Ok.ensures) removed.len removed.capacity)
