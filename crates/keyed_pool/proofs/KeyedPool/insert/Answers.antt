use Rattle.std.proofs.Common.{vec_len, vec_capacity}
use Rattle.std.specs.Prelude.{slice_index_or}
use Rattle.std.proofs.lemmas.List.{get_or_default}
use Rattle.keyed_pool.specs.declared.IndexEntry.{IndexEntry}
use Rattle.keyed_pool.proofs.IndexLemmas.{found_live, spare, IsIndexed-grown}
use Rattle.keyed_pool.proofs.KeyedPool.insert.Goals as goal

pub returns-in-Ok-clause-refused : goal.returns-in-Ok-clause-refused
returns-in-Ok-clause-refused g c =
    let entries = c.self.inside.entries.items in
    let none : IndexEntry = record { id = 0; handle = 0 } in
    let e : IndexEntry = slice_index_or entries c.in-Ok.field-0 none in
    let located = rw (c.deref.ensures.value, c.id-id.ensures) at c.in-Ok.ensures in
    let live = found_live g.T.HasId.id_of c.self.inside.pool entries _ _ c.self.invariant _ c.in-Ok.field-0 e located
    (get_or_default entries c.in-Ok.field-0 none e located.0) in
    rw (← c.self.view_is) (e.handle, live.0, live.1, live.2)

pub invariant_of-self-2 : goal.invariant_of-self-2
invariant_of-self-2 g c =
    let p = c.self.inside.pool in
    let entries = c.self.inside.entries in
    let grown = c.insert-2.ensures in
    let inserts = c.in-Ok-insert.ensures.inserts in
    let room = spare g.T.HasId.id_of p entries.items (vec_len entries)
    (vec_capacity entries) c.self.invariant c.insert.new.self c.in-Ok-insert.handle c.args.value inserts in
    IsIndexed-grown g.T.HasId.id_of p entries.items (vec_len entries)
    (vec_capacity entries) c.self.invariant c.insert-2.result c.insert.new.self c.in-Ok-insert.handle c.id-id.result c.in-Err.place c.args.value _ _ _
    (grown.succeeds room) grown.items grown.len grown.capacity c.id-id.ensures inserts (rw c.deref.ensures.value at c.in-Err.ensures)
