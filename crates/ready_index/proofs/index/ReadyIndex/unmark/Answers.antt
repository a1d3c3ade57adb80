use Rattle.std.proofs.Common.{◌≡◌, true, is_some, sym, ◌∙◌}
use Rattle.ready_index.specs.Marks.{mark_at}
use Rattle.ready_index.proofs.MarkLemmas.{mark_of, marked_below, known_in, room_in, AreMarks-taken}
use Rattle.ready_index.proofs.index.ReadyIndex.unmark.Goals as goal

pub put_all-requires-clause-known : goal.put_all-requires-clause-known
put_all-requires-clause-known c =
    let marked : is_some (mark_at c.self.inside.marks.items c.args.slot) ≡ true = rw (← c.self.view_is) at c.requires in
    known_in c.self.inside.marks.items c.self.inside.workers.items c.deref_mut.result.now c.self.inside.priorities c.args.slot c.in-Some.mark c.self.invariant
    c.deref_mut.ensures.value
    (mark_of c.self.inside.marks.items c.args.slot c.index_mut.result.now c.in-Some.mark marked c.index_mut.ensures.value c.in-Some.ensures.value)

pub put_all-requires-clause-room : goal.put_all-requires-clause-room
put_all-requires-clause-room c =
    let marked : is_some (mark_at c.self.inside.marks.items c.args.slot) ≡ true = rw (← c.self.view_is) at c.requires in
    room_in c.self.inside.marks.items c.self.inside.workers.items c.deref_mut.result.now c.self.inside.priorities c.args.slot c.in-Some.mark c.self.invariant
    c.deref_mut.ensures.value
    (mark_of c.self.inside.marks.items c.args.slot c.index_mut.result.now c.in-Some.mark marked c.index_mut.ensures.value c.in-Some.ensures.value)
    (marked_below c.self.inside.marks.items c.args.slot marked)

pub invariant_of-self : goal.invariant_of-self
invariant_of-self c =
    let marked : is_some (mark_at c.self.inside.marks.items c.args.slot) ≡ true = rw (← c.self.view_is) at c.requires in
    AreMarks-taken c.self.inside.marks.items c.self.inside.workers.items c.deref_mut.result.now c.put_all.new.workers c.self.inside.workers.len
    c.self.inside.priorities c.args.slot c.in-Some.mark c.take.new.self c.self.invariant c.deref_mut.ensures.value
    (mark_of c.self.inside.marks.items c.args.slot c.index_mut.result.now c.in-Some.mark marked c.index_mut.ensures.value c.in-Some.ensures.value)
    (marked_below c.self.inside.marks.items c.args.slot marked)
    c.take.ensures.after (sym c.deref_mut.ensures.len ∙ sym c.put_all.ensures.len) c.put_all.ensures.slots c.put_all.ensures.same c.put_all.ensures.len
