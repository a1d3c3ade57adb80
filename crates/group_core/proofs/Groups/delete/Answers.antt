use Rattle.group_core.proofs.Names.{◌≡◌, [], Some, refl, subst, ◌∙◌, slot_of, slot_value, without, with_list, GroupTable, group_table_of}
use Rattle.group_core.proofs.GroupLemmas.{live_tells, dead_tells, get-live, get-dead, within_unended, within_ended, AreGroups-delete, members-delete}
use Rattle.group_core.proofs.Groups.delete.Goals as goal

pub returns-then-not-is_live-clause-reply : goal.returns-then-not-is_live-clause-reply
returns-then-not-is_live-clause-reply c =
    let dead = dead_tells c.is_live.result (slot_value c.self.inside.pool c.args.g.0) c.is_live.ensures c.if-not-is_live.true in
    rw (get-dead c.self.inside.pool c.self.inside.unended c.self.inside.ended c.args.g.0 c.args.self.now c.self.view_is dead) refl

pub returns-clause-reply : goal.returns-clause-reply
returns-clause-reply c =
    let live = live_tells c.is_live.result (slot_value c.self.inside.pool c.args.g.0) c.is_live.ensures c.if-not-is_live.false in
    rw (get-live c.self.inside.pool c.self.inside.unended c.self.inside.ended c.args.g.0 c.args.self.now c.self.view_is live) refl

pub returns-clause-ok : goal.returns-clause-ok
returns-clause-ok c =
    let live = live_tells c.is_live.result (slot_value c.self.inside.pool c.args.g.0) c.is_live.ensures c.if-not-is_live.false in
    let some : c.remove.result ≡ Some tt = c.remove.ensures.value ∙ live in
    let removed : c.remove.new.self ≡ without c.self.inside.pool c.args.g.0 = rw some at c.remove.ensures.removed in
    let P : GroupTable → Type 0 = λ o. group_table_of (without c.self.inside.pool c.args.g.0) (with_list c.self.inside.unended (slot_of c.args.g.0) [])
    (with_list c.self.inside.ended (slot_of c.args.g.0) []) ≡ record o { pool = without o.pool c.args.g.0 } in
    rw (removed, c.clear.ensures, c.clear-2.ensures, c.slot_of-slot.ensures)
    (subst P c.self.view_is (rw (members-delete c.self.inside.pool c.self.inside.unended c.self.inside.ended c.args.g.0 c.self.invariant live) refl))

pub clear-requires : goal.clear-requires
clear-requires c =
    let live = live_tells c.is_live.result (slot_value c.self.inside.pool c.args.g.0) c.is_live.ensures c.if-not-is_live.false in
    rw c.slot_of-slot.ensures (within_unended c.self.inside.pool c.self.inside.unended c.self.inside.ended c.args.g.0 c.self.invariant live)

pub clear-requires-2 : goal.clear-requires-2
clear-requires-2 c =
    let live = live_tells c.is_live.result (slot_value c.self.inside.pool c.args.g.0) c.is_live.ensures c.if-not-is_live.false in
    rw c.slot_of-slot.ensures (within_ended c.self.inside.pool c.self.inside.unended c.self.inside.ended c.args.g.0 c.self.invariant live)

pub invariant_of-self : goal.invariant_of-self
invariant_of-self c =
    let live = live_tells c.is_live.result (slot_value c.self.inside.pool c.args.g.0) c.is_live.ensures c.if-not-is_live.false in
    let some : c.remove.result ≡ Some tt = c.remove.ensures.value ∙ live in
    let removed : c.remove.new.self ≡ without c.self.inside.pool c.args.g.0 = rw some at c.remove.ensures.removed in
    rw (removed, c.clear.ensures, c.clear-2.ensures, c.slot_of-slot.ensures)
    (AreGroups-delete c.self.inside.pool c.self.inside.unended c.self.inside.ended c.args.g.0 c.self.invariant live)
