use Rattle.group_core.proofs.Names.{◌≡◌, ◌++◌, ◌∷◌, [], refl, subst, slot_of, HandleLists, list_at, without_handle, with_list, NowhereAt, with_ended, stands-has, stands-without}
use Rattle.group_core.proofs.GroupLemmas.{member_from, within_ended, view_changed, moved, AreGroups-fewer, AreGroups-ended}
use Rattle.group_core.proofs.Groups.ended.Goals as goal

pub returns : goal.returns
returns c =
    let member = member_from c.self.inside.pool c.self.inside.unended c.self.inside.ended c.args.g.0 c.args.self.now c.args.t.0 c.self.view_is c.requires in
    let list = without_handle c.args.t.0 (list_at c.self.inside.unended.lists (slot_of c.args.g.0)) in
    let fewer = AreGroups-fewer c.self.inside.pool c.self.inside.unended c.self.inside.ended c.args.g.0 c.self.invariant member.0 list
    (λ q. stands-without q c.args.t.0 (list_at c.self.inside.unended.lists (slot_of c.args.g.0))) in
    let without_it : c.remove.new.self ≡ with_list c.self.inside.unended (slot_of c.args.g.0) list = rw (← c.slot_of-slot.ensures) c.remove.ensures.new in
    rw (c.push.ensures, without_it, c.slot_of-slot.ensures)
    (view_changed c.self.inside.pool c.self.inside.unended c.self.inside.ended c.args.g.0 c.self.invariant member.0 c.args.self.now
    (with_list c.self.inside.unended (slot_of c.args.g.0) list)
    (with_list c.self.inside.ended (slot_of c.args.g.0) ((list_at c.self.inside.ended.lists (slot_of c.args.g.0)) ++ c.args.t.0 ∷ []))
    (with_ended c.args.t.0) c.self.view_is (moved c.self.inside.pool c.self.inside.unended c.self.inside.ended c.args.g.0 c.args.t.0 c.self.invariant
    member.0 fewer) refl)

pub remove-requires : goal.remove-requires
remove-requires c = rw c.slot_of-slot.ensures
    (member_from c.self.inside.pool c.self.inside.unended c.self.inside.ended c.args.g.0 c.args.self.now c.args.t.0 c.self.view_is c.requires).1

pub push-requires-clause-list : goal.push-requires-clause-list
push-requires-clause-list c =
    let member = member_from c.self.inside.pool c.self.inside.unended c.self.inside.ended c.args.g.0 c.args.self.now c.args.t.0 c.self.view_is c.requires in
    rw c.slot_of-slot.ensures (within_ended c.self.inside.pool c.self.inside.unended c.self.inside.ended c.args.g.0 c.self.invariant member.0)

pub push-requires-clause-place : goal.push-requires-clause-place
push-requires-clause-place c = rw c.self.invariant.places c.remove.ensures.place

pub push-requires-clause-nowhere : goal.push-requires-clause-nowhere
push-requires-clause-nowhere c =
    let member = member_from c.self.inside.pool c.self.inside.unended c.self.inside.ended c.args.g.0 c.args.self.now c.args.t.0 c.self.view_is c.requires in
    λ number. c.self.invariant.apart (slot_of c.args.g.0) number (slot_of c.args.t.0)
    (stands-has c.args.t.0 (list_at c.self.inside.unended.lists (slot_of c.args.g.0)) member.1)

pub invariant_of-self : goal.invariant_of-self
invariant_of-self c =
    let member = member_from c.self.inside.pool c.self.inside.unended c.self.inside.ended c.args.g.0 c.args.self.now c.args.t.0 c.self.view_is c.requires in
    let list = without_handle c.args.t.0 (list_at c.self.inside.unended.lists (slot_of c.args.g.0)) in
    let fewer = AreGroups-fewer c.self.inside.pool c.self.inside.unended c.self.inside.ended c.args.g.0 c.self.invariant member.0 list
    (λ q. stands-without q c.args.t.0 (list_at c.self.inside.unended.lists (slot_of c.args.g.0))) in
    let without_it : c.remove.new.self ≡ with_list c.self.inside.unended (slot_of c.args.g.0) list = rw (← c.slot_of-slot.ensures) c.remove.ensures.new in
    let P : HandleLists → Type 0 = λ ls. NowhereAt (slot_of c.args.t.0) ls.lists in
    rw (c.push.ensures, without_it, c.slot_of-slot.ensures)
    (AreGroups-ended c.self.inside.pool (with_list c.self.inside.unended (slot_of c.args.g.0) list) c.self.inside.ended c.args.g.0 fewer member.0 c.args.t.0
    (subst P without_it c.remove.ensures.gone))
