use Rattle.group_core.proofs.Names.{◌++◌, ◌∷◌, [], refl, slot_of, list_at, with_list, with_member}
use Rattle.group_core.proofs.GroupLemmas.{live_from, within_unended, unended-changed, view_changed, AreGroups-enter, nowhere_unended, nowhere_ended}
use Rattle.group_core.proofs.Groups.enter.Goals as goal

pub returns : goal.returns
returns c =
    let live = live_from c.self.inside.pool c.self.inside.unended c.self.inside.ended c.args.g.0 c.args.self.now c.self.view_is c.requires.live in
    let list = (list_at c.self.inside.unended.lists (slot_of c.args.g.0)) ++ c.args.t.0 ∷ [] in
    rw (c.push.ensures, c.slot_of.ensures) (view_changed c.self.inside.pool c.self.inside.unended c.self.inside.ended c.args.g.0 c.self.invariant live
    c.args.self.now (with_list c.self.inside.unended (slot_of c.args.g.0) list) c.self.inside.ended (with_member c.args.t.0) c.self.view_is
    (unended-changed c.self.inside.pool c.self.inside.unended c.self.inside.ended c.args.g.0 c.self.invariant live list) refl)

pub push-requires-clause-list : goal.push-requires-clause-list
push-requires-clause-list c =
    let live = live_from c.self.inside.pool c.self.inside.unended c.self.inside.ended c.args.g.0 c.args.self.now c.self.view_is c.requires.live in
    rw c.slot_of.ensures (within_unended c.self.inside.pool c.self.inside.unended c.self.inside.ended c.args.g.0 c.self.invariant live)

pub push-requires-clause-nowhere : goal.push-requires-clause-nowhere
push-requires-clause-nowhere c = nowhere_unended c.self.inside.pool c.self.inside.unended c.self.inside.ended c.args.self.now
    (slot_of c.args.t.0) c.self.view_is c.self.invariant c.requires.alone

pub invariant_of-self : goal.invariant_of-self
invariant_of-self c =
    let live = live_from c.self.inside.pool c.self.inside.unended c.self.inside.ended c.args.g.0 c.args.self.now c.self.view_is c.requires.live in
    rw (c.push.ensures, c.slot_of.ensures) (AreGroups-enter c.self.inside.pool c.self.inside.unended c.self.inside.ended c.args.g.0 c.self.invariant live
    c.args.t.0 (nowhere_ended c.self.inside.pool c.self.inside.unended c.self.inside.ended c.args.self.now
    (slot_of c.args.t.0) c.self.view_is c.self.invariant c.requires.alone))
