use Rattle.group_core.proofs.Names.{refl, slot_value}
use Rattle.group_core.proofs.GroupLemmas.{live_tells, dead_tells, get-live, get-dead, within_unended, within_ended}
use Rattle.group_core.proofs.Groups.left.Goals as goal

pub returns-then-not-is_live : goal.returns-then-not-is_live
returns-then-not-is_live c =
    let dead = dead_tells c.is_live.result (slot_value c.self.inside.pool c.args.g.0) c.is_live.ensures c.if-not-is_live.true in
    rw (get-dead c.self.inside.pool c.self.inside.unended c.self.inside.ended c.args.g.0 c.args.self.now c.self.view_is dead) refl

pub returns : goal.returns
returns c =
    let live = live_tells c.is_live.result (slot_value c.self.inside.pool c.args.g.0) c.is_live.ensures c.if-not-is_live.false in
    rw (
      get-live c.self.inside.pool c.self.inside.unended c.self.inside.ended c.args.g.0 c.args.self.now c.self.view_is live,
      c.len.ensures.count,
      c.len-ended.ensures.count,
      c.slot_of-slot.ensures,
    ) refl

pub len-ended-requires : goal.len-ended-requires
len-ended-requires c =
    let live = live_tells c.is_live.result (slot_value c.self.inside.pool c.args.g.0) c.is_live.ensures c.if-not-is_live.false in
    rw c.slot_of-slot.ensures (within_ended c.self.inside.pool c.self.inside.unended c.self.inside.ended c.args.g.0 c.self.invariant live)

pub len-requires : goal.len-requires
len-requires c =
    let live = live_tells c.is_live.result (slot_value c.self.inside.pool c.args.g.0) c.is_live.ensures c.if-not-is_live.false in
    rw c.slot_of-slot.ensures (within_unended c.self.inside.pool c.self.inside.unended c.self.inside.ended c.args.g.0 c.self.invariant live)
