use Rattle.std.proofs.Common.{◌≡◌, ℕ, Some, refl}
use Rattle.handle_pool.specs.Slots.{slot_value}
use Rattle.handle_pool.proofs.GetLemmas.{get-insert_same}
use Rattle.group_core.specs.Members.{GroupTable, no_members, with_member, with_ended}
use Rattle.object_tests.proofs.MemberLemmas.{value-after}
use Rattle.object_tests.proofs.groups.with_two.Goals as goal

-- src/tests.rt:70:5
pub ended-requires : goal.ended-requires
ended-requires c =
    let none = get-insert_same _ c.create.new.self.pool c.in-Ok.g.0 no_members c.in-Ok.ensures.1 in
    let one = value-after c.create.new.self c.enter.new.self c.in-Ok.g.0 (with_member 4294967296) _ c.enter.ensures none in
    let two = value-after c.enter.new.self c.enter-2.new.self c.in-Ok.g.0 (with_member 4294967297) _ c.enter-2.ensures one in
    rw two refl

-- src/tests.rt:74:5
pub ended-requires-2 : goal.ended-requires-2
ended-requires-2 c =
    let none = get-insert_same _ c.create.new.self.pool c.in-Ok.g.0 no_members c.in-Ok.ensures.1 in
    let one = value-after c.create.new.self c.enter.new.self c.in-Ok.g.0 (with_member 4294967296) _ c.enter.ensures none in
    let two = value-after c.enter.new.self c.enter-2.new.self c.in-Ok.g.0 (with_member 4294967297) _ c.enter-2.ensures one in
    let three = value-after c.enter-2.new.self c.ended.new.self c.in-Ok.g.0 (with_ended 4294967297) _ c.ended.ensures two in
    rw three refl
