-- What ties the members that groups keep to the tasks.
use Rattle.std.specs.Prelude.{◌≡◌, IsSome, ℕ, ◌<◌, ◌==◌, is_none, Bool, false, Option, Some, None, if◌then◌else◌}
use Rattle.task_board.specs.Names.{holds, Slots, slot_value, changed, Task, end_of, Group, new_group, Members, GroupTable, with_member, with_ended}
use Rattle.task_core.specs.Records.{number_noted}
use Rattle.task_board.specs.Mapped.{mapped}
use Rattle.task_board.specs.Keyed.{AreKeyed}

-- the slots of the groups without their members
abbrev pub without_members : Slots Members → Slots Group
without_members p = mapped (λ m. new_group) p

-- what groups see of a live task that names one: the group, whether the task is detached, the number of its start, and that of its end, if it has ended
pub record Membership : Type 0 where
  pub group : ℕ
  pub detached : Bool
  pub start : ℕ
  pub end : Option ℕ

abbrev pub member_as : Task → Option ℕ → Option Membership
member_as t None = None
member_as t (Some g) = Some (record { group = g; detached = t.notes.detached; start = t.start; end = number_noted (end_of t.state) })

-- a task that names no group isn't seen
abbrev pub membership : Option Task → Option Membership
membership None = None
membership (Some t) = member_as t t.notes.group

-- what is seen by each handle
abbrev pub members_seen : Slots Task → ℕ → Option Membership
members_seen p h = membership (slot_value p h)

-- the number, where there is no end
abbrev pub unless_ended : Option ℕ → ℕ → Option ℕ
unless_ended None n = Some n
unless_ended (Some k) n = None

-- the number of the start of a member of this group that hasn't ended
abbrev pub start_in : ℕ → Option Membership → Option ℕ
start_in g None = None
start_in g (Some e) = if e.group == g then unless_ended e.end e.start else None

-- the number of the end of a member of this group that has ended
abbrev pub end_number_in : ℕ → Option Membership → Option ℕ
end_number_in g None = None
end_number_in g (Some e) = if e.group == g then e.end else None

-- the live tasks that name a group are its members: those that haven't ended in the order of their starts, the others in the order of their ends
pub record AreMembers (at : ℕ → Option Membership) (groups : ℕ → Option Members) (starts ends : ℕ) : Type 0 where
  -- a group that is named is live, and no member is detached
  pub named : (h : ℕ) (e : Membership) → at h ≡ Some e → (m : Members) × (groups e.group ≡ Some m)
  pub attached : (h : ℕ) (e : Membership) → at h ≡ Some e → e.detached ≡ false
  -- the next numbers of a start and of an end are greater
  pub started : (h : ℕ) (e : Membership) → at h ≡ Some e → e.start < starts
  pub numbered : (h n : ℕ) (e : Membership) → at h ≡ Some e → e.end ≡ Some n → n < ends
  pub unended : (g : ℕ) (m : Members) → groups g ≡ Some m → AreKeyed (λ h. start_in g (at h)) m.unended
  pub ended : (g : ℕ) (m : Members) → groups g ≡ Some m → AreKeyed (λ h. end_number_in g (at h)) m.ended

-- a new task may name this group: it is live, and the task isn't detached
abbrev pub MayJoin : Slots Members → Bool → Option ℕ → Type 0
MayJoin groups detached None = Unit {0}
MayJoin groups detached (Some g) = IsSome (slot_value groups g) × (detached ≡ false)

-- a group is named that isn't live
abbrev pub names_dead : Slots Members → Option ℕ → Bool
names_dead groups g = holds (λ h. is_none (slot_value groups h)) g

-- the groups once a task has entered the group that it names, if it names one
abbrev pub joined : GroupTable → Option ℕ → ℕ → GroupTable
joined t None h = t
joined t (Some g) h = record t { pool = changed t.pool g (with_member h) }

-- the groups once a member of this group, if it is one, has ended
abbrev pub ended_member : GroupTable → Option ℕ → ℕ → GroupTable
ended_member t None h = t
ended_member t (Some g) h = record t { pool = changed t.pool g (with_ended h) }
