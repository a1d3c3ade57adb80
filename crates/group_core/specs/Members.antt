-- The groups as their calls see them: the members of each, and what the calls answer and leave.
use Rattle.std.specs.Prelude.{◌≡◌, ℕ, ◌+◌, ◌≤◌, true, false, List, [], ◌∷◌, ◌++◌, length, Option, Some, None, Result, Ok, Err, slice_get}
use Rattle.mtapi_values.specs.declared.handles.GroupHandle.{GroupHandle}
use Rattle.mtapi_values.specs.declared.statuses.MtapiStatus.{MtapiStatus}
use Rattle.mtapi_values.specs.declared.statuses.MtapiStatus.TheVariants.{ErrGroupInvalid, ErrGroupLimit}
use Rattle.handle_pool.specs.Slots.{Slots, slot_of, generation_of, used_slot, slot_value, IsFull, Inserts}
use Rattle.linked_places.specs.Lists.{HandleLists, list_at, stands_at, has_handle, without_handle}
use Rattle.linked_places.specs.Beside.{beside, pool_beside, AreBeside}

-- the members of a group that haven't ended, in the order in which they entered, and those that have ended and
-- weren't handed out, in the order of their ends
pub record Members : Type 0 where
  pub unended : List ℕ
  pub ended : List ℕ

-- the slots of the groups, and how many slots of tasks there are
pub record GroupTable : Type 0 where
  pub pool : Slots Members
  pub tasks : ℕ

-- a new group has no members
abbrev pub no_members : Members
no_members = record { unended = []; ended = [] }

-- a task enters
abbrev pub with_member : ℕ → Members → Members
with_member task m = record { unended = m.unended ++ task ∷ []; ended = m.ended }

-- a member ends
abbrev pub with_ended : ℕ → Members → Members
with_ended task m = record { unended = without_handle task m.unended; ended = m.ended ++ task ∷ [] }

-- all but the first
abbrev pub rest_of : List ℕ → List ℕ
rest_of [] = []
rest_of (t ∷ ts) = ts

-- the member that ended first is handed out
abbrev pub without_first : Members → Members
without_first m = record { unended = m.unended; ended = rest_of m.ended }

-- a create: refused exactly where there is no room
abbrev pub CreatesGroup : GroupTable → Result GroupHandle MtapiStatus → GroupTable → Type 0
CreatesGroup old (Ok g) new = (IsFull old.pool → ⊥) × Inserts old.pool new.pool g.0 no_members × (new.tasks ≡ old.tasks)
CreatesGroup old (Err ErrGroupLimit) new = IsFull old.pool × (new ≡ old)
CreatesGroup old (Err _) new = ⊥

-- a delete: refused exactly where the group isn't live
abbrev pub delete_reply : Option Members → Result Unit MtapiStatus
delete_reply None = Err ErrGroupInvalid
delete_reply (Some m) = Ok tt

-- no member of any group has this slot
abbrev pub NoMemberAt : ℕ → Slots Members → Type 0
NoMemberAt slot pool = (g : ℕ) (m : Members) → slot_value pool g ≡ Some m → (stands_at slot m.unended ≡ false) × (stands_at slot m.ended ≡ false)

-- the task is a member that hasn't ended
abbrev pub IsUnendedMember : ℕ → Option Members → Type 0
IsUnendedMember task None = ⊥
IsUnendedMember task (Some m) = has_handle task m.unended ≡ true

-- the members that weren't handed out, and how many of them have ended
abbrev pub counts_of : Members → ℕ × ℕ
counts_of m = (length m.unended + length m.ended, length m.ended)

-- the members of a group that may be live
abbrev pub unended_of : Option Members → List ℕ
unended_of None = []
unended_of (Some m) = m.unended

abbrev pub ended_of : Option Members → List ℕ
ended_of None = []
ended_of (Some m) = m.ended

-- the member that ended first
abbrev pub first_ended : Option Members → Option ℕ
first_ended None = None
first_ended (Some m) = slice_get m.ended 0

-- the member that entered first, of those that haven't ended
abbrev pub first_unended : Option Members → Option ℕ
first_unended None = None
first_unended (Some m) = slice_get m.unended 0

-- that member leaves
abbrev pub without_first_unended : Members → Members
without_first_unended m = record { unended = rest_of m.unended; ended = m.ended }

-- each live group stands in a slot in use
abbrev pub LiveAreUsed : Slots Members → Type 0
LiveAreUsed pool = (g : ℕ) (m : Members) → slot_value pool g ≡ Some m → slice_get pool.slots (slot_of g) ≡ Some (used_slot (generation_of g) m)

-- members put together from what stands in two lists
abbrev pub of_unended : Unit {0} → List ℕ → Members
of_unended u list = record { unended = list; ended = [] }

abbrev pub and_ended : Members → List ℕ → Members
and_ended m list = record { unended = m.unended; ended = list }

-- the slots with the two lists beside each
abbrev pub members_in : Slots (Unit {0}) → HandleLists → HandleLists → Slots Members
members_in pool unended ended = pool_beside and_ended (pool_beside of_unended pool unended.lists) ended.lists

-- what the slots and the lists are seen as
abbrev pub group_table_of : Slots (Unit {0}) → HandleLists → HandleLists → GroupTable
group_table_of pool unended ended = record { pool = members_in pool unended ended; tasks = unended.places }

-- what the lists keep of the slots
pub record AreGroups (pool : Slots (Unit {0})) (unended ended : HandleLists) : Type 0 where
  pub unended_beside : AreBeside pool.slots unended.lists
  pub ended_beside : AreBeside (beside of_unended pool.slots unended.lists) ended.lists
  -- no slot of a task stands in lists of both
  pub apart : (i j slot : ℕ) → stands_at slot (list_at unended.lists i) ≡ true → stands_at slot (list_at ended.lists j) ≡ false
  pub places : ended.places ≡ unended.places
  pub few : unended.places ≤ 65536
