-- An op as callers ask it, turned inwards, and a reply of the node, turned outwards.
use Rattle.std.specs.Prelude.{ℕ, Option, Some, None}
use Rattle.mtapi_values.specs.declared.handles.ActionHandle.{ActionHandle}
use Rattle.mtapi_values.specs.declared.handles.TaskHandle.{TaskHandle}
use Rattle.mtapi_values.specs.declared.handles.ObjectKind.{ObjectKind}
use Rattle.mtapi_values.specs.declared.handles.ObjectKind.TheVariants as kind
use Rattle.mtapi_values.specs.Layouts.{outer}
use Rattle.mtapi_machine.specs.declared.ops.Op.{Op}
use Rattle.mtapi_machine.specs.declared.ops.Op.TheVariants.{ActionCreate, TaskStart, TaskEnqueue, GroupCreate, QueueCreate, MutexCreate, SemCreate, RwlCreate, ShmemCreate}
use Rattle.mtapi_machine.specs.declared.replies.Reply.{Reply}
use Rattle.mtapi_machine.specs.declared.replies.Reply.TheVariants.{Handle, Given, Picked}
use Rattle.mtapi_renaming.specs.Ops.{renamed_op}
pub use Rattle.mtapi_renaming.specs.Ops.{answered_kind}
use Rattle.mtapi_layouts.specs.Inward.{inward, HasKindRoom}

-- the op with each of its handles as the pool of its kind has it
abbrev pub inward_op : Op → Op
inward_op op = renamed_op inward op

-- a pool's handle of this kind, as callers see it
abbrev pub outer_of : Option ObjectKind → ℕ → ℕ
outer_of None h = h
outer_of (Some k) h = outer k h

abbrev pub outer_task : TaskHandle → TaskHandle
outer_task t = record { 0 = outer kind.Task t.0 }

abbrev pub outer_action : ActionHandle → ActionHandle
outer_action a = record { 0 = outer kind.Action a.0 }

-- the reply with each of its handles as callers see it, where an object that it answers is of this kind
abbrev pub outward : Option ObjectKind → Reply → Reply
outward k (Handle h) = Handle (outer_of k h)
outward k (Given t end) = Given (outer_task t) end
outward k (Picked t a x args) = Picked (outer_task t) (outer_action a) x args
outward k r = r

-- the reply to this op, as callers see it
abbrev pub outward_reply : Op → Reply → Reply
outward_reply op r = outward (answered_kind op) r

-- the handle in the reply leaves room for the number of a kind
abbrev pub HandleIsSmall : Reply → Type 0
HandleIsSmall (Handle h) = HasKindRoom h
HandleIsSmall r = Unit {0}

-- so does the handle of a new object
abbrev pub IssuesSmall : Op → Reply → Type 0
IssuesSmall (ActionCreate job x cores) r = HandleIsSmall r
IssuesSmall (TaskStart job args priority cores detached group) r = HandleIsSmall r
IssuesSmall (TaskEnqueue q args cores detached group) r = HandleIsSmall r
IssuesSmall GroupCreate r = HandleIsSmall r
IssuesSmall (QueueCreate id job priority limit ordered retain) r = HandleIsSmall r
IssuesSmall (MutexCreate id recursive) r = HandleIsSmall r
IssuesSmall (SemCreate id limit) r = HandleIsSmall r
IssuesSmall (RwlCreate id limit) r = HandleIsSmall r
IssuesSmall (ShmemCreate id cells) r = HandleIsSmall r
IssuesSmall op r = Unit {0}

-- each handle in the reply leaves room for the number of its kind
abbrev pub IsSmall : Reply → Type 0
IsSmall (Handle h) = HasKindRoom h
IsSmall (Given t end) = HasKindRoom t.0
IsSmall (Picked t a x args) = HasKindRoom t.0 × HasKindRoom a.0
IsSmall r = Unit {0}
