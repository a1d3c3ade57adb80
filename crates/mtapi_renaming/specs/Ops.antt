-- An op and a reply with other handles.
use Rattle.std.specs.Prelude.{ℕ, Option, Some, None, option_map}
use Rattle.mtapi_renaming.specs.Names.{ActionHandle, TaskHandle, ObjectKind, Op, ActionCreate, ActionDelete, ActionDisable, ActionEnable, TaskStart, TaskEnqueue, TaskLook, TaskCancel, GroupCreate, GroupDelete, AllLook, AnyLook, QueueCreate, QueueGet, QueueEnable, QueueDisable, QueueDelete, Finish, WatchEnd, TallyLock, TallyRead, TallyWrite, TallyEnd, MutexCreate, MutexGet, MutexDelete, MutexLook, MutexUnlock, SemCreate, SemGet, SemDelete, SemLook, SemUnlock, RwlCreate, RwlGet, RwlDelete, RwlLook, RwlUnlock, ShmemCreate, ShmemGet, ShmemDelete, ShmemAttach, ShmemDetach, ShmemRead, ShmemWrite, Reply, Handle, Given, Picked}
use Rattle.mtapi_values.specs.declared.handles.GroupHandle.{GroupHandle}
use Rattle.mtapi_values.specs.declared.handles.QueueHandle.{QueueHandle}
use Rattle.mtapi_values.specs.declared.handles.MutexHandle.{MutexHandle}
use Rattle.mtapi_values.specs.declared.handles.SemHandle.{SemHandle}
use Rattle.mtapi_values.specs.declared.handles.RwlHandle.{RwlHandle}
use Rattle.mtapi_values.specs.declared.handles.ShmemHandle.{ShmemHandle}
use Rattle.mtapi_values.specs.declared.handles.ObjectKind.TheVariants as kind
use Rattle.mtapi_machine.specs.declared.ops.Op.TheVariants.{Asked}
use Rattle.mtapi_renaming.specs.Renaming.{Renaming}

-- the other handles of those that an op names
abbrev pub other_action : Renaming → ActionHandle → ActionHandle
other_action g a = record { 0 = g kind.Action a.0 }

abbrev pub other_task : Renaming → TaskHandle → TaskHandle
other_task g t = record { 0 = g kind.Task t.0 }

abbrev pub other_group : Renaming → GroupHandle → GroupHandle
other_group g x = record { 0 = g kind.Group x.0 }

abbrev pub other_queue : Renaming → QueueHandle → QueueHandle
other_queue g q = record { 0 = g kind.Queue q.0 }

abbrev pub other_mutex : Renaming → MutexHandle → MutexHandle
other_mutex g x = record { 0 = g kind.Mutex x.0 }

abbrev pub other_sem : Renaming → SemHandle → SemHandle
other_sem g x = record { 0 = g kind.Sem x.0 }

abbrev pub other_rwl : Renaming → RwlHandle → RwlHandle
other_rwl g x = record { 0 = g kind.Rwl x.0 }

abbrev pub other_shmem : Renaming → ShmemHandle → ShmemHandle
other_shmem g x = record { 0 = g kind.Shmem x.0 }

-- the op with the other handle of each object that it names
abbrev pub renamed_op : Renaming → Op → Op
renamed_op g (ActionDelete a) = ActionDelete (other_action g a)
renamed_op g (ActionDisable a) = ActionDisable (other_action g a)
renamed_op g (ActionEnable a) = ActionEnable (other_action g a)
renamed_op g (TaskStart job args priority cores detached group) = TaskStart job args priority cores detached (option_map (other_group g) group)
renamed_op g (TaskEnqueue q args cores detached group) = TaskEnqueue (other_queue g q) args cores detached (option_map (other_group g) group)
renamed_op g (TaskLook t last) = TaskLook (other_task g t) last
renamed_op g (TaskCancel t) = TaskCancel (other_task g t)
renamed_op g (GroupDelete x) = GroupDelete (other_group g x)
renamed_op g (AllLook x last) = AllLook (other_group g x) last
renamed_op g (AnyLook x last) = AnyLook (other_group g x) last
renamed_op g (QueueEnable q) = QueueEnable (other_queue g q)
renamed_op g (QueueDisable q) = QueueDisable (other_queue g q)
renamed_op g (QueueDelete q) = QueueDelete (other_queue g q)
renamed_op g (Finish t done) = Finish (other_task g t) done
renamed_op g (Asked t) = Asked (other_task g t)
renamed_op g (WatchEnd t) = WatchEnd (other_task g t)
renamed_op g (TallyLock t) = TallyLock (other_task g t)
renamed_op g (TallyRead t) = TallyRead (other_task g t)
renamed_op g (TallyWrite t value) = TallyWrite (other_task g t) value
renamed_op g (TallyEnd t) = TallyEnd (other_task g t)
renamed_op g (MutexDelete x) = MutexDelete (other_mutex g x)
renamed_op g (MutexLook x last) = MutexLook (other_mutex g x) last
renamed_op g (MutexUnlock x key) = MutexUnlock (other_mutex g x) key
renamed_op g (SemDelete x) = SemDelete (other_sem g x)
renamed_op g (SemLook x last) = SemLook (other_sem g x) last
renamed_op g (SemUnlock x) = SemUnlock (other_sem g x)
renamed_op g (RwlDelete x) = RwlDelete (other_rwl g x)
renamed_op g (RwlLook x writer last) = RwlLook (other_rwl g x) writer last
renamed_op g (RwlUnlock x writer) = RwlUnlock (other_rwl g x) writer
renamed_op g (ShmemDelete x) = ShmemDelete (other_shmem g x)
renamed_op g (ShmemAttach x) = ShmemAttach (other_shmem g x)
renamed_op g (ShmemDetach x) = ShmemDetach (other_shmem g x)
renamed_op g (ShmemRead x cell) = ShmemRead (other_shmem g x) cell
renamed_op g (ShmemWrite x cell value) = ShmemWrite (other_shmem g x) cell value
renamed_op g op = op

-- the kind of the object whose handle the op answers
abbrev pub answered_kind : Op → Option ObjectKind
answered_kind (ActionCreate job x cores) = Some kind.Action
answered_kind (TaskStart job args priority cores detached group) = Some kind.Task
answered_kind (TaskEnqueue q args cores detached group) = Some kind.Task
answered_kind GroupCreate = Some kind.Group
answered_kind (QueueCreate id job priority limit ordered retain) = Some kind.Queue
answered_kind (QueueGet id) = Some kind.Queue
answered_kind (MutexCreate id recursive) = Some kind.Mutex
answered_kind (MutexGet id) = Some kind.Mutex
answered_kind (SemCreate id limit) = Some kind.Sem
answered_kind (SemGet id) = Some kind.Sem
answered_kind (RwlCreate id limit) = Some kind.Rwl
answered_kind (RwlGet id) = Some kind.Rwl
answered_kind (ShmemCreate id cells) = Some kind.Shmem
answered_kind (ShmemGet id) = Some kind.Shmem
answered_kind op = None

-- the other handle of an object of this kind, if the reply is to an op that answers one
abbrev pub other_of : Renaming → Option ObjectKind → ℕ → ℕ
other_of g None h = h
other_of g (Some k) h = g k h

-- the reply with the other handle of each object that it names, where an object that it answers is of this kind
abbrev pub renamed_answer : Renaming → Option ObjectKind → Reply → Reply
renamed_answer g k (Handle h) = Handle (other_of g k h)
renamed_answer g k (Given t end) = Given (other_task g t) end
renamed_answer g k (Picked t a x args) = Picked (other_task g t) (other_action g a) x args
renamed_answer g k r = r

-- so of the reply to this op
abbrev pub renamed_reply : Renaming → Op → Reply → Reply
renamed_reply g op r = renamed_answer g (answered_kind op) r
