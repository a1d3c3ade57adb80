-- The names that the definitions of this crate cite of lower crates, passed on from one place. Declares nothing.
pub use Rattle.action_fn.specs.declared.finished.ActEnd.TheVariants.{Done, Fails}
pub use Rattle.handle_pool.specs.Issued.{Listed, how_many, is_full, issued_at, listed, live_object, live_of}
pub use Rattle.handle_pool.specs.Slots.{generation_of, slot_of}
pub use Rattle.mtapi_machine.specs.Legal.{Fits, Legal, NodeEntry, after, next, row_of}
pub use Rattle.mtapi_machine.specs.Row.{Allows, Row, after_row, gives, handle_of, never, unless}
pub use Rattle.mtapi_machine.specs.Rows.{row}
pub use Rattle.mtapi_machine.specs.State.{Objects, State, actions, groups, mutexes, objects_of, opening, queues, rwls, seats, segments, sems, tasks}
pub use Rattle.mtapi_machine.specs.declared.ops.Op.{Op}
pub use Rattle.mtapi_machine.specs.declared.ops.Op.TheVariants.{ActionCreate, ActionDelete, ActionDisable, ActionEnable, AllLook, AnyLook, Finish, GroupCreate, GroupDelete, MutexCreate, MutexDelete, MutexGet, MutexLook, MutexUnlock, Pick, QueueCreate, QueueDelete, QueueDisable, QueueEnable, QueueGet, RwlCreate, RwlDelete, RwlGet, RwlLook, RwlUnlock, SemCreate, SemDelete, SemGet, SemLook, SemUnlock, ShmemAttach, ShmemCreate, ShmemDelete, ShmemDetach, ShmemGet, ShmemRead, ShmemWrite, TallyEnd, TallyLock, TallyRead, TallyWrite, TaskCancel, TaskEnqueue, TaskLook, TaskStart, WatchEnd}
pub use Rattle.mtapi_machine.specs.declared.replies.Reply.{Reply}
pub use Rattle.mtapi_machine.specs.declared.replies.Reply.TheVariants.{Ended, Given, Handle, Idle, Mrapi, Mtapi, Number, Ok, Pending, Picked, Stop}
pub use Rattle.mtapi_machine.specs.declared.terms.Terms.{Terms}
pub use Rattle.mtapi_objects.specs.Tasks.{Notes, TallyNotes, kind_number}
pub use Rattle.mtapi_values.specs.Layouts.{names_kind, object_number}
pub use Rattle.mtapi_values.specs.declared.ends.TaskEnd.TheVariants.{Cancelled, Completed, Failed}
pub use Rattle.mtapi_values.specs.declared.handles.ActionHandle.{ActionHandle}
pub use Rattle.mtapi_values.specs.declared.handles.ObjectKind.{ObjectKind}
pub use Rattle.mtapi_values.specs.declared.handles.ObjectKind.TheVariants.{Action, Group, Mutex, Queue, Rwl, Sem, Shmem}
pub use Rattle.mtapi_values.specs.declared.handles.TaskHandle.{TaskHandle}
