-- The ops as words: the word of each op, the shapes of its fields in order, and their values.
use Rattle.std.specs.Prelude.{ℕ, ℤ, List, [], ◌∷◌, codes, Option, Some, None, option_map, if◌then◌else◌}
use Rattle.std.specs.{List.find, Str.bytes_eq}
use Rattle.mtapi_values.specs.{declared.kinds.Kind.Kind, declared.ends.TaskEnd.TaskEnd}
use Rattle.action_fn.specs.{declared.finished.ActEnd.ActEnd, Answers.is_pure, Answers.answer_of, Answers.Answered}
use Rattle.mtapi_machine.specs.declared.ops.Op.{Op}
use Rattle.journal_text.specs.{declared.op_words.OpWord.OpWord, declared.values.Shape.Shape, declared.values.Value.Value}
use Rattle.journal_text.specs.declared.op_words.TheConstants.{OP_WORDS}

-- the word of an op, and the shapes of its fields
unfoldable pub op_row : OpWord → List ℕ × List Shape
op_row OpWord.Initialize = (codes "initialize", [])
op_row OpWord.Release = (codes "release", [])
op_row OpWord.Enter = (codes "enter", [])
op_row OpWord.Close = (codes "close", [])
op_row OpWord.Final = (codes "final", [])
op_row OpWord.JobGet = (codes "job_get", Shape.Number ∷ [])
op_row OpWord.ActionCreate = (codes "action_create", Shape.Number ∷ Shape.Kind ∷ Shape.Cores ∷ [])
op_row OpWord.ActionDelete = (codes "action_delete", Shape.Handle ∷ [])
op_row OpWord.ActionDisable = (codes "action_disable", Shape.Handle ∷ [])
op_row OpWord.ActionEnable = (codes "action_enable", Shape.Handle ∷ [])
op_row OpWord.TaskStart = (codes "task_start", Shape.Number ∷ Shape.Args ∷ Shape.Number ∷ Shape.Cores ∷ Shape.Flag ∷ Shape.Group ∷ [])
op_row OpWord.TaskEnqueue = (codes "task_enqueue", Shape.Handle ∷ Shape.Args ∷ Shape.Cores ∷ Shape.Flag ∷ Shape.Group ∷ [])
op_row OpWord.TaskLook = (codes "task_look", Shape.Handle ∷ Shape.Flag ∷ [])
op_row OpWord.TaskCancel = (codes "task_cancel", Shape.Handle ∷ [])
op_row OpWord.GroupCreate = (codes "group_create", [])
op_row OpWord.GroupDelete = (codes "group_delete", Shape.Handle ∷ [])
op_row OpWord.AllLook = (codes "all_look", Shape.Handle ∷ Shape.Flag ∷ [])
op_row OpWord.AnyLook = (codes "any_look", Shape.Handle ∷ Shape.Flag ∷ [])
op_row OpWord.QueueCreate = (codes "queue_create", Shape.Number ∷ Shape.Number ∷ Shape.Number ∷ Shape.Number ∷ Shape.Flag ∷ Shape.Flag ∷ [])
op_row OpWord.QueueGet = (codes "queue_get", Shape.Number ∷ [])
op_row OpWord.QueueEnable = (codes "queue_enable", Shape.Handle ∷ [])
op_row OpWord.QueueDisable = (codes "queue_disable", Shape.Handle ∷ [])
op_row OpWord.QueueDelete = (codes "queue_delete", Shape.Handle ∷ [])
op_row OpWord.Pick = (codes "pick", [])
op_row OpWord.Finish = (codes "finish", Shape.Handle ∷ Shape.Kind ∷ Shape.Args ∷ Shape.End ∷ [])
op_row OpWord.Asked = (codes "asked", Shape.Handle ∷ [])
op_row OpWord.WatchEnd = (codes "watch_end", Shape.Handle ∷ [])
op_row OpWord.TallyLock = (codes "tally_lock", Shape.Handle ∷ [])
op_row OpWord.TallyRead = (codes "tally_read", Shape.Handle ∷ [])
op_row OpWord.TallyWrite = (codes "tally_write", Shape.Handle ∷ Shape.Whole ∷ [])
op_row OpWord.TallyEnd = (codes "tally_end", Shape.Handle ∷ [])
op_row OpWord.MutexCreate = (codes "mutex_create", Shape.Number ∷ Shape.Flag ∷ [])
op_row OpWord.MutexGet = (codes "mutex_get", Shape.Number ∷ [])
op_row OpWord.MutexDelete = (codes "mutex_delete", Shape.Handle ∷ [])
op_row OpWord.MutexLook = (codes "mutex_look", Shape.Handle ∷ Shape.Flag ∷ [])
op_row OpWord.MutexUnlock = (codes "mutex_unlock", Shape.Handle ∷ Shape.Number ∷ [])
op_row OpWord.SemCreate = (codes "sem_create", Shape.Number ∷ Shape.Number ∷ [])
op_row OpWord.SemGet = (codes "sem_get", Shape.Number ∷ [])
op_row OpWord.SemDelete = (codes "sem_delete", Shape.Handle ∷ [])
op_row OpWord.SemLook = (codes "sem_look", Shape.Handle ∷ Shape.Flag ∷ [])
op_row OpWord.SemUnlock = (codes "sem_unlock", Shape.Handle ∷ [])
op_row OpWord.RwlCreate = (codes "rwl_create", Shape.Number ∷ Shape.Number ∷ [])
op_row OpWord.RwlGet = (codes "rwl_get", Shape.Number ∷ [])
op_row OpWord.RwlDelete = (codes "rwl_delete", Shape.Handle ∷ [])
op_row OpWord.RwlLook = (codes "rwl_look", Shape.Handle ∷ Shape.Flag ∷ Shape.Flag ∷ [])
op_row OpWord.RwlUnlock = (codes "rwl_unlock", Shape.Handle ∷ Shape.Flag ∷ [])
op_row OpWord.ShmemCreate = (codes "shmem_create", Shape.Number ∷ Shape.Number ∷ [])
op_row OpWord.ShmemGet = (codes "shmem_get", Shape.Number ∷ [])
op_row OpWord.ShmemDelete = (codes "shmem_delete", Shape.Handle ∷ [])
op_row OpWord.ShmemAttach = (codes "shmem_attach", Shape.Handle ∷ [])
op_row OpWord.ShmemDetach = (codes "shmem_detach", Shape.Handle ∷ [])
op_row OpWord.ShmemRead = (codes "shmem_read", Shape.Handle ∷ Shape.Number ∷ [])
op_row OpWord.ShmemWrite = (codes "shmem_write", Shape.Handle ∷ Shape.Number ∷ Shape.Whole ∷ [])

-- the op that a text names
unfoldable pub op_word_of : List ℕ → Option OpWord
op_word_of text = find (λ w. bytes_eq (op_row w).0 text) OP_WORDS

-- the end of a task by this answer
abbrev pub end_of_answer : ActEnd → TaskEnd
end_of_answer (ActEnd.Done zs) = TaskEnd.Completed zs
end_of_answer (ActEnd.Fails s) = TaskEnd.Failed s

-- an op's word, and the values of its fields
unfoldable pub op_spelled : Op → OpWord × List Value
op_spelled Op.Initialize = (OpWord.Initialize, [])
op_spelled Op.Release = (OpWord.Release, [])
op_spelled Op.Enter = (OpWord.Enter, [])
op_spelled Op.Close = (OpWord.Close, [])
op_spelled Op.Final = (OpWord.Final, [])
op_spelled (Op.JobGet job) = (OpWord.JobGet, Value.Number job ∷ [])
op_spelled (Op.ActionCreate job kind cores) = (OpWord.ActionCreate, Value.Number job ∷ Value.Kind kind ∷ Value.Cores cores ∷ [])
op_spelled (Op.ActionDelete action) = (OpWord.ActionDelete, Value.Handle action.0 ∷ [])
op_spelled (Op.ActionDisable action) = (OpWord.ActionDisable, Value.Handle action.0 ∷ [])
op_spelled (Op.ActionEnable action) = (OpWord.ActionEnable, Value.Handle action.0 ∷ [])
op_spelled (Op.TaskStart job args priority cores detached group) = (
  OpWord.TaskStart,
  Value.Number job ∷ Value.Args args ∷ Value.Number priority ∷ Value.Cores cores ∷ Value.Flag detached
      ∷ Value.Group (option_map (λ g. g.0) group) ∷ [],
)
op_spelled (Op.TaskEnqueue queue args cores detached group) =
    (OpWord.TaskEnqueue, Value.Handle queue.0 ∷ Value.Args args ∷ Value.Cores cores ∷ Value.Flag detached ∷ Value.Group (option_map (λ g. g.0) group) ∷ [])
op_spelled (Op.TaskLook task last) = (OpWord.TaskLook, Value.Handle task.0 ∷ Value.Flag last ∷ [])
op_spelled (Op.TaskCancel task) = (OpWord.TaskCancel, Value.Handle task.0 ∷ [])
op_spelled Op.GroupCreate = (OpWord.GroupCreate, [])
op_spelled (Op.GroupDelete group) = (OpWord.GroupDelete, Value.Handle group.0 ∷ [])
op_spelled (Op.AllLook group last) = (OpWord.AllLook, Value.Handle group.0 ∷ Value.Flag last ∷ [])
op_spelled (Op.AnyLook group last) = (OpWord.AnyLook, Value.Handle group.0 ∷ Value.Flag last ∷ [])
op_spelled (Op.QueueCreate id job priority limit ordered retain) =
    (OpWord.QueueCreate, Value.Number id ∷ Value.Number job ∷ Value.Number priority ∷ Value.Number limit ∷ Value.Flag ordered ∷ Value.Flag retain ∷ [])
op_spelled (Op.QueueGet id) = (OpWord.QueueGet, Value.Number id ∷ [])
op_spelled (Op.QueueEnable queue) = (OpWord.QueueEnable, Value.Handle queue.0 ∷ [])
op_spelled (Op.QueueDisable queue) = (OpWord.QueueDisable, Value.Handle queue.0 ∷ [])
op_spelled (Op.QueueDelete queue) = (OpWord.QueueDelete, Value.Handle queue.0 ∷ [])
op_spelled Op.Pick = (OpWord.Pick, [])
op_spelled (Op.Finish task done) = (OpWord.Finish, Value.Handle task.0 ∷ Value.Kind done.kind ∷ Value.Args done.args ∷ Value.End (end_of_answer done.end) ∷ [])
op_spelled (Op.Asked task) = (OpWord.Asked, Value.Handle task.0 ∷ [])
op_spelled (Op.WatchEnd task) = (OpWord.WatchEnd, Value.Handle task.0 ∷ [])
op_spelled (Op.TallyLock task) = (OpWord.TallyLock, Value.Handle task.0 ∷ [])
op_spelled (Op.TallyRead task) = (OpWord.TallyRead, Value.Handle task.0 ∷ [])
op_spelled (Op.TallyWrite task value) = (OpWord.TallyWrite, Value.Handle task.0 ∷ Value.Whole value ∷ [])
op_spelled (Op.TallyEnd task) = (OpWord.TallyEnd, Value.Handle task.0 ∷ [])
op_spelled (Op.MutexCreate id recursive) = (OpWord.MutexCreate, Value.Number id ∷ Value.Flag recursive ∷ [])
op_spelled (Op.MutexGet id) = (OpWord.MutexGet, Value.Number id ∷ [])
op_spelled (Op.MutexDelete mutex) = (OpWord.MutexDelete, Value.Handle mutex.0 ∷ [])
op_spelled (Op.MutexLook mutex last) = (OpWord.MutexLook, Value.Handle mutex.0 ∷ Value.Flag last ∷ [])
op_spelled (Op.MutexUnlock mutex key) = (OpWord.MutexUnlock, Value.Handle mutex.0 ∷ Value.Number key ∷ [])
op_spelled (Op.SemCreate id limit) = (OpWord.SemCreate, Value.Number id ∷ Value.Number limit ∷ [])
op_spelled (Op.SemGet id) = (OpWord.SemGet, Value.Number id ∷ [])
op_spelled (Op.SemDelete sem) = (OpWord.SemDelete, Value.Handle sem.0 ∷ [])
op_spelled (Op.SemLook sem last) = (OpWord.SemLook, Value.Handle sem.0 ∷ Value.Flag last ∷ [])
op_spelled (Op.SemUnlock sem) = (OpWord.SemUnlock, Value.Handle sem.0 ∷ [])
op_spelled (Op.RwlCreate id limit) = (OpWord.RwlCreate, Value.Number id ∷ Value.Number limit ∷ [])
op_spelled (Op.RwlGet id) = (OpWord.RwlGet, Value.Number id ∷ [])
op_spelled (Op.RwlDelete rwl) = (OpWord.RwlDelete, Value.Handle rwl.0 ∷ [])
op_spelled (Op.RwlLook rwl writer last) = (OpWord.RwlLook, Value.Handle rwl.0 ∷ Value.Flag writer ∷ Value.Flag last ∷ [])
op_spelled (Op.RwlUnlock rwl writer) = (OpWord.RwlUnlock, Value.Handle rwl.0 ∷ Value.Flag writer ∷ [])
op_spelled (Op.ShmemCreate id cells) = (OpWord.ShmemCreate, Value.Number id ∷ Value.Number cells ∷ [])
op_spelled (Op.ShmemGet id) = (OpWord.ShmemGet, Value.Number id ∷ [])
op_spelled (Op.ShmemDelete shmem) = (OpWord.ShmemDelete, Value.Handle shmem.0 ∷ [])
op_spelled (Op.ShmemAttach shmem) = (OpWord.ShmemAttach, Value.Handle shmem.0 ∷ [])
op_spelled (Op.ShmemDetach shmem) = (OpWord.ShmemDetach, Value.Handle shmem.0 ∷ [])
op_spelled (Op.ShmemRead shmem cell) = (OpWord.ShmemRead, Value.Handle shmem.0 ∷ Value.Number cell ∷ [])
op_spelled (Op.ShmemWrite shmem cell value) = (OpWord.ShmemWrite, Value.Handle shmem.0 ∷ Value.Number cell ∷ Value.Whole value ∷ [])

-- the answer of a pure kind, beside what it answers
abbrev pub finished_of : Kind → List ℤ → Option Answered
finished_of kind args = if is_pure kind then Some (record { kind = kind; args = args; end = answer_of kind args }) else None

-- an op on the node, its jobs or its actions, by its word and its values
unfoldable pub node_op : OpWord → List Value → Option Op
node_op OpWord.Initialize [] = Some Op.Initialize
node_op OpWord.Release [] = Some Op.Release
node_op OpWord.Enter [] = Some Op.Enter
node_op OpWord.Close [] = Some Op.Close
node_op OpWord.Final [] = Some Op.Final
node_op OpWord.JobGet (Value.Number job ∷ []) = Some (Op.JobGet job)
node_op OpWord.ActionCreate (Value.Number job ∷ Value.Kind kind ∷ Value.Cores cores ∷ []) = Some (Op.ActionCreate job kind cores)
node_op OpWord.ActionDelete (Value.Handle action ∷ []) = Some (Op.ActionDelete (record { 0 = action }))
node_op OpWord.ActionDisable (Value.Handle action ∷ []) = Some (Op.ActionDisable (record { 0 = action }))
node_op OpWord.ActionEnable (Value.Handle action ∷ []) = Some (Op.ActionEnable (record { 0 = action }))
node_op _ _ = None

-- an op on tasks or groups, by its word and its values
unfoldable pub task_op : OpWord → List Value → Option Op
task_op OpWord.TaskStart (Value.Number job ∷ Value.Args args ∷ Value.Number priority ∷ Value.Cores cores ∷ Value.Flag detached ∷ Value.Group group ∷ []) =
    Some (Op.TaskStart job args priority cores detached (option_map (λ g. record { 0 = g }) group))
task_op OpWord.TaskEnqueue (Value.Handle queue ∷ Value.Args args ∷ Value.Cores cores ∷ Value.Flag detached ∷ Value.Group group ∷ []) =
    Some (Op.TaskEnqueue (record { 0 = queue }) args cores detached (option_map (λ g. record { 0 = g }) group))
task_op OpWord.TaskLook (Value.Handle task ∷ Value.Flag last ∷ []) = Some (Op.TaskLook (record { 0 = task }) last)
task_op OpWord.TaskCancel (Value.Handle task ∷ []) = Some (Op.TaskCancel (record { 0 = task }))
task_op OpWord.GroupCreate [] = Some Op.GroupCreate
task_op OpWord.GroupDelete (Value.Handle group ∷ []) = Some (Op.GroupDelete (record { 0 = group }))
task_op OpWord.AllLook (Value.Handle group ∷ Value.Flag last ∷ []) = Some (Op.AllLook (record { 0 = group }) last)
task_op OpWord.AnyLook (Value.Handle group ∷ Value.Flag last ∷ []) = Some (Op.AnyLook (record { 0 = group }) last)
task_op _ _ = None

-- an op on queues, by its word and its values
unfoldable pub queue_op : OpWord → List Value → Option Op
queue_op OpWord.QueueCreate (Value.Number id ∷ Value.Number job ∷ Value.Number priority ∷ Value.Number limit ∷ Value.Flag ordered ∷ Value.Flag retain ∷ []) =
    Some (Op.QueueCreate id job priority limit ordered retain)
queue_op OpWord.QueueGet (Value.Number id ∷ []) = Some (Op.QueueGet id)
queue_op OpWord.QueueEnable (Value.Handle queue ∷ []) = Some (Op.QueueEnable (record { 0 = queue }))
queue_op OpWord.QueueDisable (Value.Handle queue ∷ []) = Some (Op.QueueDisable (record { 0 = queue }))
queue_op OpWord.QueueDelete (Value.Handle queue ∷ []) = Some (Op.QueueDelete (record { 0 = queue }))
queue_op _ _ = None

-- an op of a worker, by its word and its values
unfoldable pub work_op : OpWord → List Value → Option Op
work_op OpWord.Pick [] = Some Op.Pick
work_op OpWord.Finish (Value.Handle task ∷ Value.Kind kind ∷ Value.Args args ∷ end ∷ []) = option_map (Op.Finish (record { 0 = task })) (finished_of kind args)
work_op OpWord.Asked (Value.Handle task ∷ []) = Some (Op.Asked (record { 0 = task }))
work_op OpWord.WatchEnd (Value.Handle task ∷ []) = Some (Op.WatchEnd (record { 0 = task }))
work_op OpWord.TallyLock (Value.Handle task ∷ []) = Some (Op.TallyLock (record { 0 = task }))
work_op OpWord.TallyRead (Value.Handle task ∷ []) = Some (Op.TallyRead (record { 0 = task }))
work_op OpWord.TallyWrite (Value.Handle task ∷ Value.Whole value ∷ []) = Some (Op.TallyWrite (record { 0 = task }) value)
work_op OpWord.TallyEnd (Value.Handle task ∷ []) = Some (Op.TallyEnd (record { 0 = task }))
work_op _ _ = None

-- an op on a mutex, a semaphore or a reader-writer lock, by its word and its values
unfoldable pub lock_op : OpWord → List Value → Option Op
lock_op OpWord.MutexCreate (Value.Number id ∷ Value.Flag recursive ∷ []) = Some (Op.MutexCreate id recursive)
lock_op OpWord.MutexGet (Value.Number id ∷ []) = Some (Op.MutexGet id)
lock_op OpWord.MutexDelete (Value.Handle mutex ∷ []) = Some (Op.MutexDelete (record { 0 = mutex }))
lock_op OpWord.MutexLook (Value.Handle mutex ∷ Value.Flag last ∷ []) = Some (Op.MutexLook (record { 0 = mutex }) last)
lock_op OpWord.MutexUnlock (Value.Handle mutex ∷ Value.Number key ∷ []) = Some (Op.MutexUnlock (record { 0 = mutex }) key)
lock_op OpWord.SemCreate (Value.Number id ∷ Value.Number limit ∷ []) = Some (Op.SemCreate id limit)
lock_op OpWord.SemGet (Value.Number id ∷ []) = Some (Op.SemGet id)
lock_op OpWord.SemDelete (Value.Handle sem ∷ []) = Some (Op.SemDelete (record { 0 = sem }))
lock_op OpWord.SemLook (Value.Handle sem ∷ Value.Flag last ∷ []) = Some (Op.SemLook (record { 0 = sem }) last)
lock_op OpWord.SemUnlock (Value.Handle sem ∷ []) = Some (Op.SemUnlock (record { 0 = sem }))
lock_op OpWord.RwlCreate (Value.Number id ∷ Value.Number limit ∷ []) = Some (Op.RwlCreate id limit)
lock_op OpWord.RwlGet (Value.Number id ∷ []) = Some (Op.RwlGet id)
lock_op OpWord.RwlDelete (Value.Handle rwl ∷ []) = Some (Op.RwlDelete (record { 0 = rwl }))
lock_op OpWord.RwlLook (Value.Handle rwl ∷ Value.Flag writer ∷ Value.Flag last ∷ []) = Some (Op.RwlLook (record { 0 = rwl }) writer last)
lock_op OpWord.RwlUnlock (Value.Handle rwl ∷ Value.Flag writer ∷ []) = Some (Op.RwlUnlock (record { 0 = rwl }) writer)
lock_op _ _ = None

-- an op on a segment, by its word and its values
unfoldable pub segment_op : OpWord → List Value → Option Op
segment_op OpWord.ShmemCreate (Value.Number id ∷ Value.Number cells ∷ []) = Some (Op.ShmemCreate id cells)
segment_op OpWord.ShmemGet (Value.Number id ∷ []) = Some (Op.ShmemGet id)
segment_op OpWord.ShmemDelete (Value.Handle shmem ∷ []) = Some (Op.ShmemDelete (record { 0 = shmem }))
segment_op OpWord.ShmemAttach (Value.Handle shmem ∷ []) = Some (Op.ShmemAttach (record { 0 = shmem }))
segment_op OpWord.ShmemDetach (Value.Handle shmem ∷ []) = Some (Op.ShmemDetach (record { 0 = shmem }))
segment_op OpWord.ShmemRead (Value.Handle shmem ∷ Value.Number cell ∷ []) = Some (Op.ShmemRead (record { 0 = shmem }) cell)
segment_op OpWord.ShmemWrite (Value.Handle shmem ∷ Value.Number cell ∷ Value.Whole value ∷ []) = Some (Op.ShmemWrite (record { 0 = shmem }) cell value)
segment_op _ _ = None

-- the first of two that is there
abbrev pub or_op : Option Op → Option Op → Option Op
or_op (Some o) other = Some o
or_op None other = other

-- the op of a word with these values
unfoldable pub op_of : OpWord → List Value → Option Op
op_of w vs = or_op (node_op w vs) (or_op (task_op w vs) (or_op (queue_op w vs) (or_op (work_op w vs) (or_op (lock_op w vs) (segment_op w vs)))))
