-- The call that each statement makes.
use Rattle.std.specs.Prelude.{ℕ, Bool, true, false, List, option_map, slice_index_or}
use Rattle.mtapi_values.specs.declared.timeouts.Timeout.{Timeout}
use Rattle.mtapi_values.specs.declared.handles.GroupHandle.{GroupHandle}
use Rattle.workload_file.specs.declared.workload.Deed.{Deed}
use Rattle.workload_file.specs.declared.workload.Deed.TheVariants as deed
use Rattle.mtapi_machine.specs.declared.ops.Op.{Op}
use Rattle.mtapi_machine.specs.declared.ops.Op.TheVariants as op

-- a call with one entry, or one that looks until it has an answer, within a timeout, where `waits` says that the caller stands as
-- waiter between its looks
pub data Call : Type 0 where
  Once : Op → Call
  Looking : (waits : Bool) → (Bool → Op) → Timeout → Call

-- the handle that the statement at a place bound, among those bound so far
abbrev pub handle_at : List ℕ → ℕ → ℕ
handle_at bound place = slice_index_or bound place 0

abbrev pub group_at : List ℕ → ℕ → GroupHandle
group_at bound place = record { 0 = handle_at bound place }

-- the call of a statement, where the earlier statements of its part bound these handles
abbrev pub call_of : List ℕ → Deed → Call
call_of bound deed.Begin = Once op.Release
call_of bound (deed.Action job kind cores) = Once (op.ActionCreate job kind cores)
call_of bound (deed.ActionDelete place) = Once (op.ActionDelete (record { 0 = handle_at bound place }))
call_of bound (deed.ActionEnable place) = Once (op.ActionEnable (record { 0 = handle_at bound place }))
call_of bound (deed.ActionDisable place) = Once (op.ActionDisable (record { 0 = handle_at bound place }))
call_of bound (deed.Start job args priority cores detached group) = Once (op.TaskStart job args priority cores detached (option_map (group_at bound) group))
call_of bound (deed.Enqueue queue args cores detached group) =
    Once (op.TaskEnqueue (record { 0 = handle_at bound queue }) args cores detached (option_map (group_at bound) group))
call_of bound (deed.Wait place timeout) = Looking true (λ last. op.TaskLook (record { 0 = handle_at bound place }) last) timeout
call_of bound (deed.Cancel place) = Once (op.TaskCancel (record { 0 = handle_at bound place }))
call_of bound deed.Group = Once op.GroupCreate
call_of bound (deed.WaitAll place timeout) = Looking false (λ last. op.AllLook (record { 0 = handle_at bound place }) last) timeout
call_of bound (deed.WaitAny place timeout) = Looking false (λ last. op.AnyLook (record { 0 = handle_at bound place }) last) timeout
call_of bound (deed.GroupDelete place) = Once (op.GroupDelete (record { 0 = handle_at bound place }))
call_of bound (deed.Queue id job priority limit ordered retain) = Once (op.QueueCreate id job priority limit ordered retain)
call_of bound (deed.QueueGet id) = Once (op.QueueGet id)
call_of bound (deed.QueueEnable place) = Once (op.QueueEnable (record { 0 = handle_at bound place }))
call_of bound (deed.QueueDisable place) = Once (op.QueueDisable (record { 0 = handle_at bound place }))
call_of bound (deed.QueueDelete place) = Once (op.QueueDelete (record { 0 = handle_at bound place }))
call_of bound (deed.Mutex id recursive) = Once (op.MutexCreate id recursive)
call_of bound (deed.MutexGet id) = Once (op.MutexGet id)
call_of bound (deed.MutexDelete place) = Once (op.MutexDelete (record { 0 = handle_at bound place }))
call_of bound (deed.Lock place timeout) = Looking false (λ last. op.MutexLook (record { 0 = handle_at bound place }) last) timeout
call_of bound (deed.Unlock place key) = Once (op.MutexUnlock (record { 0 = handle_at bound place }) key)
call_of bound (deed.Sem id limit) = Once (op.SemCreate id limit)
call_of bound (deed.SemGet id) = Once (op.SemGet id)
call_of bound (deed.SemDelete place) = Once (op.SemDelete (record { 0 = handle_at bound place }))
call_of bound (deed.SemLock place timeout) = Looking false (λ last. op.SemLook (record { 0 = handle_at bound place }) last) timeout
call_of bound (deed.SemUnlock place) = Once (op.SemUnlock (record { 0 = handle_at bound place }))
call_of bound (deed.Rwl id limit) = Once (op.RwlCreate id limit)
call_of bound (deed.RwlGet id) = Once (op.RwlGet id)
call_of bound (deed.RwlDelete place) = Once (op.RwlDelete (record { 0 = handle_at bound place }))
call_of bound (deed.RwlLock place writer timeout) = Looking false (λ last. op.RwlLook (record { 0 = handle_at bound place }) writer last) timeout
call_of bound (deed.RwlUnlock place writer) = Once (op.RwlUnlock (record { 0 = handle_at bound place }) writer)
call_of bound (deed.Shmem id cells) = Once (op.ShmemCreate id cells)
call_of bound (deed.ShmemGet id) = Once (op.ShmemGet id)
call_of bound (deed.ShmemDelete place) = Once (op.ShmemDelete (record { 0 = handle_at bound place }))
call_of bound (deed.Attach place) = Once (op.ShmemAttach (record { 0 = handle_at bound place }))
call_of bound (deed.Detach place) = Once (op.ShmemDetach (record { 0 = handle_at bound place }))
call_of bound (deed.Read place cell) = Once (op.ShmemRead (record { 0 = handle_at bound place }) cell)
call_of bound (deed.Write place cell value) = Once (op.ShmemWrite (record { 0 = handle_at bound place }) cell value)

-- the op makes a call with one entry, as all do but those of the phases other than `release`, those of workers, and the looks
abbrev pub IsOnce : Op → Type 0
IsOnce op.Initialize = ⊥
IsOnce op.Enter = ⊥
IsOnce op.Close = ⊥
IsOnce op.Final = ⊥
IsOnce (op.TaskLook t last) = ⊥
IsOnce (op.AllLook g last) = ⊥
IsOnce (op.AnyLook g last) = ⊥
IsOnce (op.MutexLook x last) = ⊥
IsOnce (op.SemLook x last) = ⊥
IsOnce (op.RwlLook x writer last) = ⊥
IsOnce op.Pick = ⊥
IsOnce (op.Finish t done) = ⊥
IsOnce (op.Asked t) = ⊥
IsOnce (op.WatchEnd t) = ⊥
IsOnce (op.TallyLock t) = ⊥
IsOnce (op.TallyRead t) = ⊥
IsOnce (op.TallyWrite t value) = ⊥
IsOnce (op.TallyEnd t) = ⊥
IsOnce _ = Unit {0}
