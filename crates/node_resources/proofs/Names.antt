-- The names that the proofs of this crate cite of lower crates and of its own specs/, passed on from one place. Declares nothing.
pub use Rattle.std.proofs.Common.{Bool, Err, FitsSigned, List, None, Ok, Option, Result, Some, [], ap, arith, cond, false, inl, inr, not, pos, refl, replicate, rules, subst, suc, sym, true, zero, ℕ, ◌&&◌, ◌++◌, ◌+◌, ◌∙◌, ◌∷◌, ◌≡◌, ◌≤◌, ◌⊎◌}
pub use Rattle.std.proofs.lemmas.Int.{to_z-of_z}
pub use Rattle.std.specs.Option.{IfSome, option_map}
pub use Rattle.std.specs.Prelude.{IsNone, OnErr, OnOk, is_none, is_some, length, nat_lt, slice_set, ℤ, ◌==◌, ◌||◌}
pub use mir.Syntax.{w64}
pub use Rattle.handle_pool.specs.Issued.{Listed, any_listed, first_handle, is_full, issue, live_object, live_of, may_issue, retire, update}
pub use Rattle.handle_pool.specs.Slots.{Inserts, IsFull, Slots, changed, free_slot, max_of, put, slot_value, without}
pub use Rattle.handle_pool.specs.Walks.{HasLive, NoneLive, OneEach, SomeLive}
pub use Rattle.mrapi_mutex.specs.Calls.{after_look, after_unlock}
pub use Rattle.mrapi_shmem.specs.Calls.{after_attach, after_detach, after_write}
pub use Rattle.mtapi_machine.specs.KeyedRows.{Keyed, alters_one, creates_keyed, deletes, gets, keyed_mutexes, keyed_rwls, keyed_segments, keyed_sems, looks_one, mrapi, mrapi_open, mrapi_unless}
pub use Rattle.mtapi_machine.specs.Moves.{Fields, Groups, Mutexes, Queues, Rwls, Segments, Sems, Sort, after_moves, all_of, alters, is_fresh, makes, notes, removes}
pub use Rattle.mtapi_machine.specs.Row.{Allows, Row, after_row, creates, gives, live, not_yet, on, only, says, unless}
pub use Rattle.mtapi_machine.specs.State.{State, is_open, is_up, workers}
pub use Rattle.mtapi_machine.specs.declared.ops.Op.{Op}
pub use Rattle.mtapi_machine.specs.declared.replies.Reply.{Reply}
pub use Rattle.mtapi_objects.specs.Mutexes.{Mutex, locked_by, mutex_busy, mutex_delete_refusals, mutex_look_refusals, mutex_unlock_refusals, new_mutex, unlocked}
pub use Rattle.mtapi_objects.specs.Rwls.{new_rwl, rwl_busy, rwl_create_refusals, rwl_delete_refusals, rwl_given, rwl_look_refusals, rwl_taken, rwl_unlock_refusals}
pub use Rattle.mtapi_objects.specs.Segments.{Segment, attach_refusals, cell_of, cell_refusals, detach_refusals, new_segment, shmem_create_refusals, shmem_delete_refusals, with_attached, with_cell}
pub use Rattle.mtapi_objects.specs.Sems.{Sem, new_sem, sem_busy, sem_create_refusals, sem_delete_refusals, sem_given, sem_taken, sem_unlock_refusals}
pub use Rattle.mtapi_values.specs.Conditions.{first}
pub use Rattle.mtapi_values.specs.Looks.{answer, is_got}
pub use Rattle.mtapi_values.specs.declared.handles.MutexHandle.{MutexHandle}
pub use Rattle.mtapi_values.specs.declared.handles.ShmemHandle.{ShmemHandle}
pub use Rattle.mtapi_values.specs.declared.statuses.MrapiStatus.{MrapiStatus}
pub use Rattle.mtapi_values.specs.declared.statuses.MrapiStatus.TheVariants.{ErrMutexExists, ErrMutexIdInvalid, ErrMutexInvalid, ErrMutexLimit, ErrRwlExists, ErrRwlIdInvalid, ErrRwlInvalid, ErrRwlLimit, ErrSemExists, ErrSemIdInvalid, ErrSemInvalid, ErrSemLimit, ErrShmExists, ErrShmIdInvalid, ErrShmInvalid, ErrShmLimit, Timeout}
pub use Rattle.node_resources.specs.Holds.{Holds, HoldsList, ResourceTable, ResourcesStand}
pub use Rattle.node_resources.specs.Steps.{Does, IsAt, ResourceSteps, gate_refusals, with_lists_of}
pub use Rattle.node_resources.specs.Tallies.{Locks, both_row}
pub use Rattle.node_resources.specs.contracts.Resources.{the_view}
pub use Rattle.node_resources.specs.declared.gate.Gate.{Gate}
pub use Rattle.node_resources.specs.declared.tally_ops.TallyLock.TheVariants.{Absent, Both, Owned}
