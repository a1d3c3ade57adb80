-- Worked: mutexes, semaphores, reader-writer locks and segments.
use Rattle.std.specs.Prelude.{ℕ, zero, suc, ◌+◌, true, false, List, [], ◌∷◌, ◌++◌, pos, negsuc}
use Rattle.mtapi_values.specs.declared.statuses.MrapiStatus.TheVariants as code
use Rattle.mtapi_machine.specs.declared.ops.Op.{Op}
use Rattle.mtapi_machine.specs.declared.ops.Op.TheVariants as op
use Rattle.mtapi_machine.specs.declared.replies.Reply.TheVariants as reply
use Rattle.mtapi_machine.specs.Tables.{TableLine, IsWorkedTable, node_of, small, line, main, second, main_not, second_not, denied, h1, h2, h3, again1, mutex, sem, rwl, segment}

-- looks that aren't the last ones, and last ones

abbrev pub lock : ℕ → Op
lock m = op.MutexLook (mutex m) false

abbrev pub lock_last : ℕ → Op
lock_last m = op.MutexLook (mutex m) true

abbrev pub hold : ℕ → Op
hold s = op.SemLook (sem s) false

abbrev pub read_lock : ℕ → Op
read_lock r = op.RwlLook (rwl r) false false

abbrev pub write_lock : ℕ → Op
write_lock r = op.RwlLook (rwl r) true false

-- Mutexes

-- what creates, gets and deletes are refused for; a mutex that isn't recursive
unfoldable pub mutexes_made : List TableLine
mutexes_made =
    main op.Initialize reply.Ok
    ∷ denied (op.MutexGet 1) code.ErrMutexIdInvalid (reply.Handle h1)
    ∷ denied (lock h1) code.ErrMutexInvalid (reply.Number (pos 1))
    ∷ denied (op.MutexUnlock (mutex h1) 1) code.ErrMutexInvalid (reply.Mrapi code.ErrMutexNotlocked)
    ∷ denied (op.MutexDelete (mutex h1)) code.ErrMutexInvalid reply.Ok
    ∷ main_not (op.MutexCreate 7 false) (reply.Handle h1) (reply.Handle again1)
    ∷ denied (op.MutexCreate 7 true) code.ErrMutexExists (reply.Handle h2)
    ∷ main_not (op.MutexCreate 8 false) (reply.Handle h2) (reply.Handle h1)
    ∷ denied (op.MutexCreate 9 false) code.ErrMutexLimit (reply.Handle h3)
    ∷ denied (op.MutexCreate 8 false) code.ErrMutexExists (reply.Mrapi code.ErrMutexLimit)
    ∷ main_not (op.MutexGet 8) (reply.Handle h2) (reply.Handle h1)
    ∷ main_not (lock h1) (reply.Number (pos 1)) reply.Ok
    ∷ denied (lock h1) code.ErrMutexLocked (reply.Number (pos 2))
    ∷ denied (lock_last h1) code.ErrMutexLocked (reply.Mrapi code.Timeout)
    ∷ second_not (lock h1) reply.Pending (reply.Number (pos 1))
    ∷ second_not (lock_last h1) (reply.Mrapi code.Timeout) reply.Pending
    ∷ second_not (op.MutexUnlock (mutex h1) 1) (reply.Mrapi code.ErrMutexNotlocked) reply.Ok
    ∷ second_not (op.MutexDelete (mutex h1)) (reply.Mrapi code.ErrMutexLocked) reply.Ok
    ∷ main (op.MutexUnlock (mutex h1) 1) reply.Ok
    ∷ second (lock h1) (reply.Number (pos 1))
    ∷ second (op.MutexUnlock (mutex h1) 1) reply.Ok
    ∷ second_not (op.MutexDelete (mutex h1)) reply.Ok (reply.Mrapi code.ErrMutexLocked)
    ∷ denied (lock h1) code.ErrMutexInvalid (reply.Number (pos 1))
    ∷ denied (op.MutexGet 7) code.ErrMutexIdInvalid (reply.Handle h1)
    ∷ line 1 (op.MutexCreate 7 false) (reply.Handle again1) (reply.Handle h1 ∷ reply.Mrapi code.ErrMutexLimit ∷ [])
    ∷ []

-- a recursive mutex: the keys go back in the other order
unfoldable pub keys : List TableLine
keys =
    main op.Initialize reply.Ok
    ∷ main (op.MutexCreate 1 true) (reply.Handle h1)
    ∷ main_not (lock h1) (reply.Number (pos 1)) (reply.Number (pos 0))
    ∷ main_not (lock h1) (reply.Number (pos 2)) (reply.Mrapi code.ErrMutexLocked)
    ∷ second_not (lock h1) reply.Pending (reply.Number (pos 3))
    ∷ denied (op.MutexUnlock (mutex h1) 0) code.ErrMutexKey (reply.Mrapi code.ErrMutexLockorder)
    ∷ denied (op.MutexUnlock (mutex h1) 3) code.ErrMutexKey reply.Ok
    ∷ second_not (op.MutexUnlock (mutex h1) 3) (reply.Mrapi code.ErrMutexNotlocked) (reply.Mrapi code.ErrMutexKey)
    ∷ denied (op.MutexUnlock (mutex h1) 1) code.ErrMutexLockorder reply.Ok
    ∷ main_not (op.MutexUnlock (mutex h1) 2) reply.Ok (reply.Mrapi code.ErrMutexLockorder)
    ∷ denied (op.MutexUnlock (mutex h1) 2) code.ErrMutexKey reply.Ok
    ∷ main_not (op.MutexUnlock (mutex h1) 1) reply.Ok (reply.Mrapi code.ErrMutexKey)
    ∷ denied (op.MutexUnlock (mutex h1) 1) code.ErrMutexNotlocked reply.Ok
    ∷ second (lock h1) (reply.Number (pos 1))
    ∷ []

-- so many locks of a recursive mutex, from a depth on
abbrev pub deeper : ℕ → ℕ → List TableLine
deeper depth zero = []
deeper depth (suc n) = main (lock h1) (reply.Number (pos (depth + 1))) ∷ deeper (depth + 1) n

-- it is locked 64 deep, and no deeper
unfoldable pub deepest : List TableLine
deepest =
    main op.Initialize reply.Ok
    ∷ main (op.MutexCreate 1 true) (reply.Handle h1)
    ∷ deeper 0 63
    ++ main_not (lock h1) (reply.Number (pos 64)) (reply.Mrapi code.ErrMutexLocked)
    ∷ denied (lock h1) code.ErrMutexLocked (reply.Number (pos 65))
    ∷ main (op.MutexUnlock (mutex h1) 64) reply.Ok
    ∷ main (lock h1) (reply.Number (pos 64))
    ∷ []

-- Semaphores

unfoldable pub semaphores : List TableLine
semaphores =
    main op.Initialize reply.Ok
    ∷ denied (op.SemGet 1) code.ErrSemIdInvalid (reply.Handle h1)
    ∷ denied (hold h1) code.ErrSemInvalid reply.Ok
    ∷ denied (op.SemUnlock (sem h1)) code.ErrSemInvalid (reply.Mrapi code.ErrSemNotlocked)
    ∷ denied (op.SemDelete (sem h1)) code.ErrSemInvalid reply.Ok
    ∷ denied (op.SemCreate 1 0) code.ErrParameter (reply.Handle h1)
    ∷ denied (op.SemCreate 1 65536) code.ErrParameter (reply.Handle h1)
    ∷ main_not (op.SemCreate 1 1) (reply.Handle h1) (reply.Handle again1)
    ∷ denied (op.SemCreate 1 1) code.ErrSemExists (reply.Handle h2)
    ∷ denied (op.SemCreate 1 0) code.ErrParameter (reply.Mrapi code.ErrSemExists)
    ∷ main (op.SemCreate 2 65535) (reply.Handle h2)
    ∷ denied (op.SemCreate 3 1) code.ErrSemLimit (reply.Handle h3)
    ∷ denied (op.SemCreate 2 1) code.ErrSemExists (reply.Mrapi code.ErrSemLimit)
    ∷ main_not (op.SemGet 2) (reply.Handle h2) (reply.Handle h1)
    ∷ main_not (hold h1) reply.Ok reply.Pending
    ∷ main_not (hold h1) reply.Pending reply.Ok
    ∷ second_not (hold h1) reply.Pending reply.Ok
    ∷ second_not (op.SemLook (sem h1) true) (reply.Mrapi code.Timeout) reply.Pending
    ∷ second_not (op.SemUnlock (sem h1)) (reply.Mrapi code.ErrSemNotlocked) reply.Ok
    ∷ second_not (op.SemDelete (sem h1)) (reply.Mrapi code.ErrSemLocked) reply.Ok
    ∷ main_not (op.SemUnlock (sem h1)) reply.Ok (reply.Mrapi code.ErrSemNotlocked)
    ∷ denied (op.SemUnlock (sem h1)) code.ErrSemNotlocked reply.Ok
    ∷ second_not (hold h1) reply.Ok reply.Pending
    ∷ second (op.SemUnlock (sem h1)) reply.Ok
    ∷ main_not (hold h2) reply.Ok reply.Pending
    ∷ main_not (hold h2) reply.Ok reply.Pending
    ∷ second_not (hold h2) reply.Ok reply.Pending
    ∷ main (op.SemUnlock (sem h2)) reply.Ok
    ∷ main (op.SemUnlock (sem h2)) reply.Ok
    ∷ denied (op.SemUnlock (sem h2)) code.ErrSemNotlocked reply.Ok
    ∷ denied (op.SemDelete (sem h2)) code.ErrSemLocked reply.Ok
    ∷ main_not (op.SemDelete (sem h1)) reply.Ok (reply.Mrapi code.ErrSemLocked)
    ∷ denied (op.SemDelete (sem h1)) code.ErrSemInvalid reply.Ok
    ∷ main_not (op.SemCreate 1 1) (reply.Handle again1) (reply.Handle h1)
    ∷ []

-- Reader-writer locks: either one writer, or readers, as many as the limit

unfoldable pub reader_writer_locks : List TableLine
reader_writer_locks =
    main op.Initialize reply.Ok
    ∷ denied (op.RwlGet 1) code.ErrRwlIdInvalid (reply.Handle h1)
    ∷ denied (read_lock h1) code.ErrRwlInvalid reply.Ok
    ∷ denied (op.RwlUnlock (rwl h1) false) code.ErrRwlInvalid (reply.Mrapi code.ErrRwlNotlocked)
    ∷ denied (op.RwlDelete (rwl h1)) code.ErrRwlInvalid reply.Ok
    ∷ denied (op.RwlCreate 1 0) code.ErrParameter (reply.Handle h1)
    ∷ denied (op.RwlCreate 1 33) code.ErrParameter (reply.Handle h1)
    ∷ main_not (op.RwlCreate 1 1) (reply.Handle h1) (reply.Handle again1)
    ∷ denied (op.RwlCreate 1 32) code.ErrRwlExists (reply.Handle h2)
    ∷ denied (op.RwlCreate 1 0) code.ErrParameter (reply.Mrapi code.ErrRwlExists)
    ∷ main (op.RwlCreate 2 32) (reply.Handle h2)
    ∷ denied (op.RwlCreate 3 1) code.ErrRwlLimit (reply.Handle h3)
    ∷ denied (op.RwlCreate 2 1) code.ErrRwlExists (reply.Mrapi code.ErrRwlLimit)
    ∷ main_not (op.RwlGet 2) (reply.Handle h2) (reply.Handle h1)
    ∷ main_not (read_lock h1) reply.Ok reply.Pending
    ∷ second_not (write_lock h1) reply.Pending reply.Ok
    ∷ second_not (op.RwlLook (rwl h1) true true) (reply.Mrapi code.Timeout) reply.Pending
    ∷ second_not (read_lock h1) reply.Pending reply.Ok
    ∷ second_not (op.RwlLook (rwl h1) false true) (reply.Mrapi code.Timeout) reply.Pending
    ∷ denied (read_lock h1) code.ErrRwlLocked reply.Pending
    ∷ denied (write_lock h1) code.ErrRwlLocked reply.Pending
    ∷ denied (op.RwlUnlock (rwl h1) true) code.ErrRwlNotlocked reply.Ok
    ∷ second_not (op.RwlUnlock (rwl h1) false) (reply.Mrapi code.ErrRwlNotlocked) reply.Ok
    ∷ second_not (op.RwlDelete (rwl h1)) (reply.Mrapi code.ErrRwlLocked) reply.Ok
    ∷ main_not (op.RwlUnlock (rwl h1) false) reply.Ok (reply.Mrapi code.ErrRwlNotlocked)
    ∷ denied (op.RwlUnlock (rwl h1) false) code.ErrRwlNotlocked reply.Ok
    ∷ second_not (write_lock h1) reply.Ok reply.Pending
    ∷ main_not (read_lock h1) reply.Pending reply.Ok
    ∷ main_not (write_lock h1) reply.Pending reply.Ok
    ∷ second_not (read_lock h1) (reply.Mrapi code.ErrRwlLocked) reply.Pending
    ∷ second_not (op.RwlUnlock (rwl h1) false) (reply.Mrapi code.ErrRwlNotlocked) reply.Ok
    ∷ denied (op.RwlDelete (rwl h1)) code.ErrRwlLocked reply.Ok
    ∷ second_not (op.RwlUnlock (rwl h1) true) reply.Ok (reply.Mrapi code.ErrRwlNotlocked)
    ∷ main_not (op.RwlDelete (rwl h1)) reply.Ok (reply.Mrapi code.ErrRwlLocked)
    ∷ denied (op.RwlDelete (rwl h1)) code.ErrRwlInvalid reply.Ok
    ∷ main_not (read_lock h2) reply.Ok reply.Pending
    ∷ second_not (read_lock h2) reply.Ok reply.Pending
    ∷ main (op.RwlUnlock (rwl h2) false) reply.Ok
    ∷ main_not (write_lock h2) reply.Pending reply.Ok
    ∷ []

-- Segments

unfoldable pub segments : List TableLine
segments =
    main op.Initialize reply.Ok
    ∷ denied (op.ShmemGet 1) code.ErrShmIdInvalid (reply.Handle h1)
    ∷ denied (op.ShmemAttach (segment h1)) code.ErrShmInvalid reply.Ok
    ∷ denied (op.ShmemDetach (segment h1)) code.ErrShmInvalid (reply.Mrapi code.ErrShmNotattached)
    ∷ denied (op.ShmemRead (segment h1) 0) code.ErrShmInvalid (reply.Mrapi code.ErrShmNotattached)
    ∷ denied (op.ShmemWrite (segment h1) 0 (pos 1)) code.ErrShmInvalid (reply.Mrapi code.ErrShmNotattached)
    ∷ denied (op.ShmemDelete (segment h1)) code.ErrShmInvalid reply.Ok
    ∷ denied (op.ShmemCreate 1 0) code.ErrParameter (reply.Handle h1)
    ∷ denied (op.ShmemCreate 1 4097) code.ErrParameter (reply.Handle h1)
    ∷ main_not (op.ShmemCreate 1 2) (reply.Handle h1) (reply.Handle again1)
    ∷ denied (op.ShmemCreate 1 2) code.ErrShmExists (reply.Handle h2)
    ∷ denied (op.ShmemCreate 1 0) code.ErrParameter (reply.Mrapi code.ErrShmExists)
    ∷ main (op.ShmemCreate 2 1) (reply.Handle h2)
    ∷ denied (op.ShmemCreate 3 1) code.ErrShmLimit (reply.Handle h3)
    ∷ denied (op.ShmemCreate 2 1) code.ErrShmExists (reply.Mrapi code.ErrShmLimit)
    ∷ main_not (op.ShmemGet 2) (reply.Handle h2) (reply.Handle h1)
    ∷ denied (op.ShmemDetach (segment h1)) code.ErrShmNotattached reply.Ok
    ∷ denied (op.ShmemRead (segment h1) 2) code.ErrShmNotattached (reply.Mrapi code.ErrParameter)
    ∷ denied (op.ShmemWrite (segment h1) 2 (pos 1)) code.ErrShmNotattached (reply.Mrapi code.ErrParameter)
    ∷ main (op.ShmemAttach (segment h1)) reply.Ok
    ∷ denied (op.ShmemAttach (segment h1)) code.ErrShmAttached reply.Ok
    ∷ second_not (op.ShmemRead (segment h1) 0) (reply.Mrapi code.ErrShmNotattached) (reply.Number (pos 0))
    ∷ second (op.ShmemAttach (segment h1)) reply.Ok
    ∷ denied (op.ShmemRead (segment h1) 2) code.ErrParameter (reply.Number (pos 0))
    ∷ denied (op.ShmemWrite (segment h1) 2 (pos 1)) code.ErrParameter reply.Ok
    ∷ main_not (op.ShmemRead (segment h1) 1) (reply.Number (pos 0)) (reply.Number (pos 1))
    ∷ main (op.ShmemWrite (segment h1) 1 (negsuc 8)) reply.Ok
    ∷ second_not (op.ShmemRead (segment h1) 1) (reply.Number (negsuc 8)) (reply.Number (pos 0))
    ∷ second_not (op.ShmemRead (segment h1) 0) (reply.Number (pos 0)) (reply.Number (negsuc 8))
    ∷ denied (op.ShmemDelete (segment h1)) code.ErrShmAttached reply.Ok
    ∷ main (op.ShmemDetach (segment h1)) reply.Ok
    ∷ denied (op.ShmemDelete (segment h1)) code.ErrShmAttached reply.Ok
    ∷ second (op.ShmemDetach (segment h1)) reply.Ok
    ∷ second_not (op.ShmemDetach (segment h1)) (reply.Mrapi code.ErrShmNotattached) reply.Ok
    ∷ main (op.ShmemDelete (segment h1)) reply.Ok
    ∷ denied (op.ShmemDelete (segment h1)) code.ErrShmInvalid reply.Ok
    ∷ []

-- room for one segment: its place is used again, and the new segment's cell is 0
unfoldable pub cleared : List TableLine
cleared =
    main op.Initialize reply.Ok
    ∷ main (op.ShmemCreate 1 1) (reply.Handle h1)
    ∷ main (op.ShmemAttach (segment h1)) reply.Ok
    ∷ main (op.ShmemWrite (segment h1) 0 (pos 7)) reply.Ok
    ∷ main (op.ShmemDetach (segment h1)) reply.Ok
    ∷ main (op.ShmemDelete (segment h1)) reply.Ok
    ∷ main (op.ShmemCreate 1 1) (reply.Handle again1)
    ∷ main (op.ShmemAttach (segment again1)) reply.Ok
    ∷ main_not (op.ShmemRead (segment again1) 0) (reply.Number (pos 0)) (reply.Number (pos 7))
    ∷ denied (op.ShmemAttach (segment h1)) code.ErrShmInvalid reply.Ok
    ∷ []

-- a segment of as many cells as there may be
unfoldable pub greatest_segment : List TableLine
greatest_segment = main op.Initialize reply.Ok ∷ main_not (op.ShmemCreate 1 4096) (reply.Handle h1) (reply.Mrapi code.ErrParameter) ∷ []

pub record WorkedResources : Type 0 where
  pub mutexes_made : IsWorkedTable small mutexes_made
  pub keys : IsWorkedTable small keys
  pub deepest : IsWorkedTable small deepest
  pub semaphores : IsWorkedTable small semaphores
  pub reader_writer_locks : IsWorkedTable small reader_writer_locks
  pub segments : IsWorkedTable small segments
  pub cleared : IsWorkedTable (node_of 1 1 1) cleared
  pub greatest : IsWorkedTable small greatest_segment
