-- Worked: tallies, by which workers add numbers to the cells of segments.
use Rattle.std.specs.Prelude.{ℕ, true, false, List, [], ◌∷◌, ℤ, pos, negsuc}
use Rattle.mtapi_values.specs.declared.kinds.Kind.TheVariants as kind
use Rattle.mtapi_values.specs.declared.statuses.MtapiStatus.TheVariants as status
use Rattle.mtapi_values.specs.declared.statuses.MrapiStatus.TheVariants as code
use Rattle.mtapi_values.specs.declared.ends.TaskEnd.TheVariants.{Completed, Cancelled, Failed}
use Rattle.mtapi_machine.specs.declared.ops.Op.{Op}
use Rattle.mtapi_machine.specs.declared.ops.Op.TheVariants as op
use Rattle.mtapi_machine.specs.declared.replies.Reply.{Reply}
use Rattle.mtapi_machine.specs.declared.replies.Reply.TheVariants as reply
use Rattle.mtapi_machine.specs.Tables.{TableLine, IsWorkedTable, node_of, line, h1, h2, h3, again1, task, group, mutex, segment, action_of, start, start_of_group, look, picked}

-- lines of main on a node with two workers
abbrev pub table_asks : Op → Reply → TableLine
table_asks o r = line 2 o r []

-- a worker is refused, and not answered this
abbrev pub parameter : ℕ → Op → Reply → TableLine
parameter w o x = line w o (reply.Mtapi status.ErrParameter) (x ∷ [])

abbrev pub invalid : ℕ → Op → Reply → TableLine
invalid w o x = line w o (reply.Mtapi status.ErrTaskInvalid) (x ∷ [])

-- what the four ops of a tally are
abbrev pub lock : ℕ → Op
lock t = op.TallyLock (task t)

abbrev pub read : ℕ → Op
read t = op.TallyRead (task t)

abbrev pub write : ℕ → ℤ → Op
write t z = op.TallyWrite (task t) z

abbrev pub end : ℕ → Op
end t = op.TallyEnd (task t)

-- the arguments: the mutex 1, the segment 2, a cell, and a number
abbrev pub adds : ℕ → ℤ → List ℤ
adds cell z = pos 1 ∷ pos 2 ∷ pos cell ∷ z ∷ []

-- two tallies add 5 and 7 to one cell, each on a worker of its own; the second waits for the mutex
unfoldable pub both_added : List TableLine
both_added =
    table_asks op.Initialize reply.Ok
    ∷ table_asks (action_of kind.Tally) (reply.Handle h1)
    ∷ table_asks (op.MutexCreate 1 false) (reply.Handle h1)
    ∷ table_asks (op.ShmemCreate 2 1) (reply.Handle h1)
    ∷ table_asks op.GroupCreate (reply.Handle h1)
    ∷ table_asks (start_of_group h1 (adds 0 (pos 5))) (reply.Handle h1)
    ∷ table_asks (start_of_group h1 (adds 0 (pos 7))) (reply.Handle h2)
    ∷ invalid 0 (lock h1) (reply.Asked true)
    ∷ line 0 op.Pick (picked h1 kind.Tally (adds 0 (pos 5))) []
    ∷ line 1 op.Pick (picked h2 kind.Tally (adds 0 (pos 7))) []
    ∷ invalid 1 (lock h1) (reply.Asked true)
    ∷ invalid 1 (read h1) (reply.Mtapi status.ErrParameter)
    ∷ invalid 1 (write h1 (pos 5)) (reply.Mtapi status.ErrParameter)
    ∷ invalid 1 (end h1) (reply.Mtapi status.ErrParameter)
    ∷ parameter 0 (read h1) (reply.Number (pos 0))
    ∷ parameter 0 (write h1 (pos 5)) reply.Ok
    ∷ parameter 0 (end h1) (reply.Ended (Completed (pos 5 ∷ [])))
    ∷ line 0 (lock h1) (reply.Asked true) (reply.Asked false ∷ reply.Pending ∷ [])
    ∷ parameter 0 (lock h1) (reply.Asked true)
    ∷ line 1 (lock h2) reply.Pending (reply.Asked true ∷ reply.Asked false ∷ [])
    ∷ line 2 (op.MutexDelete (mutex h1)) (reply.Mrapi code.ErrMutexLocked) (reply.Ok ∷ [])
    ∷ line 2 (op.ShmemDelete (segment h1)) (reply.Mrapi code.ErrShmAttached) (reply.Ok ∷ [])
    ∷ line 2 (op.MutexLook (mutex h1) false) reply.Pending (reply.Number (pos 1) ∷ [])
    ∷ parameter 0 (write h1 (pos 5)) reply.Ok
    ∷ parameter 0 (end h1) (reply.Ended (Failed status.ErrActionFailed))
    ∷ line 0 (read h1) (reply.Number (pos 0)) (reply.Number (pos 5) ∷ [])
    ∷ parameter 0 (lock h1) (reply.Asked true)
    ∷ parameter 0 (read h1) (reply.Number (pos 0))
    ∷ parameter 0 (end h1) (reply.Ended (Completed (pos 5 ∷ [])))
    ∷ parameter 0 (write h1 (pos 6)) reply.Ok
    ∷ parameter 0 (write h1 (negsuc 4)) reply.Ok
    ∷ line 0 (write h1 (pos 5)) reply.Ok (reply.Mtapi status.ErrParameter ∷ [])
    ∷ parameter 0 (write h1 (pos 5)) reply.Ok
    ∷ parameter 0 (read h1) (reply.Number (pos 5))
    ∷ line 1 (lock h2) reply.Pending (reply.Asked true ∷ [])
    ∷ line 0 (end h1) (reply.Ended (Completed (pos 5 ∷ []))) (reply.Ended (Completed (pos 0 ∷ [])) ∷ reply.Mtapi status.ErrParameter ∷ [])
    ∷ invalid 0 (end h1) (reply.Ended (Completed (pos 5 ∷ [])))
    ∷ line 1 (lock h2) (reply.Asked true) (reply.Pending ∷ [])
    ∷ line 1 (read h2) (reply.Number (pos 5)) (reply.Number (pos 0) ∷ [])
    ∷ parameter 1 (write h2 (pos 7)) reply.Ok
    ∷ line 1 (write h2 (pos 12)) reply.Ok []
    ∷ line 1 (end h2) (reply.Ended (Completed (pos 12 ∷ []))) (reply.Ended (Completed (pos 7 ∷ [])) ∷ [])
    ∷ line 2 (op.AllLook (group h1) false) reply.Ok (reply.Pending ∷ [])
    ∷ table_asks (op.ShmemAttach (segment h1)) reply.Ok
    ∷ line 2 (op.ShmemRead (segment h1) 0) (reply.Number (pos 12)) (reply.Number (pos 7) ∷ reply.Number (pos 5) ∷ [])
    ∷ line 2 (op.MutexDelete (mutex h1)) reply.Ok (reply.Mrapi code.ErrMutexLocked ∷ [])
    ∷ []

-- the second one names a cell that the segment doesn't have
unfoldable pub no_cell : List TableLine
no_cell =
    table_asks op.Initialize reply.Ok
    ∷ table_asks (action_of kind.Tally) (reply.Handle h1)
    ∷ table_asks (op.MutexCreate 1 false) (reply.Handle h1)
    ∷ table_asks (op.ShmemCreate 2 1) (reply.Handle h1)
    ∷ table_asks op.GroupCreate (reply.Handle h1)
    ∷ table_asks (start_of_group h1 (adds 0 (pos 5))) (reply.Handle h1)
    ∷ table_asks (start_of_group h1 (adds 1 (pos 7))) (reply.Handle h2)
    ∷ line 0 op.Pick (picked h1 kind.Tally (adds 0 (pos 5))) []
    ∷ line 1 op.Pick (picked h2 kind.Tally (adds 1 (pos 7))) []
    ∷ line 0 (lock h1) (reply.Asked true) []
    ∷ line 1 (lock h2) (reply.Asked false) (reply.Pending ∷ reply.Asked true ∷ [])
    ∷ parameter 1 (lock h2) (reply.Asked false)
    ∷ parameter 1 (read h2) (reply.Number (pos 0))
    ∷ parameter 1 (write h2 (pos 7)) reply.Ok
    ∷ line 0 (read h1) (reply.Number (pos 0)) []
    ∷ line 0 (write h1 (pos 5)) reply.Ok []
    ∷ line 0 (end h1) (reply.Ended (Completed (pos 5 ∷ []))) []
    ∷ line 1 (end h2) (reply.Ended (Failed status.ErrActionFailed)) (reply.Ended (Failed status.ErrArgSize) ∷ reply.Mtapi status.ErrParameter ∷ [])
    ∷ line 2 (op.AllLook (group h1) false) (reply.Mtapi status.ErrActionFailed) (reply.Ok ∷ [])
    ∷ table_asks (op.ShmemAttach (segment h1)) reply.Ok
    ∷ line 2 (op.ShmemRead (segment h1) 0) (reply.Number (pos 5)) (reply.Number (pos 12) ∷ [])
    ∷ []

-- tallies that fail: three arguments; a negative one; no mutex or no segment of the id; and a mutex that a caller owns is waited for
unfoldable pub bad_tallies : List TableLine
bad_tallies =
    table_asks op.Initialize reply.Ok
    ∷ table_asks (action_of kind.Tally) (reply.Handle h1)
    ∷ table_asks (start (pos 1 ∷ pos 2 ∷ pos 0 ∷ [])) (reply.Handle h1)
    ∷ line 0 op.Pick (picked h1 kind.Tally (pos 1 ∷ pos 2 ∷ pos 0 ∷ [])) []
    ∷ line 0 (lock h1) (reply.Asked false) (reply.Asked true ∷ [])
    ∷ line 0 (end h1) (reply.Ended (Failed status.ErrArgSize)) (reply.Ended (Failed status.ErrActionFailed) ∷ [])
    ∷ line 2 (look h1) (reply.Ended (Failed status.ErrArgSize)) (reply.Ended (Failed status.ErrActionFailed) ∷ [])
    ∷ table_asks (start (adds 0 (pos 5))) (reply.Handle h2)
    ∷ line 0 op.Pick (picked h2 kind.Tally (adds 0 (pos 5))) []
    ∷ line 0 (lock h2) (reply.Asked false) (reply.Asked true ∷ [])
    ∷ line 0 (end h2) (reply.Ended (Failed status.ErrActionFailed)) (reply.Ended (Failed status.ErrArgSize) ∷ [])
    ∷ table_asks (op.MutexCreate 1 false) (reply.Handle h1)
    ∷ table_asks (start (adds 0 (pos 5))) (reply.Handle h3)
    ∷ line 0 op.Pick (picked h3 kind.Tally (adds 0 (pos 5))) []
    ∷ line 0 (lock h3) (reply.Asked false) (reply.Asked true ∷ [])
    ∷ line 0 (end h3) (reply.Ended (Failed status.ErrActionFailed)) (reply.Mtapi status.ErrParameter ∷ [])
    ∷ table_asks (op.ShmemCreate 2 1) (reply.Handle h1)
    ∷ table_asks (start (pos 1 ∷ pos 2 ∷ negsuc 0 ∷ pos 5 ∷ [])) (reply.Handle 4294967299)
    ∷ line 0 op.Pick (picked 4294967299 kind.Tally (pos 1 ∷ pos 2 ∷ negsuc 0 ∷ pos 5 ∷ [])) []
    ∷ line 0 (lock 4294967299) (reply.Asked false) (reply.Asked true ∷ [])
    ∷ line 0 (end 4294967299) (reply.Ended (Failed status.ErrActionFailed)) (reply.Ended (Failed status.ErrArgSize) ∷ [])
    ∷ table_asks (op.MutexLook (mutex h1) false) (reply.Number (pos 1))
    ∷ table_asks (start (adds 0 (pos 5))) (reply.Handle again1)
    ∷ line 1 op.Pick (picked again1 kind.Tally (adds 0 (pos 5))) []
    ∷ line 1 (lock again1) reply.Pending (reply.Asked true ∷ [])
    ∷ []

-- the sum doesn't fit: the tally fails, gives the mutex and the segment back, and leaves the cell
unfoldable pub too_great : List TableLine
too_great =
    table_asks op.Initialize reply.Ok
    ∷ table_asks (action_of kind.Tally) (reply.Handle h1)
    ∷ table_asks (op.MutexCreate 1 false) (reply.Handle h1)
    ∷ table_asks (op.ShmemCreate 2 2) (reply.Handle h1)
    ∷ table_asks (op.ShmemAttach (segment h1)) reply.Ok
    ∷ table_asks (op.ShmemWrite (segment h1) 1 (pos 9223372036854775807)) reply.Ok
    ∷ table_asks (op.ShmemDetach (segment h1)) reply.Ok
    ∷ table_asks (op.MutexLook (mutex h1) false) (reply.Number (pos 1))
    ∷ table_asks (start (adds 1 (pos 1))) (reply.Handle h1)
    ∷ line 0 op.Pick (picked h1 kind.Tally (adds 1 (pos 1))) []
    ∷ line 0 (lock h1) reply.Pending (reply.Asked true ∷ [])
    ∷ table_asks (op.MutexUnlock (mutex h1) 1) reply.Ok
    ∷ line 0 (lock h1) (reply.Asked true) (reply.Pending ∷ [])
    ∷ parameter 0 (end h1) (reply.Ended (Failed status.ErrActionFailed))
    ∷ line 0 (read h1) (reply.Number (pos 9223372036854775807)) (reply.Number (pos 0) ∷ [])
    ∷ line 0 (end h1) (reply.Ended (Failed status.ErrActionFailed)) (reply.Mtapi status.ErrParameter ∷ reply.Ended Cancelled ∷ [])
    ∷ table_asks (op.ShmemAttach (segment h1)) reply.Ok
    ∷ table_asks (op.ShmemRead (segment h1) 1) (reply.Number (pos 9223372036854775807))
    ∷ table_asks (op.ShmemDetach (segment h1)) reply.Ok
    ∷ table_asks (op.ShmemDelete (segment h1)) reply.Ok
    ∷ line 2 (op.MutexLook (mutex h1) false) (reply.Number (pos 1)) (reply.Pending ∷ [])
    ∷ []

-- a tally with five arguments
unfoldable pub five_arguments : List TableLine
five_arguments =
    table_asks op.Initialize reply.Ok
    ∷ table_asks (action_of kind.Tally) (reply.Handle h1)
    ∷ table_asks (op.MutexCreate 1 false) (reply.Handle h1)
    ∷ table_asks (op.ShmemCreate 2 1) (reply.Handle h1)
    ∷ table_asks (start (pos 1 ∷ pos 2 ∷ pos 0 ∷ pos 5 ∷ pos 7 ∷ [])) (reply.Handle h1)
    ∷ line 0 op.Pick (picked h1 kind.Tally (pos 1 ∷ pos 2 ∷ pos 0 ∷ pos 5 ∷ pos 7 ∷ [])) []
    ∷ line 0 (lock h1) (reply.Asked false) (reply.Asked true ∷ [])
    ∷ line 0 (end h1) (reply.Ended (Failed status.ErrArgSize)) (reply.Ended (Failed status.ErrActionFailed) ∷ [])
    ∷ []

pub record WorkedTallies : Type 0 where
  pub both_added : IsWorkedTable (node_of 2 4 2) both_added
  pub no_cell : IsWorkedTable (node_of 2 4 2) no_cell
  pub bad_tallies : IsWorkedTable (node_of 2 4 2) bad_tallies
  pub too_great : IsWorkedTable (node_of 2 4 2) too_great
  pub five_arguments : IsWorkedTable (node_of 2 4 2) five_arguments
