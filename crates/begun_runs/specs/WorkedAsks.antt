-- What seats ask next, worked: by the number of replies so far, and by the handles in them.
use Rattle.std.specs.Prelude.{ℕ, Bool, true, false, List, [], ◌∷◌}
use Rattle.mtapi_values.specs.declared.timeouts.Timeout.TheVariants as timeout
use Rattle.workload_file.specs.declared.workload.Deed.TheVariants as deed
use Rattle.workload_file.specs.declared.workload.Statement.{Statement}
use Rattle.mtapi_machine.specs.declared.ops.Op.{Op}
use Rattle.mtapi_machine.specs.declared.ops.Op.TheVariants as op
use Rattle.mtapi_machine.specs.declared.replies.Reply.{Reply}
use Rattle.mtapi_machine.specs.declared.replies.Reply.TheVariants as reply
use Rattle.run_report.specs.Worked.{using}
use Rattle.begun_runs.specs.Asks.{MainAsks, CallerAsks}
use Rattle.begun_runs.specs.Worked.{stuck_statements}

-- a look at a semaphore, the last one or not
abbrev pub looks_at_semaphore : ℕ → Bool → Op
looks_at_semaphore handle last = op.SemLook (record { 0 = handle }) last

-- main releases by a statement
abbrev pub releasing : List Statement
releasing = using 1 deed.Begin ∷ []

-- a wait of three looks at most
abbrev pub bounded : List Statement
bounded = using 1 (deed.Sem 3 4) ∷ using 2 (deed.SemLock 0 (timeout.Looks 2)) ∷ []

-- replies to the first calls, of which the third gave a handle
abbrev pub made : List Reply
made = reply.Ok ∷ reply.Ok ∷ reply.Handle 9 ∷ []

-- and the calls of all statements came to one
abbrev pub taken_replies : List Reply
taken_replies = reply.Ok ∷ reply.Ok ∷ reply.Handle 9 ∷ reply.Ok ∷ reply.Ok ∷ []

-- and main has closed
abbrev pub closed_replies : List Reply
closed_replies = reply.Ok ∷ reply.Ok ∷ reply.Handle 9 ∷ reply.Ok ∷ reply.Ok ∷ reply.Ok ∷ []

pub record WorkedAsks : Type 0 where
  -- main, without `begin`
  pub opens : MainAsks stuck_statements [] op.Initialize
  pub not_yet : MainAsks stuck_statements [] op.Release → ⊥
  pub releases : MainAsks stuck_statements (reply.Ok ∷ []) op.Release
  pub creates : MainAsks stuck_statements (reply.Ok ∷ reply.Ok ∷ []) (op.SemCreate 1 1)
  pub not_again : MainAsks stuck_statements made (op.SemCreate 1 1) → ⊥
  pub by_handle : MainAsks stuck_statements made (looks_at_semaphore 9 false)
  pub by_another : MainAsks stuck_statements made (looks_at_semaphore 8 false) → ⊥
  pub never_last : MainAsks stuck_statements made (looks_at_semaphore 9 true) → ⊥
  pub not_early : MainAsks stuck_statements made op.Close → ⊥
  pub closes : MainAsks stuck_statements taken_replies op.Close
  pub finals : MainAsks stuck_statements closed_replies op.Final
  pub closes_once : MainAsks stuck_statements closed_replies op.Close → ⊥
  -- with `begin`
  pub begins : MainAsks releasing (reply.Ok ∷ []) op.Release
  pub then_closes : MainAsks releasing (reply.Ok ∷ reply.Ok ∷ []) op.Close
  -- a further caller, whose bounded wait may look for the last time
  pub enters : CallerAsks bounded [] op.Enter
  pub enters_once : CallerAsks bounded (reply.Ok ∷ []) op.Enter → ⊥
  pub first : CallerAsks bounded (reply.Ok ∷ []) (op.SemCreate 3 4)
  pub looks : CallerAsks bounded (reply.Ok ∷ reply.Handle 7 ∷ []) (looks_at_semaphore 7 false)
  pub looks_last : CallerAsks bounded (reply.Ok ∷ reply.Handle 7 ∷ []) (looks_at_semaphore 7 true)
  pub asks_no_more : (p : Op) → CallerAsks bounded (reply.Ok ∷ reply.Handle 7 ∷ reply.Ok ∷ []) p → ⊥
