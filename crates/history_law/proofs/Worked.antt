-- The worked history, by the law and by computing.
use Rattle.history_law.proofs.Names.{◌≡◌, List, [], ◌∷◌, ◌++◌, Some, refl, sym, ◌∙◌, pos, TaskEnd, Completed, live_of, issue, change, listed, issued_at, retired, is_full, may_issue, has_worker, end_each, is_ready, can_take, has_better, NodeEntry, after_from, after, usual, worked_first_handle, main_entry, worker, add_task, picks_first, finishes_first, task_handle, every_core_mask, one_task, one_task-legal, end_at, EndsOnce, OneTaskEnds, false}
use Rattle.mtapi_values.specs.declared.kinds.Kind.TheVariants as kind
use Rattle.mtapi_machine.specs.declared.ops.Op.TheVariants as op
use Rattle.mtapi_machine.specs.declared.replies.Reply.TheVariants as reply
use Rattle.history_law.proofs.Accepted.{accepted_end}

-- what comes before the start, what follows it, and what comes before the final step
opened : List NodeEntry
opened = main_entry op.Initialize reply.Ok ∷ main_entry op.Release reply.Ok
    ∷ main_entry (op.ActionCreate 1 kind.Add every_core_mask) (reply.Handle worked_first_handle) ∷ []

start : NodeEntry
start = main_entry (add_task 0) (reply.Handle worked_first_handle)

run : List NodeEntry
run = picks_first ∷ finishes_first ∷ main_entry (op.TaskLook (task_handle worked_first_handle) false) (reply.Ended (Completed (pos 5 ∷ [])))
    ∷ main_entry op.Close reply.Ok
    ∷ worker op.Pick reply.Stop ∷ []

ends_once : EndsOnce usual one_task worked_first_handle
unfolding one_task opened start run
ends_once = accepted_end usual one_task (opened ++ start ∷ run) 1 one_task-legal refl opened (run ++ main_entry op.Final reply.Ok
    ∷ []) start worked_first_handle refl refl

pub computed : end_at (after usual one_task).tasks worked_first_handle ≡ Some (Completed (pos 5 ∷ []))
unfolding one_task end_at after_from live_of issue change listed issued_at retired is_full may_issue has_worker end_each is_ready can_take has_better
computed = refl

pub one_task_ends : OneTaskEnds
one_task_ends = (ends_once, same ends_once.end (sym ends_once.ended ∙ computed))
  where
    same : (x : TaskEnd) → Some x ≡ Some (Completed (pos 5 ∷ [])) → x ≡ Completed (pos 5 ∷ [])
    same x e = cc
