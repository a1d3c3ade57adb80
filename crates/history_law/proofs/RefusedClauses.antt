-- The lists that the further clauses refuse, by computing.
use Rattle.history_law.proofs.Names.{◌≡◌, ◌<◌, ◌≤◌, true, List, [], ◌∷◌, ◌++◌, Some, IsSome, refl, sym, ◌∙◌, arith, pos, Cancelled, live_of, issue, change, listed, issued_at, retired, is_full, may_issue, has_worker, end_each, is_ready, can_take, has_better, NodeEntry, after_from, after, end_at, usual, main_entry, worked_first_handle, next_handle, task_handle, the_action, EndsOnce, ObeysMasks, GivenInOrder, EndedBefore, RunsInOrder, NotInBoth, too_early, up_to_the_end, two_put, puts_one, some_same}
use Rattle.mtapi_values.specs.declared.kinds.Kind.TheVariants as kind
use Rattle.mtapi_values.specs.declared.handles.ObjectKind.TheVariants as object
use Rattle.mtapi_values.specs.declared.handles.Layout.TheVariants.{Two}
use Rattle.mtapi_objects.specs.Groups.{endings}
use Rattle.mtapi_machine.specs.declared.ops.Op.TheVariants as op
use Rattle.mtapi_machine.specs.declared.replies.Reply.TheVariants as reply
use Rattle.history_law.specs.Order.{number_at}
use Rattle.history_law.specs.Refused.{refused_action_op, gives_first_twice}
use Rattle.history_law.specs.RefusedClauses.{made_here, for_another_core, started_here, on_the_tasks_core, picked_unstarted, picked_unmade, gives_second, ended_crosswise, given_crosswise, cancels_first, picks_next, picks_late, picked_late, ClausesRefuse}
use Rattle.history_law.proofs.Refused.{true_false}

tasks_mask : ObeysMasks on_the_tasks_core 2 → ⊥
tasks_mask f =
    let x = f (made_here ∷ for_another_core ∷ []) [] 0 (task_handle worked_first_handle) the_action kind.Add (pos 2 ∷ pos 3 ∷ []) refl refl in
    true_false (sym (x.task (made_here ∷ []) [] for_another_core 2 refl refl refl))

unstarted : ObeysMasks picked_unstarted 1 → ⊥
unstarted f = true_false (sym (f (made_here ∷ []) [] 0 (task_handle worked_first_handle) the_action kind.Add (pos 2 ∷ pos 3 ∷ []) refl refl).started)

unmade : ObeysMasks picked_unmade 1 → ⊥
unmade f = true_false (sym (f (started_here ∷ []) [] 0 (task_handle worked_first_handle) the_action kind.Add (pos 2 ∷ pos 3 ∷ []) refl refl).made)

first_number : number_at (after usual (ended_crosswise ++ given_crosswise)).tasks worked_first_handle ≡ Some 1
unfolding ended_crosswise number_at after_from live_of issue change listed issued_at retired is_full may_issue has_worker end_each endings is_ready can_take
    has_better
first_number = refl

next_number : number_at (after usual (ended_crosswise ++ given_crosswise)).tasks next_handle ≡ Some 0
unfolding ended_crosswise number_at after_from live_of issue change listed issued_at retired is_full may_issue has_worker end_each endings is_ready can_take
    has_better
next_number = refl

crosswise : GivenInOrder usual (ended_crosswise ++ given_crosswise) worked_first_handle → ⊥
crosswise f =
    let x : EndedBefore (after usual (ended_crosswise ++ given_crosswise)) worked_first_handle next_handle =
    f ended_crosswise [] [] gives_first_twice gives_second worked_first_handle next_handle refl refl refl in
    let a : x.first ≡ 1 = some_same (sym x.first_end ∙ first_number) in
    let b : x.second ≡ 0 = some_same (sym x.second_end ∙ next_number) in
    let less : x.first < x.second = x.less in
    omega arith

late : RunsInOrder usual picked_late worked_first_handle → ⊥
unfolding picked_late two_put
late f =
    let z : List NodeEntry = main_entry op.Initialize reply.Ok ∷ main_entry refused_action_op (reply.Handle worked_first_handle) ∷ [] in
    let x = f z [] [] (cancels_first ∷ []) (picks_late
    ∷ []) (main_entry (op.QueueCreate 1 1 0 2 true true) (reply.Handle worked_first_handle)) (main_entry puts_one (reply.Handle worked_first_handle))
    (main_entry puts_one (reply.Handle next_handle)) picks_next
    worked_first_handle next_handle refl refl refl refl refl in
    true_false x.never

kind_lists : NotInBoth Two usual too_early object.Action object.Task worked_first_handle → ⊥
unfolding too_early after_from live_of issue change listed issued_at retired is_full may_issue has_worker end_each is_ready can_take has_better
kind_lists f = let once : 1 ≤ 1 = omega arith in (f refl refl).lists once once

was_cancelled : end_at (after usual up_to_the_end).tasks worked_first_handle ≡ Some Cancelled
unfolding up_to_the_end end_at after_from live_of issue change listed issued_at retired is_full may_issue has_worker end_each is_ready can_take has_better
was_cancelled = refl

has_ended : IsSome (end_at (after usual up_to_the_end).tasks worked_first_handle)
unfolding up_to_the_end end_at after_from live_of issue change listed issued_at retired is_full may_issue has_worker end_each is_ready can_take has_better
has_ended = refl

shows : (es : List NodeEntry) (x : EndsOnce usual (up_to_the_end ++ es) worked_first_handle)
    → end_at (after usual (up_to_the_end ++ [])).tasks worked_first_handle ≡ Some x.end
shows es x = x.stays up_to_the_end [] es refl has_ended

first_end : (es : List NodeEntry) (x : EndsOnce usual (up_to_the_end ++ es) worked_first_handle) → x.end ≡ Cancelled
unfolding up_to_the_end
first_end es x = some_same (sym (shows es x) ∙ was_cancelled)

pub clauses_refuse : ClausesRefuse
clauses_refuse = record {
  tasks_mask = tasks_mask;
  unstarted = unstarted;
  unmade = unmade;
  crosswise = crosswise;
  late = late;
  kind_lists = kind_lists;
  one_record = λ terms es h x. x.one;
  stays_ended = λ es more x. x.stays up_to_the_end es more Cancelled refl was_cancelled;
  just_one = λ terms es h x. x.one;
  first_end = first_end;
}
