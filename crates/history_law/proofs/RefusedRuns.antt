-- What the laws of a run refuse, by computing.
use Rattle.history_law.proofs.Names.{◌≡◌, ℕ, zero, suc, ◌≤◌, List, [], ◌∷◌, ◌++◌, Option, Some, None, refl, sym, ◌∙◌, arith, true, ◌+◌, ◌==◌, Timeout, Failed, Cancelled, is_seat, live_of, live_object, count_listed, issue, change, listed, issued_at, retired, is_full, may_issue, has_worker, Task, runs_on, is_ready, can_take, has_better, opening, NodeEntry, after_from, after, end_at, usual, main_entry, worked_first_handle, add_task, TasksEndOnce, OnceListed, WaitsFor, KeepsWaiter, HoldsTask, KeepsPhase, KeepsRelease, KeepsEarly, AreUntouched, KeepsOnce, too_early, started, waits_entries, looks_last, takes, ends_entries, ends_late, opens_entries, releases, closes_it, state_with_tasks, a_task, listed_once, has_looked, RunLawsRefuse, was_cancelled, adding, has_got_both, h1, EndsPlainly, task_at, TalliesHold, got_both, cond_both, nat_tests}
use Rattle.mtapi_machine.specs.declared.ops.Op.TheVariants as op
use Rattle.mtapi_machine.specs.declared.replies.Reply.TheVariants as reply
use Rattle.history_law.specs.Refused.{refused_action_op}
use Rattle.history_law.proofs.Refused.{not_some, no_end, true_false}

refuses_accepted : TasksEndOnce usual too_early → ⊥
unfolding too_early
refuses_accepted f =
    let before : List NodeEntry = main_entry op.Initialize reply.Ok ∷ main_entry refused_action_op (reply.Handle worked_first_handle) ∷ [] in
    let x = f before (main_entry op.Final reply.Ok ∷ []) (main_entry (add_task 0) (reply.Handle worked_first_handle)) worked_first_handle refl refl in
    not_some (sym no_end ∙ x.ended)

-- nought isn't one
pub not_one : zero ≡ suc zero → ⊥
not_one e = omega arith

refuses_twice : OnceListed (state_with_tasks (listed_once a_task ∷ listed_once a_task ∷ [])) → ⊥
unfolding listed
refuses_twice f = let two : 2 ≤ 1 = f worked_first_handle in omega arith

-- main is the waiter; after its last look nobody is
waiting : WaitsFor (after usual (started ++ waits_entries)) 1 worked_first_handle
unfolding started after_from live_of issue change listed issued_at retired is_full may_issue has_worker
waiting = (_, refl, record { mark = refl; kept = refl; alone = refl })

abbrev waiter_at : Option Task → Option ℕ
waiter_at None = None
waiter_at (Some t) = t.notes.waiter

no_waiter : waiter_at (live_object (after usual (started ++ (waits_entries ++ looks_last))).tasks worked_first_handle) ≡ None
unfolding started after_from live_of issue change listed issued_at retired is_full may_issue has_worker
no_waiter = refl

refuses_waiter : KeepsWaiter (after usual (started ++ waits_entries)) looks_last 1 worked_first_handle → ⊥
unfolding started after_from
refuses_waiter e1 = grind (arith, nat_tests, looks_last, worked_first_handle, waiting, true_false, is_seat, no_waiter)

-- the worker has a task, and then none
running : HoldsTask (after usual (started ++ takes)) 0 worked_first_handle adding
unfolding started after_from live_of issue change listed issued_at retired is_full may_issue has_worker is_ready can_take has_better
running = record { task = _; found = refl; runs = record { state = refl; arguments = refl; looked = refl; reported = refl; did = refl }; alone = refl }

none_runs : count_listed (runs_on 0) (after usual (started ++ (takes ++ ends_entries))).tasks ≡ 0
unfolding started after_from live_of issue change listed issued_at retired is_full may_issue has_worker is_ready can_take has_better
none_runs = refl

refuses_untouched : AreUntouched (state_with_tasks (listed_once has_looked ∷ [])) → ⊥
unfolding live_of
refuses_untouched f = not_one (sym (f worked_first_handle has_looked refl refl).looks)

ended_late : end_at (after usual (started ++ (takes ++ ends_late))).tasks worked_first_handle ≡ Some (Failed Timeout)
unfolding started end_at after_from live_of issue change listed issued_at retired is_full may_issue has_worker is_ready can_take has_better
ended_late = refl

refuses_phase : KeepsPhase (opening usual) opens_entries → ⊥
unfolding after_from
refuses_phase f = absurd (cc)

refuses_release : KeepsRelease (opening usual) releases → ⊥
unfolding after_from
refuses_release f = true_false f

refuses_early : KeepsEarly (opening usual) closes_it → ⊥
unfolding after_from
refuses_early f = true_false (f refl)

refuses_second : KeepsOnce (state_with_tasks (listed_once a_task ∷ [])) (state_with_tasks (listed_once a_task ∷ listed_once a_task ∷ [])) → ⊥
unfolding listed
refuses_second f = refuses_twice (f (λ h. (cond_both (worked_first_handle == h) 1 0 (λ q. q + 0 ≤ 1) (λ e. omega arith) (λ e. omega arith))))

-- no action is there whose kind might have answered so
refuses_cancelled : EndsPlainly (state_with_tasks (listed_once was_cancelled ∷ [])) worked_first_handle → ⊥
unfolding task_at live_of
refuses_cancelled f = let x = f was_cancelled Cancelled refl refl in not_some x.1.found

-- the tally's task, and that it has got both
tally_runs : (t : Task) × (live_object has_got_both.tasks h1 ≡ Some t) × (runs_on 0 t ≡ true) × (got_both t.notes.tally ≡ true)
unfolding after_from live_of issue change listed issued_at retired is_full may_issue has_worker is_ready can_take has_better
tally_runs = (_, refl, refl, refl)

refuses_no_mutex : TalliesHold (record has_got_both { mutexes = [] }) → ⊥
unfolding live_of
refuses_no_mutex f = (f h1 0 tally_runs.0 tally_runs.1 tally_runs.2 tally_runs.3).mutex

refuses_no_segment : TalliesHold (record has_got_both { segments = [] }) → ⊥
unfolding live_of
refuses_no_segment f = (f h1 0 tally_runs.0 tally_runs.1 tally_runs.2 tally_runs.3).segment

pub run_laws_refuse : RunLawsRefuse
run_laws_refuse = record {
  accepted = refuses_accepted;
  once = refuses_twice;
  once_stays = refuses_second;
  waiter = refuses_waiter;
  work = λ f. not_one (sym none_runs ∙ (f.holds worked_first_handle adding running).alone);
  served = λ e1. grind (arith, nat_tests, running);
  untouched = refuses_untouched;
  seats = λ f. omega arith;
  late = λ f. true_false (f worked_first_handle (Failed Timeout) ended_late);
  phase = refuses_phase;
  release = refuses_release;
  early = refuses_early;
  stopped = λ f. true_false (sym (f 0 refl));
  room = λ e. omega arith;
  enter = λ f. true_false (sym (f [] [] 2 refl));
  final_step = λ f. true_false (sym (f [] [] 1 0 refl (omega arith)));
  quiet_ends = refuses_cancelled;
  tally_mutex = refuses_no_mutex;
  tally_segment = refuses_no_segment;
}
