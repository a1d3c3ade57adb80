-- Every row of an op that makes nothing, in the renamed state: a line an op.
use Rattle.mtapi_renaming.proofs.Names.{◌≡◌, ℕ, Bool, true, false, ◌||◌, [], ◌∷◌, None, refl, sym, ◌∙◌, ap, subst, ◌==◌, not, pos, Cancelled, Failed, live_of, any_listed, with_fields, gone, with_enabled, has_job, runs_on, asked_once, cell_in, tally_args, with_tally, tally_written, is_member, is_unended_member, endings, first_fault, opened, is_in, is_shut_in, mutex_delete_refusals, mutex_look_refusals, mutex_busy, locked_by, mutex_unlock_refusals, unlocked, sem_delete_refusals, sem_busy, sem_taken, sem_unlock_refusals, sem_given, rwl_delete_refusals, rwl_look_refusals, rwl_busy, rwl_taken, rwl_unlock_refusals, rwl_given, shmem_delete_refusals, attach_refusals, detach_refusals, with_attached, cell_refusals, with_cell, Closing, Op, Reply, Ok, Number, State, is_stop, Groups, Queues, Mutexes, Sems, Rwls, Segments, frees_members, gives, keyed_queues, keyed_mutexes, keyed_sems, keyed_rwls, keyed_segments, verdict, task_end, row, answered_kind, Renaming, Room, renamed, FitsState, renamed_op, renamed_reply, made_kind}
use Rattle.std.specs.Prelude.{◌+◌}
use Rattle.mtapi_values.specs.declared.handles.ObjectKind.TheVariants as kind
use Rattle.mtapi_values.specs.declared.statuses.MtapiStatus.TheVariants as m
use Rattle.mtapi_machine.specs.declared.ops.Op.TheVariants as op
use Rattle.mtapi_renaming.proofs.Tasks.{same_member, same_unended_member, same_in, endings-renamed, fault-renamed}
use Rattle.mtapi_renaming.proofs.Moves.{one_move, then_moves, phase-renames, released-renames, stops-renames, enables-renames, withdraws-renames, ends_task-renames, notes-renames, ends_waiting-renames, frees_members-renames, lets_members_go-renames, alters-renames, removes-renames}
use Rattle.mtapi_renaming.proofs.Rows.{Alike, unless_alike, gives_alike, says_alike, not_yet_alike, cond_alike, mrapi_alike, on_action, on_task, on_sort, chosen_sort, alters_alike, looks_alike, deletes_alike, gets_alike}
use Rattle.mtapi_renaming.proofs.TaskRows.{is_some-map, verdict_plain, action-any, task-any, same_shut, looks_at_alike, cancels_alike, gives_first_alike, disables_alike}
use Rattle.mtapi_renaming.proofs.WorkRows.{asked_same, asked_keeps, same_stop, picks_alike, on_tally_alike, locks_alike, gives_back_alike}

module _ {g : Renaming} {s : State} (n : FitsState g s) (x : Room) where
  pub row_alike : (who : ℕ) (o : Op) (r : Reply) → made_kind o ≡ None
      → Alike g x s (answered_kind o) r (row s who o r) (row (renamed g x s) who (renamed_op g o) (renamed_reply g o r))
  row_alike who op.Initialize r i = unless_alike n refl refl (gives_alike n refl (one_move (phase-renames g x s n _)))
  row_alike who op.Release r i = unless_alike n refl refl (gives_alike n refl (one_move (released-renames g x s n)))
  row_alike who op.Enter r i = unless_alike n refl refl (unless_alike n refl refl (says_alike n refl))
  row_alike who op.Close r i =
      unless_alike n refl refl (gives_alike n refl
      (then_moves (phase-renames g x s n Closing)
      (λ f. one_move (ends_waiting-renames g x _ f (is_shut_in (renamed g x s).queues) (is_shut_in s.queues) (same_shut n x) Cancelled))))
  row_alike who op.Final r i = unless_alike n refl refl (unless_alike n refl refl (gives_alike n refl (one_move (phase-renames g x s n _))))
  row_alike who (op.JobGet job) r i = unless_alike n refl refl (unless_alike n (ap not (action-any n x (has_job job))) refl (says_alike n refl))
  row_alike who (op.ActionDelete a) r i =
      unless_alike n refl refl (on_action n a.0 _ _
      (λ y. gives_alike n refl (one_move (withdraws-renames g x s n a.0 gone (λ z. refl) (λ z. refl) m.ErrActionDeleted))))
  row_alike who (op.ActionDisable a) r i =
      unless_alike n refl refl (on_action n a.0 _ _
      (λ y. gives_alike n refl (one_move (withdraws-renames g x s n a.0 (with_fields (with_enabled false)) (λ z. refl) (λ z. refl) m.ErrActionDisabled))))
  row_alike who (op.ActionEnable a) r i = unless_alike n refl refl (on_action n a.0 _ _ (λ y. gives_alike n refl (one_move (enables-renames g x s n a.0))))
  row_alike who (op.TaskLook t last) r i =
      unless_alike n refl refl (on_task n t.0 _ _
      (λ y v. unless_alike n (ap (λ (b : Bool). y.notes.detached || b) (is_some-map (g kind.Group) y.notes.group)) refl
      (unless_alike n refl refl (looks_at_alike n who t.0 last y.state))))
  row_alike who (op.TaskCancel t) r i = unless_alike n refl refl (on_task n t.0 _ _ (λ y v. cancels_alike n t.0 y.state))
  row_alike who (op.GroupDelete h) r i =
      unless_alike n refl refl (on_sort n Groups h.0 _ _
      (λ y. gives_alike n refl (then_moves (lets_members_go-renames g x s n h.0) (λ f. one_move (removes-renames g x _ f Groups h.0)))))
  row_alike who (op.AllLook h last) r i =
      unless_alike n refl refl (on_sort n Groups h.0 _ _
      (λ y. cond_alike n (any_listed (is_unended_member h.0) s.tasks) (any_listed (is_unended_member (g kind.Group h.0)) (renamed g x s).tasks)
      (task-any n x (is_unended_member (g kind.Group h.0)) (is_unended_member h.0) (same_unended_member g n.one h.0)) (not_yet_alike n last _ refl)
      (subst (λ (c : _). Alike g x s None r (gives (verdict (first_fault (endings h.0 (live_of s.tasks)))) (frees_members h.0 ∷ []))
      (gives (verdict c) (frees_members (g kind.Group h.0) ∷ [])))
      (sym (ap first_fault (endings-renamed g n.one h.0 s.tasks n.tasks) ∙ fault-renamed g (endings h.0 (live_of s.tasks))))
      (gives_alike n (verdict_plain (first_fault (endings h.0 (live_of s.tasks)))) (one_move (frees_members-renames g x s n h.0))))))
  row_alike who (op.AnyLook h last) r i =
      unless_alike n refl refl (on_sort n Groups h.0 _ _
      (λ y. unless_alike n (ap not (task-any n x (is_member (g kind.Group h.0)) (is_member h.0) (same_member g n.one h.0))) refl
      (gives_first_alike n last (endings h.0 (live_of s.tasks)) (endings (g kind.Group h.0) (live_of (renamed g x s).tasks))
      (endings-renamed g n.one h.0 s.tasks n.tasks))))
  row_alike who (op.QueueGet id) r i = unless_alike n refl refl (gets_alike n keyed_queues id r refl)
  row_alike who (op.QueueEnable q) r i = unless_alike n refl refl
      (on_sort n Queues q.0 _ _ (λ y. gives_alike n refl (one_move (alters-renames g x s n Queues q.0 (opened true)))))
  row_alike who (op.QueueDisable q) r i = unless_alike n refl refl (on_sort n Queues q.0 _ _ (λ y. disables_alike n q.0 y.retain))
  row_alike who (op.QueueDelete q) r i =
      unless_alike n refl refl (on_sort n Queues q.0 _ _
      (λ y. gives_alike n refl (then_moves (ends_waiting-renames g x s n (is_in (g kind.Queue q.0)) (is_in q.0) (same_in g n.one q.0)
      (Failed m.ErrQueueDeleted)) (λ f. one_move (removes-renames g x _ f Queues q.0)))))
  row_alike who op.Pick r i =
      unless_alike n refl refl (unless_alike n (task-any n x (runs_on who) (runs_on who) (λ t v. refl)) refl
      (unless_alike n refl refl (cond_alike n (is_stop s) (is_stop (renamed g x s)) (same_stop n x)
      (gives_alike n refl (one_move (stops-renames g x s n who))) (picks_alike n x who r))))
  row_alike who (op.Finish t done) r i = unless_alike n refl refl
      (on_task n t.0 _ _ (λ y v. unless_alike n refl refl (gives_alike n refl (one_move (ends_task-renames g x s n t.0 (task_end done.end))))))
  row_alike who (op.Asked t) r i = unless_alike n refl refl
      (on_task n t.0 _ _ (λ y v. unless_alike n refl refl
      (unless_alike n refl refl (gives_alike n refl (one_move (notes-renames g x s n t.0 asked_once asked_once (asked_same g) (asked_keeps g)))))))
  row_alike who (op.WatchEnd t) r i = unless_alike n refl refl
      (on_task n t.0 _ _ (λ y v. unless_alike n refl refl (unless_alike n refl refl (gives_alike n refl (one_move (ends_task-renames g x s n t.0 _))))))
  row_alike who (op.TallyLock t) r i = on_tally_alike n who t.0 _ _ (λ y v. unless_alike n refl refl (locks_alike n who t.0 y.args (tally_args y.args)))
  row_alike who (op.TallyRead t) r i =
      on_tally_alike n who t.0 _ _ (λ y v. unless_alike n refl refl
      (chosen_sort n Segments y.notes.tally.segment _ _
      (λ z. gives_alike n refl (one_move (notes-renames g x s n t.0 _ _ (λ u. refl)
      (λ u w. record { group = w.group; tally = record { mutex = w.tally.mutex; segment = w.tally.segment } }))))))
  row_alike who (op.TallyWrite t value) r i =
      on_tally_alike n who t.0 _ _ (λ y v. unless_alike n refl refl (chosen_sort n Segments y.notes.tally.segment _ _ (λ z. gives_alike n refl
      (then_moves (alters-renames g x s n Segments y.notes.tally.segment (with_cell (cell_in (tally_args y.args)) value))
      (λ f. one_move (notes-renames g x _ f t.0 (with_tally tally_written) (with_tally tally_written) (λ u. refl)
      (λ u w. record { group = w.group; tally = record { mutex = w.tally.mutex; segment = w.tally.segment } })))))))
  row_alike who (op.TallyEnd t) r i =
      on_tally_alike n who t.0 _ _ (λ y v. unless_alike n refl refl
      (cond_alike n (y.notes.tally.stage == 4) (y.notes.tally.stage == 4) refl
      (gives_alike n refl (one_move (ends_task-renames g x s n t.0 y.notes.tally.verdict))) (gives_back_alike n who t.0 y _)))
  row_alike who (op.MutexGet id) r i = unless_alike n refl refl (unless_alike n refl refl (gets_alike n keyed_mutexes id r refl))
  row_alike who (op.MutexDelete h) r i = unless_alike n refl refl (unless_alike n refl refl (deletes_alike n Mutexes h.0 mutex_delete_refusals))
  row_alike who (op.MutexLook h last) r i =
      unless_alike n refl refl (unless_alike n refl refl
      (looks_alike n Mutexes h.0 last (mutex_look_refusals who) (mutex_busy who) (λ y. Number (pos (y.depth + 1))) (locked_by who) (λ y. refl)))
  row_alike who (op.MutexUnlock h key) r i =
      unless_alike n refl refl (unless_alike n refl refl (alters_alike n Mutexes h.0 (mutex_unlock_refusals who key) (λ y. Ok) unlocked (λ y. refl)))
  row_alike who (op.SemGet id) r i = unless_alike n refl refl (unless_alike n refl refl (gets_alike n keyed_sems id r refl))
  row_alike who (op.SemDelete h) r i = unless_alike n refl refl (unless_alike n refl refl (deletes_alike n Sems h.0 sem_delete_refusals))
  row_alike who (op.SemLook h last) r i =
      unless_alike n refl refl (unless_alike n refl refl (looks_alike n Sems h.0 last (λ y. []) sem_busy (λ y. Ok) (sem_taken who) (λ y. refl)))
  row_alike who (op.SemUnlock h) r i = unless_alike n refl refl
      (unless_alike n refl refl (alters_alike n Sems h.0 (sem_unlock_refusals who) (λ y. Ok) (sem_given who) (λ y. refl)))
  row_alike who (op.RwlGet id) r i = unless_alike n refl refl (unless_alike n refl refl (gets_alike n keyed_rwls id r refl))
  row_alike who (op.RwlDelete h) r i = unless_alike n refl refl (unless_alike n refl refl (deletes_alike n Rwls h.0 rwl_delete_refusals))
  row_alike who (op.RwlLook h writer last) r i =
      unless_alike n refl refl (unless_alike n refl refl
      (looks_alike n Rwls h.0 last (rwl_look_refusals who) (rwl_busy writer) (λ y. Ok) (rwl_taken who writer) (λ y. refl)))
  row_alike who (op.RwlUnlock h writer) r i =
      unless_alike n refl refl (unless_alike n refl refl
      (alters_alike n Rwls h.0 (rwl_unlock_refusals who writer) (λ y. Ok) (rwl_given who writer) (λ y. refl)))
  row_alike who (op.ShmemGet id) r i = unless_alike n refl refl (unless_alike n refl refl (gets_alike n keyed_segments id r refl))
  row_alike who (op.ShmemDelete h) r i = unless_alike n refl refl (unless_alike n refl refl (deletes_alike n Segments h.0 shmem_delete_refusals))
  row_alike who (op.ShmemAttach h) r i = unless_alike n refl refl
      (unless_alike n refl refl (alters_alike n Segments h.0 (attach_refusals who) (λ y. Ok) (with_attached who true) (λ y. refl)))
  row_alike who (op.ShmemDetach h) r i = unless_alike n refl refl
      (unless_alike n refl refl (alters_alike n Segments h.0 (detach_refusals who) (λ y. Ok) (with_attached who false) (λ y. refl)))
  row_alike who (op.ShmemRead h cell) r i =
      unless_alike n refl refl (unless_alike n refl refl (on_sort n Segments h.0 _ _ (λ y. mrapi_alike n (cell_refusals who cell y) (says_alike n refl))))
  row_alike who (op.ShmemWrite h cell value) r i =
      unless_alike n refl refl (unless_alike n refl refl (alters_alike n Segments h.0 (cell_refusals who cell) (λ y. Ok) (with_cell cell value) (λ y. refl)))
  row_alike who o r i = absurd (cc)
