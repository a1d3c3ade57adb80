-- What is no cause of an end: what each cause needs, and that it isn't so.
use Rattle.history_law.proofs.Names.{◌≡◌, ℕ, true, false, List, [], ◌∷◌, ◌++◌, ◌==◌, ◌⊎◌, inl, inr, refl, arith, pos, ℤ, TaskEnd, Completed, Cancelled, live_of, change, has_worker, gone, with_fields, Op, Task, NodeEntry, State, worked_first_handle, next_handle, nat_tests}
use Rattle.mtapi_values.specs.declared.statuses.MtapiStatus.{MtapiStatus}
use Rattle.mtapi_values.specs.declared.statuses.MtapiStatus.TheVariants as status
use Rattle.mtapi_values.specs.declared.ends.TaskEnd.TheVariants.{Failed}
use Rattle.action_fn.specs.Answers.{fits}
use Rattle.mtapi_objects.specs.Actions.{with_enabled}
use Rattle.mtapi_objects.specs.Queues.{is_in, is_shut_in}
use Rattle.mtapi_objects.specs.Tasks.{is_unstarted, watch_end, added}
use Rattle.mtapi_machine.specs.declared.ops.Op.TheVariants as op
use Rattle.mtapi_machine.specs.WorkRows.{task_end}
use Rattle.history_law.specs.Causes.{IsLeft, Cause, by_cancel, by_disabled_queue, by_close, by_deleted_queue, by_deleted_action, by_disabled_action, by_answer, by_watch, by_failed_tally, by_sum, by_tally}
use Rattle.history_law.specs.RefusedCauses.{may_end, unbegun, tally_at, with_queue, two_actions, CausesRefuse}
use Rattle.history_law.proofs.Refused.{true_false}
use Rattle.history_law.proofs.Worked.{computed}

-- what a cause of this op needs
abbrev NeedsOfTally : Task → TaskEnd → Type 0
NeedsOfTally t e =
    (((t.notes.tally.stage == 4) ≡ true) × (e ≡ t.notes.tally.verdict))
    ⊎ ((((t.notes.tally.stage == 2) ≡ true) × (fits (added t) ≡ false)) ⊎ (((t.notes.tally.stage == 2) ≡ false) × (e ≡ Completed (added t ∷ []))))

abbrev Needs : State → ℕ → Task → Op → TaskEnd → Type 0
Needs s h t (op.TaskCancel x) e = (x.0 ≡ h) × (is_unstarted t ≡ true) × (e ≡ Cancelled)
Needs s h t (op.QueueDisable q) e = (is_in q.0 t ≡ true) × (is_unstarted t ≡ true) × (e ≡ Cancelled)
Needs s h t op.Close e = (is_shut_in s.queues t ≡ true) × (is_unstarted t ≡ true) × (e ≡ Cancelled)
Needs s h t (op.QueueDelete q) e = (is_in q.0 t ≡ true) × (is_unstarted t ≡ true) × (e ≡ Failed status.ErrQueueDeleted)
Needs s h t (op.ActionDelete a) e = IsLeft s t (change a.0 gone s.actions) × (e ≡ Failed status.ErrActionDeleted)
Needs s h t (op.ActionDisable a) e = IsLeft s t (change a.0 (with_fields (with_enabled false)) s.actions) × (e ≡ Failed status.ErrActionDisabled)
Needs s h t (op.Finish x done) e = (x.0 ≡ h) × (e ≡ task_end done.end)
Needs s h t (op.WatchEnd x) e = (x.0 ≡ h) × (e ≡ watch_end t)
Needs s h t (op.TallyEnd x) e = (x.0 ≡ h) × NeedsOfTally t e
Needs s h t _ e = ⊥

needs : (s : State) (h : ℕ) (t : Task) (o : Op) (e : TaskEnd) → Cause s h t o e → Needs s h t o e
needs s h t _ _ (by_cancel x a b) = (a, b, refl)
needs s h t _ _ (by_disabled_queue q a b) = (b, a, refl)
needs s h t _ _ (by_close a b) = (b, a, refl)
needs s h t _ _ (by_deleted_queue q a b) = (b, a, refl)
needs s h t _ _ (by_deleted_action a l) = (l, refl)
needs s h t _ _ (by_disabled_action a l) = (l, refl)
needs s h t _ _ (by_answer x done e a b) = (a, b)
needs s h t _ _ (by_watch x e a b) = (a, b)
needs s h t _ _ (by_failed_tally x e a b c) = (a, inl (b, c))
needs s h t _ _ (by_sum x a b c) = (a, inr (inl (b, c)))
needs s h t _ _ (by_tally x a b) = (a, inr (inr (b, refl)))

no_other : (s : State) (h : ℕ) (t : Task) (o : Op) (e : TaskEnd) → may_end o ≡ false → Cause s h t o e → ⊥
no_other s h t o e k c = grind (arith, nat_tests)

-- ends and handles that differ
completed_cancelled : (args : List ℤ) → Completed args ≡ Cancelled → ⊥
completed_cancelled args e = cc

failed_cancelled : (c : MtapiStatus) → Failed c ≡ Cancelled → ⊥
failed_cancelled c e = cc

failed_completed : (c : MtapiStatus) (args : List ℤ) → Failed c ≡ Completed args → ⊥
failed_completed c args e = cc

disabled_deleted : Failed status.ErrActionDisabled ≡ Failed status.ErrActionDeleted → ⊥
disabled_deleted e = cc

failed_miscounted : Failed status.ErrActionFailed ≡ Failed status.ErrArgSize → ⊥
failed_miscounted e = cc

three_two : Completed (pos 3 ∷ []) ≡ Completed (pos 2 ∷ []) → ⊥
three_two e = cc

nine_eight : Completed (pos 9 ∷ []) ≡ Completed (pos 8 ∷ []) → ⊥
nine_eight e = cc

next_first : next_handle ≡ worked_first_handle → ⊥
next_first e = omega arith

false_true : false ≡ true → ⊥
false_true e = cc

cause : {s : State} {t : Task} {o : Op} {e : TaskEnd} → Cause s worked_first_handle t o e → Needs s worked_first_handle t o e
cause c = needs _ _ _ _ _ c

-- two actions serve the task: without the first one the other is left
deleted_served : has_worker 1 1 1 (live_of (change worked_first_handle gone two_actions.actions)) ≡ true
unfolding has_worker live_of change
deleted_served = refl

disabled_served : has_worker 1 1 1 (live_of (change worked_first_handle (with_fields (with_enabled false)) two_actions.actions)) ≡ true
unfolding has_worker live_of change
disabled_served = refl

shut : is_shut_in (with_queue true).queues unbegun ≡ false
unfolding live_of
shut = refl

tally_failed : NeedsOfTally (tally_at 3) (Failed status.ErrArgSize) → ⊥
tally_failed e1 = grind (arith, nat_tests, false_true, failed_completed)

tally_verdict : NeedsOfTally (tally_at 4) (Failed status.ErrActionFailed) → ⊥
tally_verdict e1 = grind (arith, nat_tests, failed_miscounted, false_true, failed_completed)

tally_fits : NeedsOfTally (tally_at 2) (Failed status.ErrActionFailed) → ⊥
unfolding fits
tally_fits e1 = grind (arith, nat_tests, false_true, true_false, failed_completed)

tally_unwritten : NeedsOfTally (tally_at 2) (Completed (pos 8 ∷ [])) → ⊥
unfolding fits
tally_unwritten e1 = grind (arith, nat_tests, false_true, true_false)

tally_sum : NeedsOfTally (tally_at 3) (Completed (pos 9 ∷ [])) → ⊥
tally_sum e1 = grind (arith, nat_tests, false_true, nine_eight)

nothing_there : (A : List NodeEntry) (e : NodeEntry) (B : List NodeEntry) → [] ≡ A ++ e ∷ B → ⊥
nothing_there [] e B k = cc
nothing_there (x ∷ A) e B k = cc

pub causes_refuse : CausesRefuse
causes_refuse = grind (
  arith,
  nat_tests,
  needs,
  no_other,
  deleted_served,
  disabled_served,
  shut,
  tally_failed,
  tally_verdict,
  tally_fits,
  tally_unwritten,
  tally_sum,
  nothing_there,
  computed,
)
