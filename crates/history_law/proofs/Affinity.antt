-- Who picks a task is in the mask of the task, and in that of the action.
use Rattle.history_law.proofs.Names.{nat_tests, arith, ◌≡◌, ℕ, true, List, ◌∷◌, ◌++◌, Some, ◌∙◌, ap, subst, is_some, ℤ, Kind, TaskHandle, ActionHandle, in_mask, entry, Terms, Op, Picked, live_object, Action, new_action, is_eligible, Task, NewTask, new_task, State, opening, workers, Move, is_ready, NodeEntry, next, LegalFrom, Legal, after_from, after, StartsTask, Legal-front, issues, task_mask, action_mask, ObeysMasks, some_same, Answers}
use Rattle.mtapi_values.specs.declared.handles.ObjectKind.TheVariants as kind
use Rattle.mtapi_machine.specs.declared.ops.Op.TheVariants as op
use Rattle.mtapi_machine.specs.Answers as is
use Rattle.history_law.proofs.Ages.{SameTask, SameAction, under_at, live_listed}
use Rattle.history_law.proofs.lists.Objects.{MadeAs, started_as, made_as, task_then, action_then, cut_from, has_behind}
use Rattle.history_law.proofs.Reuse.{was_issued}

-- What a pick had to find

pub record Took (s : State) (w t a : ℕ) : Type 0 where
  pub task : Task
  pub action : Action
  pub task_found : live_object s.tasks t ≡ Some task
  pub action_found : live_object s.actions a ≡ Some action
  pub ready : is_ready s task ≡ true
  pub eligible : is_eligible (workers s) w task.job task.cores action ≡ true

pub took : (s : State) (w : ℕ) (o : Op) (t : TaskHandle) (a : ActionHandle) (k : Kind) (args : List ℤ) (ms : List Move) → Answers s w o (Picked t a k args) ms
    → Took s w t.0 a.0
took s w _ _ _ _ _ _ (is.picks t a x y b n e d j l p) = record { task = x; action = y; task_found = e; action_found = d; ready = j; eligible = l }

-- the worker is in both masks of the records
in_masks : (s : State) (w t a : ℕ) (x : Took s w t a) → (in_mask w x.task.cores ≡ true) × (in_mask w x.action.cores ≡ true)
in_masks s w t a x = grind (arith, nat_tests)

-- the mask of the entry is that of the task that it asks for
asked_mask : (n : NewTask) (o : Op) (mask : ℕ) → StartsTask n o → task_mask o ≡ Some mask → n.cores ≡ mask
asked_mask n o mask e1 e2 = grind (arith, nat_tests)

made_mask : (o : Op) (h mask : ℕ) (s : State) (a : Action) → MadeAs o h s → action_mask o ≡ Some mask → live_object s.actions h ≡ Some a → a.cores ≡ mask
made_mask o h mask s a e1 e2 e3 = grind (arith, nat_tests, under_at, some_same)

made_behind : (o : Op) (h : ℕ) (s : State) (A B : List NodeEntry) (e : NodeEntry) → MadeAs o h (next (after_from s A) e)
    → MadeAs o h (after_from s (A ++ e ∷ B))
made_behind (op.ActionCreate job k cores) h s A B e v =
    has_behind kind.Action h (SameAction (new_action job k cores.0)) (action_then (new_action job k cores.0)) s A B e v
made_behind _ h s A B e v = absurd v

pub obeys_masks : (terms : Terms) (es : List NodeEntry) (place : ℕ) → Legal terms es → ObeysMasks es place
obeys_masks terms es place legal P R w t a k args cut at_place = record {
  started = was_issued kind.Task t.0 terms P legal_front (live_listed t.0 (after terms P).tasks (ap is_some found.task_found));
  made = was_issued kind.Action a.0 terms P legal_front (live_listed a.0 (after terms P).actions (ap is_some found.action_found));
  task = λ A B e m c i q. task A B e m c i q;
  action = λ A B e m c i q. action A B e m c i q;
}
  where
    whole : LegalFrom (opening terms) (P ++ entry w op.Pick (Picked t a k args) ∷ R)
    whole = subst (λ (L : List NodeEntry). LegalFrom (opening terms) L) cut legal.from

    legal_front : LegalFrom (opening terms) P
    legal_front = Legal-front (opening terms) P _ whole

    found : Took (after terms P) w t.0 a.0
    found = grind (arith, nat_tests, took, cut_from, whole)

    prefix : (A B : List NodeEntry) (e : NodeEntry) → P ≡ A ++ e ∷ B → LegalFrom (opening terms) (A ++ e ∷ B)
    prefix A B e c = subst (λ (L : List NodeEntry). LegalFrom (opening terms) L) c (Legal-front (opening terms) P _ whole)

    task : (A B : List NodeEntry) (e : NodeEntry) (m : ℕ) → P ≡ A ++ e ∷ B → issues kind.Task t.0 e ≡ true → task_mask e.op ≡ Some m → in_mask w m ≡ true
    task A B e m c i q =
        let s = started_as (after terms A) e t.0 (cut_from (opening terms) A B e (prefix A B e c)) i in
        let v = has_behind kind.Task t.0 (SameTask (new_task s.0 (after terms A).starts)) (task_then (new_task s.0 (after terms A).starts))
        (opening terms) A B e s.2 in
        let there : live_object (after terms (A ++ e ∷ B)).tasks t.0 ≡ Some found.task =
        subst (λ (L : List NodeEntry). live_object (after terms L).tasks t.0 ≡ Some found.task) c found.task_found in
        let same : found.task.cores ≡ m = (under_at t.0 _ _ found.task v.under there).cores ∙ asked_mask s.0 e.op m s.1 q in
        subst (λ (n : ℕ). in_mask w n ≡ true) same (in_masks (after terms P) w t.0 a.0 found).0

    action : (A B : List NodeEntry) (e : NodeEntry) (m : ℕ) → P ≡ A ++ e ∷ B → issues kind.Action a.0 e ≡ true → action_mask e.op ≡ Some m → in_mask w m ≡ true
    action A B e m c i q =
        let v = made_behind e.op a.0 (opening terms) A B e (made_as (after terms A) e a.0 (cut_from (opening terms) A B e (prefix A B e c)) i) in
        let there : live_object (after terms (A ++ e ∷ B)).actions a.0 ≡ Some found.action =
        subst (λ (L : List NodeEntry). live_object (after terms L).actions a.0 ≡ Some found.action) c found.action_found in
        let same : found.action.cores ≡ m = made_mask e.op a.0 m _ found.action v q there in
        subst (λ (n : ℕ). in_mask w n ≡ true) same (in_masks (after terms P) w t.0 a.0 found).1
