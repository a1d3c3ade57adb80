-- In a quiet history a task ends as the kind of an action of its job answers.
use Rattle.history_law.proofs.Names.{nat_tests, arith, ◌≡◌, ℕ, Bool, true, false, List, [], ◌∷◌, Some, refl, ◌∙◌, ap, int_eq, pointwise, eqb-true, Decides-int_eq, slice_eq-Decides, Kind, TaskEnd, Cancelled, is_pure, answer_of, Answered, IsAnswered, Listed, live_object, issue, change, with_fields, gone, Action, with_enabled, is_eligible, Task, TaskState, Scheduled, Running, Ended, runs_as, kind_number, Queue, is_shut_in, Op, Reply, Terms, State, opening, workers, Move, Queues, makes_action, enables, withdraws, runs_task, ends_task, ends_waiting, makes, alters, removes, apply, after_moves, task_end, NodeEntry, IsNext, IsHonest, next, LegalFrom, after_from, IsMade, MakesAction, WithdrawsAction, EndsTask, AltersObject, is_pick, ends_many, makes_of_sort, end_in, some_same, snd_true, by_moves, is_quiet, AreQuiet, HasPure, task_at, IsPlainEnd, QuietTasksEndPlainly, ℤ, Answers, not, not_false}
use Rattle.mtapi_values.specs.declared.kinds.Kind.TheVariants as kind
use Rattle.mtapi_machine.specs.declared.ops.Op.TheVariants as op
use Rattle.history_law.proofs.Answered.{true_false, whether}
use Rattle.history_law.proofs.SeatMoves.{answer}
use Rattle.mtapi_machine.specs.Answers as is
use Rattle.history_law.proofs.lists.Every.{Every, every_issue, every_change, every_map, every_at, always}
use Rattle.history_law.proofs.TaskSteps as step
use Rattle.history_law.proofs.TaskSteps.{Step, tasks_go, every_steps}
use Rattle.history_law.proofs.lists.Found.{found_changed, found_issued}
use Rattle.history_law.proofs.lists.KindNumbers.{same_kind}

-- What such a history keeps

-- how far a task of this job and with these arguments is: it runs with the kind of an action of its job, or has ended as one answers
abbrev pub GoesIn : List (Listed Action) → ℕ → List ℤ → TaskState → Type 0
GoesIn actions job args Scheduled = Unit {0}
GoesIn actions job args (Running w k) = HasPure actions job k
GoesIn actions job args (Ended e n) = IsPlainEnd actions job args e

abbrev pub Goes : List (Listed Action) → Task → Type 0
Goes actions t = GoesIn actions t.job t.args t.state

abbrev IsPure : Action → Type 0
IsPure a = is_pure a.kind ≡ true

abbrev IsOn : Queue → Type 0
IsOn q = q.enabled ≡ true

-- each action is of a pure kind, each queue is enabled, and each task goes so
pub record Calm (actions : List (Listed Action)) (queues : List (Listed Queue)) (tasks : List (Listed Task)) : Type 0 where
  pub pure : Every IsPure actions
  pub on : Every IsOn queues
  pub goes : Every (Goes actions) tasks

abbrev pub IsCalm : State → Type 0
IsCalm s = Calm s.actions s.queues s.tasks

-- Further actions, and actions that change nothing but whether they are enabled

pure_more : (h : ℕ) (a : Action) (l : List (Listed Action)) (job : ℕ) (k : Kind) → HasPure l job k → HasPure (issue h a l) job k
pure_more h a l job k p =
    let x = found_issued (λ y. y ≡ p.action) h p.handle a l p.action p.found refl in
    record {
      handle = p.handle;
      action = x.0;
      found = x.1;
      of_job = ap (λ (y : Action). y.job) x.2 ∙ p.of_job;
      of_kind = ap (λ (y : Action). y.kind) x.2 ∙ p.of_kind;
      pure = p.pure;
    }

pure_enabled : (h : ℕ) (l : List (Listed Action)) (job : ℕ) (k : Kind) → HasPure l job k → HasPure (change h (with_fields (with_enabled true)) l) job k
pure_enabled h l job k p =
    let x = found_changed (λ y. (y.job ≡ job) × (y.kind ≡ k)) h p.handle (with_fields (with_enabled true)) (λ r. refl) l p.action p.found (p.of_job, p.of_kind)
    (λ r i a e. (a, (ap (λ (y : Action). y.job) e ∙ p.of_job, ap (λ (y : Action). y.kind) e ∙ p.of_kind))) in
    record { handle = p.handle; action = x.0; found = x.1; of_job = x.2.0; of_kind = x.2.1; pure = p.pure }

goes_in : (l m : List (Listed Action)) (job : ℕ) (args : List ℤ) → ((k : Kind) → HasPure l job k → HasPure m job k) → (x : TaskState) → GoesIn l job args x
    → GoesIn m job args x
goes_in l m job args e1 x e2 = grind (arith, nat_tests)

goes_all : (l m : List (Listed Action)) (tasks : List (Listed Task)) → ((job : ℕ) (k : Kind) → HasPure l job k → HasPure m job k) → Every (Goes l) tasks
    → Every (Goes m) tasks
goes_all l m tasks f g = every_map (Goes l) (λ t. Unit {0}) (Goes m) tasks (λ t x u. goes_in l m t.job t.args (f t.job) t.state x) g (always tasks)

-- The moves of an op that neither takes nor ends tasks by itself, and makes no queue

abbrev is_special : Op → Bool
is_special op.Pick = true
is_special (op.Finish t done) = true
is_special (op.WatchEnd t) = true
is_special (op.TallyEnd t) = true
is_special op.Close = true
is_special (op.QueueCreate id job priority limit ordered retain) = true
is_special _ = false

made_pure : (a : Action) (o : Op) → is_quiet o ≡ true → MakesAction a o → is_pure a.kind ≡ true
made_pure a o e1 e2 = grind (arith, nat_tests)

pub none_withdrawn : (h : ℕ) (f : Listed Action → Listed Action) (o : Op) → is_quiet o ≡ true → WithdrawsAction h f o → ⊥
none_withdrawn h f o e1 e2 = grind (arith, nat_tests)

pick_special : (o : Op) → is_pick o ≡ true → is_special o ≡ true
pick_special o e1 = grind (arith, nat_tests)

end_special : (h : ℕ) (o : Op) → is_quiet o ≡ true → EndsTask h o → is_special o ≡ true
end_special h o e1 e2 = grind (arith, nat_tests)

many_special : (o : Op) → is_quiet o ≡ true → ends_many o ≡ true → is_special o ≡ true
many_special o e1 e2 = grind (arith, nat_tests)

queue_special : (o : Op) → makes_of_sort Queues o ≡ true → is_special o ≡ true
queue_special o e1 = grind (arith, nat_tests)

queue_opened : (h : ℕ) (f : Queue → Queue) (o : Op) → is_quiet o ≡ true → AltersObject Queues h f o → (x : Queue) → (f x).enabled ≡ true
queue_opened h f o e1 e2 x = grind (arith, nat_tests)

step_goes : (o : Op) → is_quiet o ≡ true → is_special o ≡ false → (s : State) (r : Listed Task) (m : Move) (z : Listed Task) → Step s r m z → IsMade s o m
    → Goes s.actions r.fields → Goes s.actions z.fields
step_goes o q n s r _ _ (step.runs h w k a i f) e g = true_false (pick_special o e.by) n
step_goes o q n s r _ _ (step.ends h x a i f) e g = true_false (end_special h o q e.by) n
step_goes o q n s r _ _ (step.waited p x k a u l) e g = true_false (many_special o q e.by) n
step_goes o q n s r _ _ (step.left h f c k a u l) e g = absurd (none_withdrawn h f o q e.by)
step_goes o q n s r _ _ _ e g = g

calm_move : (o : Op) → is_quiet o ≡ true → is_special o ≡ false → (s : State) (m : Move) → IsMade s o m → IsCalm s → IsCalm (apply m s)
calm_move o q n s (makes_action h a) e v = grind (arith, nat_tests, every_issue, made_pure, goes_all, pure_more)
calm_move o q n s (enables h) e v = grind (arith, nat_tests, every_change, with_fields, with_enabled, goes_all, pure_enabled)
calm_move o q n s (withdraws h f c) e v = absurd (none_withdrawn h f o q e.by)
calm_move o q n s (makes Queues h x) e v = true_false (queue_special o e.by) n
calm_move o q n s (alters Queues h f) e v = grind (arith, nat_tests, every_change IsOn h (with_fields f) s.queues, queue_opened h f o q e.by, with_fields)
calm_move o q n s (removes Queues h) e v = record { pure = v.pure; on = every_change IsOn h gone s.queues (λ r d p. p) v.on; goes = v.goes }
calm_move o q n s m e v = grind (arith, nat_tests, every_steps (Goes s.actions) s m s.tasks, step_goes o q n s, tasks_go s m)

-- The other ops, by their answers

-- a task that is taken
takes : (s : State) (w t a : ℕ) (x : Task) (y : Action) → IsCalm s → live_object s.tasks t ≡ Some x → live_object s.actions a ≡ Some y
    → is_eligible (workers s) w x.job x.cores y ≡ true → IsCalm (apply (runs_task t w y.kind) s)
takes s w t a x y v e d m =
    grind (arith, nat_tests, every_change (Goes s.actions) t, eqb-true y.job x.job, every_at IsPure s.actions a y v.pure d, some_same)

-- a task that runs as this kind has the kind of an action of its job
running : (actions : List (Listed Action)) (w : ℕ) (k : Kind) (t : Task) → Goes actions t → runs_as w k t ≡ true → HasPure actions t.job k
running actions w k t g e = grind (arith, nat_tests, kind_number, true_false, same_kind, eqb-true, snd_true)

-- a task that ends as such a kind answers
ends : (s : State) (t : ℕ) (x : Task) (d : Answered) → IsCalm s → live_object s.tasks t ≡ Some x → HasPure s.actions x.job d.kind → x.args ≡ d.args
    → IsAnswered d → IsCalm (apply (ends_task t (task_end d.end)) s)
ends s t x d v e p same i = grind (arith, nat_tests, every_change, task_end, some_same, answer_of)

same_args : (xs ys : List ℤ) → pointwise int_eq xs ys ≡ true → xs ≡ ys
same_args xs ys e = (slice_eq-Decides Decides-int_eq xs ys (pointwise int_eq xs ys) refl).0 e

-- no task runs as another kind
pub none_impure : (s : State) (who t : ℕ) (k : Kind) (x : Task) → IsCalm s → is_pure k ≡ false → live_object s.tasks t ≡ Some x → not (runs_as who k x) ≡ false
    → ⊥
none_impure s who t k x v n e m = true_false (running s.actions who k x (every_at (Goes s.actions) s.tasks t x v.goes e) (not_false _ m)).pure n

none_shut : (queues : List (Listed Queue)) (t : Task) → Every IsOn queues → is_shut_in queues t ≡ false
none_shut queues t e1 = grind (arith, nat_tests, live_object, every_at)

abbrev closing : State → Move
closing s = ends_waiting (is_shut_in s.queues) Cancelled

on_close : (s : State) → IsCalm s → IsCalm (apply (closing s) s)
on_close s v = grind (arith, nat_tests, every_steps (Goes s.actions) s (closing s) s.tasks, tasks_go s (closing s), none_shut s.queues)

by_answer : (s : State) (who : ℕ) (o : Op) (r : Reply) (ms : List Move) → IsHonest o → IsCalm s → is_special o ≡ true → Answers s who o r ms
    → IsCalm (after_moves ms s)
by_answer s who _ _ _ i v n (is.refuses o x e) = v
by_answer s who _ _ _ i v n (is.refuses_caller o x e) = v
by_answer s who _ _ _ i v n (is.closes_node a) = on_close s v
by_answer s who _ _ _ i v n (is.creates_queue id job priority limit ordered retain h a f) = grind (arith, nat_tests, every_issue IsOn)
by_answer s who _ _ _ i v n (is.idles_in_new a) = v
by_answer s who _ _ _ i v n (is.idles a) = v
by_answer s who _ _ _ i v n (is.stops_worker a b c) = v
by_answer s who _ _ _ i v n (is.picks t a x y b c e d j k l) = takes s who t.0 a.0 x y v e d k
by_answer s who _ _ _ i v n (is.finishes t d x k u) = grind (arith, nat_tests, ends, running, every_at, same_args, snd_true)
by_answer s who _ _ _ i v n (is.ends_watch t x k u) = absurd (none_impure s who t.0 kind.Watch x v refl k.found (ap not k.runs))
by_answer s who _ _ _ i v n (is.tally_ends_failed t x k f) = absurd (none_impure s who t.0 kind.Tally x v refl k.found (ap not k.runs))
by_answer s who _ _ _ i v n (is.tally_ends t x y z k f d a b) = absurd (none_impure s who t.0 kind.Tally x v refl k.found (ap not k.runs))
by_answer s who _ _ _ i v n _ = true_false n refl

pub calm_next : (s : State) (e : NodeEntry) → IsNext s e → is_quiet e.op ≡ true → IsCalm s → IsCalm (next s e)
calm_next s e i q v = whether (is_special e.op) (λ n. by_answer s e.who e.op e.reply _ i.honest v n (answer s e i))
    (λ n. by_moves IsCalm s e (λ t m a c. calm_move e.op q n t m a c) v)

pub calm_along : (s : State) (L : List NodeEntry) → LegalFrom s L → AreQuiet L → IsCalm s → IsCalm (after_from s L)
unfolding LegalFrom after_from
calm_along s [] l q v = v
calm_along s (e ∷ es) l q v = calm_along (next s e) es l.1 q.1 (calm_next s e l.0 q.0 v)

pub calm_opening : (terms : Terms) → IsCalm (opening terms)
calm_opening terms = record { pure = tt; on = tt; goes = tt }

-- The record of a task by its handle

every_task : (P : Task → Type 0) (l : List (Listed Task)) (h : ℕ) (t : Task) → Every P l → task_at l h ≡ Some t → P t
unfolding task_at
every_task P [] h t v e = absurd (cc)
every_task P (r ∷ rs) h t v e = grind (arith, nat_tests, every_task P rs h t v.1, task_at, some_same)

plain_end : (actions : List (Listed Action)) (job : ℕ) (args : List ℤ) (x : TaskState) (e : TaskEnd) → GoesIn actions job args x → end_in x ≡ Some e
    → IsPlainEnd actions job args e
plain_end actions job args x e e1 e2 = grind (arith, nat_tests)

pub quiet_tasks_end_plainly : QuietTasksEndPlainly
quiet_tasks_end_plainly = grind (arith, nat_tests, after_from, calm_along, calm_opening, plain_end, every_task)
