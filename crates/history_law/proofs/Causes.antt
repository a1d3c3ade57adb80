-- A task that has ended was ended by an entry that may end it.
use Rattle.history_law.proofs.Names.{arith, nat_tests, ◌≡◌, ℕ, Bool, true, false, cond, List, [], ◌∷◌, Option, Some, None, refl, sym, ◌∙◌, ap, subst, ◌==◌, ◌&&◌, ◌||◌, not, nat_lt, eqb-true, TaskEnd, Cancelled, Failed, is_shut_in, is_in, TaskHandle, Listed, live_of, live_object, change, with_fields, gone, Action, with_enabled, has_worker, Task, NewTask, scheduled, is_unstarted, added, fits, Op, Reply, State, Terms, opening, workers, Move, withdraws, starts_task, runs_task, ends_task, ends_waiting, apply, after_moves, NodeEntry, next, LegalFrom, Legal, after_from, end_in, end_at, after_grows, some_same, fst_true, snd_true, not_true, task_at, TallyEnd, Answers, tally_verdict, answered}
use Rattle.mtapi_machine.specs.Answers as is
use Rattle.history_law.specs.Causes.{IsLeft, Cause, by_cancel, by_disabled_queue, by_close, by_deleted_queue, by_deleted_action, by_disabled_action, by_answer, by_watch, by_failed_tally, by_sum, by_tally, HasEndCause, EndHasItsCause}
use Rattle.history_law.proofs.Answered.{none_some, on_test, second_false}
use Rattle.history_law.proofs.Ends.{grows_end}
use Rattle.history_law.proofs.TaskSteps as step
use Rattle.history_law.proofs.TaskSteps.{Step, Steps, tasks_go, step_handle}

-- The first record under a handle, before and after a change of the list

module _ (h : ℕ) where
  -- what has no end in the first list and this one in the second one is a task of the first list of which P holds
  abbrev pub Ends : (Task → TaskEnd → Type 0) → List (Listed Task) → List (Listed Task) → Type 0
  Ends P l m = (e : TaskEnd) → end_at l h ≡ None → end_at m h ≡ Some e → (t : Task) × (task_at l h ≡ Some t) × P t e

  abbrev Head : (Task → TaskEnd → Type 0) → Listed Task → Listed Task → Type 0
  Head P r q = (e : TaskEnd) → (r.handle == h) ≡ true → end_in r.fields.state ≡ None → end_in q.fields.state ≡ Some e → P r.fields e

  ends_head : (P : Task → TaskEnd → Type 0) (r q : Listed Task) (rs qs : List (Listed Task)) → q.handle ≡ r.handle → Head P r q → Ends P rs qs
      → Ends P (r ∷ rs) (q ∷ qs)
  unfolding end_at task_at
  ends_head P r q rs qs k g c e n i = by_hand (r.handle == h) refl n (ap (λ (m : ℕ). cond (m == h) (end_in q.fields.state) (end_at qs h)) (sym k) ∙ i)
    where
      by_hand : (b : Bool) → (r.handle == h) ≡ b → cond b (end_in r.fields.state) (end_at rs h) ≡ None → cond b (end_in q.fields.state) (end_at qs h) ≡ Some e
          → (t : Task) × (cond b (Some r.fields) (task_at rs h) ≡ Some t) × P t e
      by_hand true z n i = (r.fields, refl, g e z n i)
      by_hand false z n i = c e n i

  ends_same : (P : Task → TaskEnd → Type 0) (l m : List (Listed Task)) → end_at m h ≡ end_at l h → Ends P l m
  ends_same P l m s e n i = none_some (sym n ∙ (sym s ∙ i))

  ends_steps : (P : Task → TaskEnd → Type 0) (s : State) (m : Move) (l k : List (Listed Task)) → ((r q : Listed Task) → Step s r m q → Head P r q)
      → Steps s m l k → Ends P l k
  unfolding end_at
  ends_steps P s _ _ _ g (step.none m) = ends_same P [] [] refl
  ends_steps P s _ _ _ g (step.new j t) = grind (arith, nat_tests, on_test, task_at, none_some)
  ends_steps P s _ _ _ g (step.next m r q rs qs x k) = ends_head P r q rs qs (step_handle s r m q x) (g r q x) (ends_steps P s m rs qs g k)

  -- P of a task that the move ends, and how
  abbrev Brings : (Task → TaskEnd → Type 0) → State → Move → Type 0
  Brings P s (ends_task j d) = (x : Task) × (live_object s.tasks j ≡ Some x) × (j ≡ h → P x d)
  Brings P s (ends_waiting p d) = (t : Task) → (is_unstarted t && p t) ≡ true → P t d
  Brings P s (withdraws j f c) =
      (t : Task) → (is_unstarted t && not (has_worker (workers s) t.job t.cores (live_of (change j f s.actions)))) ≡ true → P t (Failed c)
  Brings P s _ = Unit {0}

  step_brings : (P : Task → TaskEnd → Type 0) (s : State) (r : Listed Task) (m : Move) (q : Listed Task) → Step s r m q → Brings P s m → Head P r q
  step_brings P s r _ _ (step.runs j w k a i f) g e z n u = none_some u
  step_brings P s r _ _ (step.ends j d a i f) g e z n u = grind (arith, nat_tests, some_same (sym g.1 ∙ f), some_same u, eqb-true r.handle)
  step_brings P s r _ _ (step.waited p d k a i l) g e z n u = subst (P r.fields) (some_same u) (g r.fields i)
  step_brings P s r _ _ (step.left j f c k a i l) g e z n u = subst (P r.fields) (some_same u) (g r.fields i)
  step_brings P s r _ _ _ g e z n u = none_some (sym n ∙ u)

  brings : (P : Task → TaskEnd → Type 0) (s : State) (m : Move) → Brings P s m → Ends P s.tasks (apply m s).tasks
  brings P s m g = ends_steps P s m s.tasks _ (λ r q x. step_brings P s r m q x g) (tasks_go s m)

  -- Changes that leave the ends as they are

  abbrev Alike : Listed Task → Listed Task → Type 0
  Alike r q = (q.handle ≡ r.handle) × (end_in q.fields.state ≡ end_in r.fields.state)

  alike_head : (r q : Listed Task) (rs qs : List (Listed Task)) → Alike r q → end_at qs h ≡ end_at rs h → end_at (q ∷ qs) h ≡ end_at (r ∷ rs) h
  unfolding end_at
  alike_head r q rs qs a k = λ z. cond (a.0 z == h) (a.1 z) (k z)

  alike_steps : (s : State) (m : Move) (l k : List (Listed Task)) → ((j : ℕ) (t : NewTask) → m ≡ starts_task j t → ⊥)
      → ((r q : Listed Task) → Step s r m q → Alike r q) → Steps s m l k → end_at k h ≡ end_at l h
  alike_steps s _ _ _ n g (step.none m) = refl
  alike_steps s _ _ _ n g (step.new j t) = absurd (n j t refl)
  alike_steps s _ _ _ n g (step.next m r q rs qs x k) = alike_head r q rs qs (g r q x) (alike_steps s m rs qs n g k)

  -- the moves that start and end no task, and give none to a worker
  abbrev is_calm : Move → Bool
  is_calm (withdraws j f c) = false
  is_calm (starts_task j t) = false
  is_calm (runs_task j w k) = false
  is_calm (ends_task j e) = false
  is_calm (ends_waiting p e) = false
  is_calm _ = true

  abbrev are_calm : List Move → Bool
  are_calm [] = true
  are_calm (m ∷ ms) = is_calm m && are_calm ms

  abbrev Same : State → State → Type 0
  Same s t = end_at t.tasks h ≡ end_at s.tasks h

  step_calm : (s : State) (r : Listed Task) (m : Move) (q : Listed Task) → Step s r m q → is_calm m ≡ true → Alike r q
  step_calm s r m q x b = (step_handle s r m q x, grind arith)

  calm_move : (s : State) (m : Move) → is_calm m ≡ true → Same s (apply m s)
  calm_move s m b = alike_steps s m s.tasks _ (λ j t e. absurd (cc)) (λ r q x. step_calm s r m q x b) (tasks_go s m)

  calm_moves : (s : State) (ms : List Move) → are_calm ms ≡ true → Same s (after_moves ms s)
  calm_moves s [] b = refl
  calm_moves s (m ∷ ms) b = calm_moves (apply m s) ms (snd_true (is_calm m) _ b) ∙ calm_move s m (fst_true (is_calm m) _ b)

  -- An answer that ends the task

  abbrev By : State → Op → List Move → Type 0
  By s o ms = Ends (λ t e. Cause s h t o e) s.tasks (after_moves ms s).tasks

  calm : (s : State) (o : Op) (ms : List Move) → are_calm ms ≡ true → By s o ms
  calm s o ms b = ends_same (λ t e. Cause s h t o e) s.tasks (after_moves ms s).tasks (calm_moves s ms b)

  -- a tally that ends with both
  ends_tally : (s : State) (t : TaskHandle) (x : Task) → t.0 ≡ h → (nat_lt x.notes.tally.stage 2 || ((x.notes.tally.stage == 2) && fits (added x))) ≡ false
      → Cause s h x (TallyEnd t) (tally_verdict x)
  ends_tally s t x i f = grind (arith, nat_tests, on_test, by_sum, by_tally, second_false)

  left : (s : State) (t : Task) (l : List (Listed Action)) → (is_unstarted t && not (has_worker (workers s) t.job t.cores (live_of l))) ≡ true → IsLeft s t l
  left s t l i = record { unstarted = fst_true (is_unstarted t) _ i; left = not_true _ (snd_true (is_unstarted t) _ i) }

  by : (s : State) (who : ℕ) (o : Op) (r : Reply) (ms : List Move) → Answers s who o r ms → By s o ms
  by s who _ _ _ (is.closes_node e) =
      brings _ s (ends_waiting (is_shut_in s.queues) Cancelled) (λ t i. by_close (fst_true (is_unstarted t) _ i) (snd_true (is_unstarted t) _ i))
  by s who _ _ _ (is.deletes_action a x f) = brings _ s (withdraws a.0 gone _) (λ t i. by_deleted_action a (left s t (change a.0 gone s.actions) i))
  by s who _ _ _ (is.disables_action a x f) =
      brings _ s (withdraws a.0 (with_fields (with_enabled false)) _)
      (λ t i. by_disabled_action a (left s t (change a.0 (with_fields (with_enabled false)) s.actions) i))
  by s who _ _ _ (is.starts job args priority cores detached group j x) = brings _ s (starts_task j _) tt
  by s who _ _ _ (is.enqueues q args cores detached group j x f u y c) = brings _ s (starts_task j _) tt
  by s who _ _ _ (is.cancels_waiting t x f d) = brings _ s (ends_task t.0 Cancelled) (x, f, λ k. by_cancel t k (ap scheduled d))
  by s who _ _ _ (is.disables_queue q x f k) =
      brings _ s (ends_waiting (is_in q.0) Cancelled) (λ t i. by_disabled_queue q (fst_true (is_unstarted t) _ i) (snd_true (is_unstarted t) _ i))
  by s who _ _ _ (is.deletes_queue q x f) =
      brings _ s (ends_waiting (is_in q.0) _) (λ t i. by_deleted_queue q (fst_true (is_unstarted t) _ i) (snd_true (is_unstarted t) _ i))
  by s who _ _ _ (is.picks t a x y e f g i j k l) = brings _ s (runs_task t.0 who y.kind) tt
  by s who _ _ _ (is.finishes t done x k u) = brings _ s (ends_task t.0 _) (x, k.found, λ i. by_answer t done _ i refl)
  by s who _ _ _ (is.ends_watch t x k u) = brings _ s (ends_task t.0 _) (x, k.found, λ i. by_watch t _ i refl)
  by s who _ _ _ (is.tally_ends_failed t x k f) = brings _ s (ends_task t.0 _) (x, k.found, λ i. by_failed_tally t _ i f refl)
  by s who _ _ _ (is.tally_ends t x y z k f d a b) = brings _ s (ends_task t.0 _) (x, k.found, λ i. ends_tally s t x i f)
  by s who o _ ms a = calm s o ms refl

-- The entry that ended it

has_cause : (s : State) (es : List NodeEntry) (h : ℕ) (e : TaskEnd) → LegalFrom s es → end_at s.tasks h ≡ None → end_at (after_from s es).tasks h ≡ Some e
    → HasEndCause s es h e
unfolding LegalFrom after_from
has_cause s [] h e l n i = none_some (sym n ∙ i)
has_cause s (x ∷ xs) h e l n i = by_end (end_at (next s x).tasks h) refl (λ z. has_cause (next s x) xs h e l.1 z i)
  where
    by_end : (o : Option TaskEnd) → end_at (next s x).tasks h ≡ o → (end_at (next s x).tasks h ≡ None → HasEndCause (next s x) xs h e)
        → HasEndCause s (x ∷ xs) h e
    by_end None z f = let r = f z in record {
      before = x ∷ r.before;
      by = r.by;
      behind = r.behind;
      cut = ap (λ (L : List NodeEntry). x ∷ L) r.cut;
      task = r.task;
      is = r.is;
      cause = r.cause;
    }
    by_end (Some d) z f =
        let same : Some d ≡ Some e = sym (grows_end h d (next s x).tasks (after_from (next s x) xs).tasks (after_grows (next s x) xs) z) ∙ i in
        let c : (t : Task) × (task_at s.tasks h ≡ Some t) × Cause s h t x.op e =
        by h s x.who x.op x.reply _ (answered s x.who x.op x.reply l.0.allowed) e n (z ∙ same) in
        record { before = []; by = x; behind = xs; cut = refl; task = c.0; is = c.1; cause = c.2 }

no_task : (terms : Terms) (h : ℕ) → end_at (opening terms).tasks h ≡ None
unfolding end_at
no_task terms h = refl

pub end_has_its_cause : (terms : Terms) (es : List NodeEntry) (h : ℕ) → Legal terms es → EndHasItsCause terms es h
end_has_its_cause terms es h legal e i = has_cause (opening terms) es h e legal.from (no_task terms h) i
