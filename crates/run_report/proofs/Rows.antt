-- After each entry that may come next, what is seen is what stands in the state.
use Rattle.run_report.proofs.Names.{arith, nat_tests, ◌≡◌, ℕ, ℤ, ◌≤◌, Bool, true, false, ◌&&◌, cond, List, [], ◌∷◌, Option, Some, refl, sym, ◌∙◌, ap, subst, not, option_map, is_some, TaskEnd, Cancelled, Failed, holds, Listed, live_of, live_object, change, with_fields, gone, listed, Action, new_action, with_enabled, Queue, is_shut_in, is_in, Task, NewTask, is_unstarted, is_unended, scheduled, watch_end, cancel_requested, Op, Reply, State, workers, end_tasks, Move, Queues, makes_action, enables, withdraws, starts_task, runs_task, ends_task, ends_waiting, notes, leaves, frees_members, lets_members_go, alters, removes, is_fresh, apply, after_moves, is_ready, task_end, NodeEntry, IsNext, next, fst_true, snd_true, IsKeptBy, by_moves, EndEffect, Nothing, effect_of, SeenRun, FollowsSeen, unstarted_of, unstarted_in, unstarted_at, live_queue_of, live_queue_at, ends_where, with_end, withdrawn, is_left, is_of, is_queue_shut, enqueued, with_open, with_effect}
use Rattle.mtapi_values.specs.declared.statuses.MrapiStatus.{MrapiStatus}
use Rattle.mtapi_values.specs.declared.statuses.MtapiStatus.{MtapiStatus}
use Rattle.mtapi_values.specs.declared.statuses.MtapiStatus.TheVariants as m
use Rattle.mtapi_values.specs.declared.handles.TaskHandle.{TaskHandle}
use Rattle.mtapi_values.specs.declared.handles.QueueHandle.{QueueHandle}
use Rattle.mtapi_values.specs.declared.handles.GroupHandle.{GroupHandle}
use Rattle.mtapi_values.specs.declared.masks.Mask.{Mask}
use Rattle.mtapi_objects.specs.Queues as queues
use Rattle.mtapi_machine.specs.declared.ops.Op.TheVariants as op
use Rattle.mtapi_machine.specs.declared.replies.Reply.TheVariants.{Ok, Handle, Mtapi, Mrapi}
use Rattle.mtapi_machine.specs.State as kinds
use Rattle.mtapi_machine.specs.Moves.{makes}
use Rattle.mtapi_machine.specs.TaskRows.{asked_for, asked_of}
use Rattle.mtapi_machine.specs.Answers.{Answers}
use Rattle.mtapi_machine.specs.Answers as is
use Rattle.mtapi_machine.proofs.Answered.{answered}
use Rattle.mtapi_machine.specs.Laws.{IsMade, is_pick, MakesAction, EnablesAction, WithdrawsAction, StartsTask, EndsTask, ends_many, makes_of_sort, AltersObject, RemovesObject}
use Rattle.run_report.proofs.Listed.{unstarted_first, first-found}
use Rattle.run_report.proofs.Sound.{Sound, none_listed, sound_move}
use Rattle.run_report.proofs.Follow.{seen_of, follows_self, follows_path, follows_same, follows_notes, follows_leaves, follows_frees, follows_lets_go, follows_starts, follows_runs, follows_end, follows_ends, follows_actions, action_changed, action_gone, action_made, follows_queue_made, follows_queue_changed, follows_queue_gone}

-- The ops that change nothing of what is seen

abbrev changes_nothing : Op → Bool
changes_nothing op.Close = false
changes_nothing (op.ActionCreate job kind cores) = false
changes_nothing (op.ActionEnable a) = false
changes_nothing (op.ActionDisable a) = false
changes_nothing (op.ActionDelete a) = false
changes_nothing (op.TaskStart job args priority cores detached group) = false
changes_nothing (op.TaskEnqueue q args cores detached group) = false
changes_nothing (op.TaskCancel t) = false
changes_nothing (op.QueueCreate id job priority limit ordered retain) = false
changes_nothing (op.QueueEnable q) = false
changes_nothing (op.QueueDisable q) = false
changes_nothing (op.QueueDelete q) = false
changes_nothing op.Pick = false
changes_nothing (op.Finish t done) = false
changes_nothing (op.WatchEnd t) = false
changes_nothing (op.TallyEnd t) = false
changes_nothing _ = true

nothing_of : (o : Op) (r : Reply) → changes_nothing o ≡ true → effect_of o r ≡ Nothing
nothing_of o r e1 = grind (arith, nat_tests)

-- so it makes none of the moves that do
pub record ChangesNothing (o : Op) : Type 0 where
  made : (a : Action) → MakesAction a o → ⊥
  enabled : (h : ℕ) → EnablesAction h o → ⊥
  withdrawn : (h : ℕ) (f : Listed Action → Listed Action) → WithdrawsAction h f o → ⊥
  started : (t : NewTask) → StartsTask t o → ⊥
  run : is_pick o ≡ true → ⊥
  ended : (h : ℕ) → EndsTask h o → ⊥
  ends : ends_many o ≡ true → ⊥
  queue_made : makes_of_sort Queues o ≡ true → ⊥
  queue_altered : (h : ℕ) (f : Queue → Queue) → AltersObject Queues h f o → ⊥
  queue_gone : (h : ℕ) → RemovesObject Queues h o → ⊥

none_of : (o : Op) → changes_nothing o ≡ true → ChangesNothing o
none_of o e1 = grind (arith, nat_tests)

-- what is there
there : {T : Type 0} (o : Option T) → is_some o ≡ true → (t : T) × (o ≡ Some t)
there o e1 = grind (arith, nat_tests)

-- what is there and passes
found : {T : Type 0} (q : T → Bool) (o : Option T) → holds q o ≡ true → (t : T) × ((o ≡ Some t) × (q t ≡ true))
found q o e1 = grind (arith, nat_tests)

module _ (n : ℕ) (v : SeenRun) where
  abbrev Both : State → Type 0
  Both s = Sound n s × FollowsSeen v s

  quiet_move : (o : Op) → changes_nothing o ≡ true → IsKeptBy o Both
  quiet_move o p s x e i = (sound_move n o s x e i.0, by x e)
    where
      by : (x : Move) → IsMade s o x → FollowsSeen v (apply x s)
      by (makes_action h a) e = absurd ((none_of o p).made a e.by)
      by (enables h) e = absurd ((none_of o p).enabled h e.by)
      by (withdraws h f c) e = absurd ((none_of o p).withdrawn h f e.by)
      by (starts_task h t) e = absurd ((none_of o p).started t e.by)
      by (runs_task h w k) e = absurd ((none_of o p).run e.by)
      by (ends_task h x) e = absurd ((none_of o p).ended h e.by)
      by (ends_waiting q x) e = absurd ((none_of o p).ends e.by)
      by (notes h f) e = let t = there (live_object s.tasks h) e.may in follows_notes v s h f t.0 i.1 i.0.once t.1
      by (leaves h) e = let t = found (λ u. not (is_unended u)) (live_object s.tasks h) e.may in follows_leaves v s h t.0 i.1 i.0.once t.1.0 t.1.1
      by (frees_members g) e = follows_frees v s g i.1
      by (lets_members_go g) e = follows_lets_go v s g i.1
      by (makes Queues h x) e = absurd ((none_of o p).queue_made e.by)
      by (alters Queues h f) e = absurd ((none_of o p).queue_altered h f e.by)
      by (removes Queues h) e = absurd ((none_of o p).queue_gone h e.by)
      by _ e = follows_same v s _ i.1 refl refl refl

-- a refusal changes nothing of what is seen
refused : (o : Op) (x : MtapiStatus) → effect_of o (Mtapi x) ≡ Nothing
refused o x = grind (arith, nat_tests)

refused_caller : (o : Op) (x : MrapiStatus) → effect_of o (Mrapi x) ≡ Nothing
refused_caller o x = grind (arith, nat_tests)

-- The answers to the other ops, where what was seen stands in the state

module _ (s : State) (i : Sound (workers s) s) where
  abbrev W : Op → Reply → State → Type 0
  W o x t = FollowsSeen (with_effect (workers s) (effect_of o x) (seen_of s)) t

  self : FollowsSeen (seen_of s) s
  self = follows_self s

  -- the phase

  shut_same : (t : Task) → is_queue_shut (live_queue_at s.queues) (unstarted_of t) ≡ is_shut_in s.queues t
  shut_same t = grind (arith, nat_tests)

  closes : (t : State) → t.tasks ≡ s.tasks → t.actions ≡ s.actions → t.queues ≡ s.queues
      → FollowsSeen (ends_where (is_queue_shut (live_queue_at s.queues)) Cancelled (seen_of s))
      (end_tasks (λ u. is_unstarted u && is_shut_in s.queues u) Cancelled t)
  closes t a b c =
      subst (λ (p : Task → Bool). FollowsSeen (ends_where (is_queue_shut (live_queue_at s.queues)) Cancelled (seen_of s))
      (end_tasks (λ u. is_unstarted u && p u) Cancelled t))
      (λ j u. shut_same u j)
      (follows_ends (seen_of s) t (is_queue_shut (live_queue_at s.queues)) Cancelled (follows_same (seen_of s) s t self a b c))

  -- actions

  withdraws_so : (es : List (ℕ × Action)) (l : List (Listed Action)) (c : MtapiStatus) → es ≡ live_of l
      → FollowsSeen (withdrawn (workers s) es c (seen_of s))
      (end_tasks (λ u. is_unstarted u && is_left (workers s) (live_of l) (unstarted_of u)) (Failed c) (record s { actions = l }))
  withdraws_so es l c same =
      subst (λ (fs : List (ℕ × Action)). FollowsSeen (ends_where (is_left (workers s) fs) (Failed c) (record (seen_of s) { actions = es }))
      (end_tasks (λ u. is_unstarted u && is_left (workers s) (live_of l) (unstarted_of u)) (Failed c) (record s { actions = l }))) (sym same)
      (follows_ends (record (seen_of s) { actions = es }) (record s { actions = l }) (is_left (workers s) (live_of l)) (Failed c)
      (follows_actions (seen_of s) s es l self same))

  -- tasks

  fresh_tasks : (h : ℕ) → is_fresh kinds.tasks s h ≡ true → listed h s.tasks ≡ 0
  fresh_tasks h e = none_listed _ h s.tasks (snd_true _ _ e)

  enqueues : (q : QueueHandle) (args : List ℤ) (cores : Mask) (detached : Bool) (group : Option GroupHandle) (x : Queue) (h : ℕ)
      → live_object s.queues q.0 ≡ Some x → is_fresh kinds.tasks s h ≡ true
      → W (op.TaskEnqueue q args cores detached group) (Handle h) (apply (starts_task h (asked_of q.0 x args cores detached group)) s)
  enqueues q args cores detached group x h at e =
      subst (λ (o : Option Queue). FollowsSeen (enqueued h q.0 cores (option_map live_queue_of o) (seen_of s))
      (apply (starts_task h (asked_of q.0 x args cores detached group)) s)) (sym at)
      (follows_starts (seen_of s) s h (asked_of q.0 x args cores detached group) self (fresh_tasks h e))

  waits : (h : ℕ) (t : Task) → live_object s.tasks h ≡ Some t → is_some (unstarted_at s.tasks h) ≡ is_unstarted t
  waits h t e1 = grind (arith, nat_tests, unstarted_first, first-found, unstarted_in, is_unstarted, unstarted_of)

  -- a cancel that leaves this state
  cancels_so : (k : TaskHandle) (t : Task) (u : State) (b : Bool) → live_object s.tasks k.0 ≡ Some t → is_unstarted t ≡ b
      → FollowsSeen (cond b (with_end k.0 Cancelled (seen_of s)) (seen_of s)) u
      → W (op.TaskCancel k) Ok u
  cancels_so k t u b e d f = subst (λ c. FollowsSeen (cond c (with_end k.0 Cancelled (seen_of s)) (seen_of s)) u) (sym (waits k.0 t e ∙ d)) f

  -- work

  ready_unstarted : (t : Task) → is_ready s t ≡ true → is_unstarted t ≡ true
  unfolding is_ready
  ready_unstarted t h = fst_true (is_unstarted t) _ h

  -- a task that ends after other objects changed
  ends_so : (h : ℕ) (e : TaskEnd) (t : Task) (u : State) → live_object s.tasks h ≡ Some t → u.tasks ≡ s.tasks → u.actions ≡ s.actions → u.queues ≡ s.queues
      → FollowsSeen (with_end h e (seen_of s)) (apply (ends_task h e) u)
  ends_so h e t u at a b c =
      follows_end (seen_of s) u h e t (follows_same (seen_of s) s u self a b c) (λ j. subst (λ l. listed j l ≤ 1) (sym a) (i.once j))
      ((λ j. live_object (a j) h) ∙ at)

  -- queues

  fresh_queues : (h : ℕ) → is_fresh kinds.queues s h ≡ true → listed h s.queues ≡ 0
  fresh_queues h e = none_listed _ h s.queues (snd_true _ _ e)

  disables : (q : QueueHandle) (x : Queue) → live_object s.queues q.0 ≡ Some x → (keeps : Bool) → x.retain ≡ keeps
      → W (op.QueueDisable q) Ok (after_moves (alters Queues q.0 (queues.opened false) ∷ cond keeps [] (ends_waiting (is_in q.0) Cancelled ∷ [])) s)
  disables q x e keeps is = by keeps test
    where
      test : holds (λ y. not y.retain) (live_queue_at s.queues q.0) ≡ not keeps
      test = (λ j. holds (λ y. not y.retain) (option_map live_queue_of (e j))) ∙ ap not is

      shut : FollowsSeen (with_open q.0 false (seen_of s)) (apply (alters Queues q.0 (queues.opened false)) s)
      shut = follows_queue_changed (seen_of s) s q.0 false x self e

      by : (b : Bool) → holds (λ y. not y.retain) (live_queue_at s.queues q.0) ≡ not b
          → W (op.QueueDisable q) Ok (after_moves (alters Queues q.0 (queues.opened false) ∷ cond b [] (ends_waiting (is_in q.0) Cancelled ∷ [])) s)
      by true t =
          subst (λ c. FollowsSeen (cond c (ends_where (is_of q.0) Cancelled (with_open q.0 false (seen_of s))) (with_open q.0 false (seen_of s)))
          (apply (alters Queues q.0 (queues.opened false)) s)) (sym t) shut
      by false t =
          subst (λ c. FollowsSeen (cond c (ends_where (is_of q.0) Cancelled (with_open q.0 false (seen_of s))) (with_open q.0 false (seen_of s)))
          (apply (ends_waiting (is_in q.0) Cancelled) (apply (alters Queues q.0 (queues.opened false)) s))) (sym t)
          (follows_ends _ _ (is_of q.0) Cancelled shut)

  by_answer : (who : ℕ) (o : Op) (r : Reply) (ms : List Move) → Answers s who o r ms → changes_nothing o ≡ false → W o r (after_moves ms s)
  by_answer who _ _ _ (is.refuses o x e) p = subst (λ c. FollowsSeen (with_effect (workers s) c (seen_of s)) s) (sym (refused o x)) self
  by_answer who _ _ _ (is.refuses_caller o x e) p = subst (λ c. FollowsSeen (with_effect (workers s) c (seen_of s)) s) (sym (refused_caller o x)) self
  by_answer who _ _ _ (is.closes_node a) p = closes _ refl refl refl
  by_answer who _ _ _ (is.creates_action job kind cores h f) p = follows_actions (seen_of s) s _ _ self (action_made h (new_action job kind cores.0) s.actions)
  by_answer who _ _ _ (is.enables_action a x e) p = follows_actions (seen_of s) s _ _ self (action_changed a.0 (with_enabled true) s.actions)
  by_answer who _ _ _ (is.disables_action a x e) p =
      withdraws_so _ (change a.0 (with_fields (with_enabled false)) s.actions) m.ErrActionDisabled (action_changed a.0 (with_enabled false) s.actions)
  by_answer who _ _ _ (is.deletes_action a x e) p = withdraws_so _ (change a.0 gone s.actions) m.ErrActionDeleted (action_gone a.0 s.actions)
  by_answer who _ _ _ (is.starts job args priority cores detached group h f) p =
      follows_starts (seen_of s) s h (asked_for job args priority cores detached group) self (fresh_tasks h f.fresh)
  by_answer who _ _ _ (is.enqueues q args cores detached group h x e u f n) p = enqueues q args cores detached group x h e f.fresh
  by_answer who _ _ _ (is.cancels_waiting t x e d) p = cancels_so t x _ true e (ap scheduled d) (follows_end (seen_of s) s t.0 Cancelled x self i.once e)
  by_answer who _ _ _ (is.cancels_running t x w k e d) p =
      cancels_so t x _ false e (ap scheduled d) (follows_notes (seen_of s) s t.0 cancel_requested x self i.once e)
  by_answer who _ _ _ (is.cancels_over t x y n e d) p = cancels_so t x _ false e (ap scheduled d) self
  by_answer who _ _ _ (is.creates_queue id job priority limit ordered retain h n f) p = follows_queue_made (seen_of s) s h _ self (fresh_queues h f)
  by_answer who _ _ _ (is.enables_queue q x e) p = follows_queue_changed (seen_of s) s q.0 true x self e
  by_answer who _ _ _ (is.retains_queue q x e d) p = disables q x e true d
  by_answer who _ _ _ (is.disables_queue q x e d) p = disables q x e false d
  by_answer who _ _ _ (is.deletes_queue q x e) p =
      follows_queue_gone _ _ q.0 (follows_ends (seen_of s) s (is_of q.0) (Failed m.ErrQueueDeleted) self) i.distinct
  by_answer who _ _ _ (is.idles_in_new a) p = self
  by_answer who _ _ _ (is.idles a) p = self
  by_answer who _ _ _ (is.stops_worker a b d) p = follows_same (seen_of s) s _ self refl refl refl
  by_answer who _ _ _ (is.picks t a x y b l e d z g k) p = follows_runs (seen_of s) s t.0 who y.kind x self i.once e (ready_unstarted x z)
  by_answer who _ _ _ (is.finishes t done x h u) p = ends_so t.0 (task_end done.end) x s h.found refl refl refl
  by_answer who _ _ _ (is.ends_watch t x h u) p = ends_so t.0 (watch_end x) x s h.found refl refl refl
  by_answer who _ _ _ (is.tally_ends_failed t x h u) p = ends_so t.0 x.notes.tally.verdict x s h.found refl refl refl
  by_answer who _ _ _ (is.tally_ends t x y z h u v f g) p = ends_so t.0 _ x _ h.found refl refl refl
  by_answer who _ _ _ _ p = absurd (cc)

-- one entry on
pub follows_next : (n : ℕ) (v : SeenRun) (s : State) (e : NodeEntry) → IsNext s e → Sound n s → FollowsSeen v s
    → FollowsSeen (with_effect n (effect_of e.op e.reply) v) (next s e)
follows_next n v s e h i f = by (changes_nothing e.op) refl
  where
    by : (b : Bool) → changes_nothing e.op ≡ b → FollowsSeen (with_effect n (effect_of e.op e.reply) v) (next s e)
    by true p =
        subst (λ (c : EndEffect). FollowsSeen (with_effect n c v) (next s e)) (sym (nothing_of e.op e.reply p))
        (by_moves (λ t. Sound n t × FollowsSeen v t) s e (quiet_move n v e.op p) (i, f)).1
    by false p =
        subst (λ (k : ℕ). FollowsSeen (with_effect k (effect_of e.op e.reply) v) (next s e)) i.workers
        (subst (λ (w : SeenRun). FollowsSeen (with_effect (workers s) (effect_of e.op e.reply) w) (next s e)) (sym (follows_path v s f))
        (by_answer s (record { once = i.once; distinct = i.distinct; workers = refl }) e.who e.op e.reply _ (answered s e.who e.op e.reply h.allowed) p))
