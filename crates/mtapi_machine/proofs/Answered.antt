-- The rows of the machine, walked over once: a reply that a row allows is one of its answers.
use Rattle.mtapi_machine.proofs.Names.{arith, nat_tests, ◌≡◌, ℕ, Bool, true, false, cond, List, ◌∷◌, Option, Some, None, refl, sym, ◌∙◌, ap, subst, MatchBool, ◌==◌, not, nat_lt, is_some, is_none, length, MrapiStatus, TaskHandle, GroupHandle, live_object, live_of, any_listed, first_handle, Task, TaskState, Scheduled, Running, is_unended, end_of, runs_on, task_look_refusals, Adds, tally_args, Group, Ending, endings, Op, Reply, State, workers, is_stop, Move, Sort, Fields, all_of, Row, unless, gives, never, says, not_yet, Allows, only, live, moves_of, row, found, looks_at, cancels, gives_end, gives_first, picks, is_ready, can_take, gives_up, takes_both, locks, []}
use Rattle.mtapi_values.specs.declared.kinds.Kind.TheVariants as kinds
use Rattle.mtapi_values.specs.declared.statuses.MtapiStatus.TheVariants as m
use Rattle.mtapi_objects.specs.Tasks.{Ended}
use Rattle.mtapi_machine.specs.declared.ops.Op.TheVariants as op
use Rattle.mtapi_machine.specs.declared.replies.Reply.TheVariants as reply
use Rattle.mtapi_machine.proofs.Made.{fst_true, snd_true, not_true, not_false}
use Rattle.mtapi_machine.specs.Answers.{AreUnmet, HasTask, HasObject, refuses_with, Answers}
use Rattle.mtapi_machine.specs.Answers as is

-- Q of what the row gives where the conditions before it aren't met, and of each reply before it that is no refusal
abbrev Leads : (Reply → Bool) → (Reply → List Move → Type 0) → Row → Type 0
Leads p Q (unless b x w) = MatchBool (p x) (b ≡ false → Leads p Q w) ((b ≡ true → Q x []) × (b ≡ false → Leads p Q w))
Leads p Q (gives x ms) = Q x ms
Leads p Q never = Unit {0}

module _ (p : Reply → Bool) (Q : Reply → List Move → Type 0) (no : (x : Reply) → p x ≡ true → Q x []) where
  past : (c b : Bool) (x : Reply) (W : Type 0) → p x ≡ c → MatchBool c (b ≡ false → W) ((b ≡ true → Q x []) × (b ≡ false → W))
      → (b ≡ true → Q x []) × (b ≡ false → W)
  past c b x W e1 e2 = grind (arith, nat_tests)

  led : (w : Row) (r : Reply) → Leads p Q w → Allows w r → Q r (moves_of w)
  led (unless true x w) r g a = subst (λ (y : Reply). Q y []) (sym a) ((past (p x) true x (Leads p Q w) refl g).0 refl)
  led (unless false x w) r g a = led w r ((past (p x) false x (Leads p Q w) refl g).1 refl) a
  led (gives x ms) r g a = subst (λ (y : Reply). Q y ms) (sym a) g
  led never r g a = absurd a

unended_in : (x : Task) (y : TaskState) → x.state ≡ y → is_none (end_of y) ≡ true → is_unended x ≡ true
unended_in x y e u = ap (λ (z : TaskState). is_none (end_of z)) e ∙ u

-- the answers, by what they are of
ruleset of_callers = (is.opens_node, is.releases_callers, is.enters_early, is.enters_node, is.closes_node, is.finals_node, is.refuses, is.refuses_caller)

ruleset of_starts = (is.finds_job, is.creates_action, is.deletes_action, is.disables_action, is.enables_action, is.starts, is.enqueues)

ruleset of_lists = (is.creates_group, is.deletes_group, is.all_early, is.all_late, is.creates_queue, is.gets_queue, is.enables_queue, is.deletes_queue)

ruleset of_ends = (is.all_well, is.all_faulty, is.retains_queue, is.disables_queue)

ruleset of_work = (is.finishes, is.asks, is.ends_watch, is.tally_reads, is.tally_writes, is.tally_ends_failed, is.tally_ends)

ruleset of_mutexes = (is.creates_mutex, is.gets_mutex, is.deletes_mutex, is.mutex_early, is.mutex_late, is.locks_mutex, is.unlocks_mutex)

ruleset of_sems = (is.creates_sem, is.gets_sem, is.deletes_sem, is.sem_early, is.sem_late, is.takes_sem, is.gives_sem)

ruleset of_rwls = (is.creates_rwl, is.gets_rwl, is.deletes_rwl, is.rwl_early, is.rwl_late, is.takes_rwl, is.gives_rwl)

ruleset of_segments = (is.creates_segment, is.gets_segment, is.deletes_segment, is.attaches, is.detaches, is.reads_cell, is.writes_cell)

ruleset outcomes = (of_callers, of_starts, of_lists, of_ends, of_work, of_mutexes, of_sems, of_rwls, of_segments, fst_true, snd_true, not_true, not_false)

module _ (s : State) (who : ℕ) where
  abbrev Is : Op → Reply → List Move → Type 0
  Is o r ms = Answers s who o r ms

  abbrev Walks : Op → Row → Type 0
  Walks o w = Leads (refuses_with o) (Is o) w

  on_only : (o : Op) (b : Bool) (x : Reply) (ms : List Move) → (b ≡ true → Is o x ms) → Walks o (only b (gives x ms))
  on_only o b x ms e1 = grind (arith, nat_tests)

  on_live : (o : Op) {T : Type 0} (x : Option T) (v : Row) (w : T → Row) → Walks o v → ((t : T) → x ≡ Some t → Walks o (w t)) → Walks o (live x v w)
  on_live o x v w e1 e2 = grind (arith, nat_tests)

  on_cond : (o : Op) (b : Bool) (v w : Row) → (b ≡ true → Walks o v) → (b ≡ false → Walks o w) → Walks o (cond b v w)
  on_cond o b v w e1 e2 = grind (arith, nat_tests)

  on_found : (o : Op) (h : Option ℕ) (absent : Reply) → Is o absent [] → ((x : ℕ) → h ≡ Some x → Is o (reply.Handle x) []) → Walks o (found h absent)
  on_found o h absent e1 e2 = grind (arith, nat_tests)

  -- an op on the object of a handle, what finds one by its id, and what makes one
  on_object : (o : Op) (k : Sort) (h : ℕ) (cs : Fields k → List (Bool × MrapiStatus)) (w : Fields k → Row) → nat_lt who (workers s) ≡ false
      → Is o (all_of k).invalid []
      → ((x : Fields k) → (AreUnmet (cs x) → HasObject k s who h x (cs x)) → Walks o (w x))
      → Walks o (live (live_object ((all_of k).list s) h) (says (all_of k).invalid) w)
  on_object o k h cs w b n g = on_live o (live_object ((all_of k).list s) h) _ _ n (λ x e. g x (λ u. record { outside = b; found = e; unmet = u }))

  -- a look that finds it busy
  early : (o : Bool → Op) (last : Bool) (late : Reply) → Is (o false) reply.Pending [] → Is (o true) late [] → Walks (o last) (not_yet last late)
  early o last late e1 e2 = grind (arith, nat_tests)

  -- Tasks

  on_looks : (t : TaskHandle) (last : Bool) (x : Task) (y : TaskState) → live_object s.tasks t.0 ≡ Some x → AreUnmet (task_look_refusals who x) → x.state ≡ y
      → Walks (op.TaskLook t last) (looks_at who t.0 last y)
  on_looks t last x (Ended e n) f u d = is.looks_over t last x e n f u d
  on_looks t true x Scheduled f u d = is.looks_last t x f u (unended_in x Scheduled d refl)
  on_looks t false x Scheduled f u d = is.looks_early t x f u (unended_in x Scheduled d refl)
  on_looks t true x (Running w k) f u d = is.looks_last t x f u (unended_in x (Running w k) d refl)
  on_looks t false x (Running w k) f u d = is.looks_early t x f u (unended_in x (Running w k) d refl)

  on_cancels : (t : TaskHandle) (x : Task) (y : TaskState) → live_object s.tasks t.0 ≡ Some x → x.state ≡ y → Walks (op.TaskCancel t) (cancels t.0 y)
  on_cancels t x Scheduled f d = is.cancels_waiting t x f d
  on_cancels t x (Running w k) f d = is.cancels_running t x w k f d
  on_cancels t x (Ended e n) f d = is.cancels_over t x e n f d

  -- Groups

  on_first : (g : GroupHandle) (last : Bool) (x : Group) (es : List Ending) → live_object s.groups g.0 ≡ Some x → endings g.0 (live_of s.tasks) ≡ es
      → Walks (op.AnyLook g last) (gives_first s last es)
  on_first g last x [] f d = early (λ b. op.AnyLook g b) last (reply.Mtapi m.Timeout) (is.any_early g x f d) (is.any_late g)
  on_first g last x (y ∷ ys) f d = on_live (op.AnyLook g last) (live_object s.tasks y.task) _ _ tt (λ t e. by_state t t.state e refl)
    where
      by_state : (t : Task) (z : TaskState) → live_object s.tasks y.task ≡ Some t → t.state ≡ z → Walks (op.AnyLook g last) (gives_end y.task z)
      by_state t Scheduled e i = tt
      by_state t (Running w k) e i = tt
      by_state t (Ended v n) e i = is.any_given g last x y ys t v n f d e i

  -- Work

  on_picks : (r : Reply) → nat_lt who (workers s) ≡ true → any_listed (runs_on who) s.tasks ≡ false → Walks op.Pick (picks s who r)
  on_picks (reply.Picked t a k args) b f =
      on_live op.Pick (live_object s.tasks t.0) _ _ tt (λ x e. on_live op.Pick (live_object s.actions a.0) _ _ tt (λ y d. on_only op.Pick _ _ _ (λ g.
      is.picks t a x y b f e d (fst_true (is_ready s x) _ (fst_true _ _ g)) (snd_true (is_ready s x) _ (fst_true _ _ g)) (not_true _ (snd_true _ _ g)))))
  on_picks _ b f = on_only op.Pick (not (any_listed (can_take s who) s.tasks)) reply.Idle [] (λ g. is.idles (not_true _ g))

  -- an op on the task that the worker runs so
  on_task : (o : Op) (h : ℕ) (w : Task → Row) → refuses_with o (reply.Mtapi m.ErrTaskInvalid) ≡ true
      → ((x : Task) → nat_lt who (workers s) ≡ true → live_object s.tasks h ≡ Some x → Walks o (w x))
      → not (nat_lt who (workers s)) ≡ false → Walks o (live (live_object s.tasks h) (says (reply.Mtapi m.ErrTaskInvalid)) w)
  on_task o h w r g b = on_live o (live_object s.tasks h) _ w (is.refuses o m.ErrTaskInvalid r) (λ x e. g x (not_false _ b) e)

  -- Tallies

  on_takes : (t : TaskHandle) (x : Task) (y : Adds) (a b : Option ℕ) → HasTask s who t.0 x kinds.Tally → (x.notes.tally.stage == 0) ≡ true
      → tally_args x.args ≡ Some y
      → first_handle (λ z. z.id == y.mutex) (live_of s.mutexes) ≡ a → first_handle (λ z. z.id == y.segment) (live_of s.segments) ≡ b
      → Walks (op.TallyLock t) (takes_both s who t.0 y.cell a b)
  on_takes t x y None b h z n i j = is.lock_fails t x m.ErrActionFailed h z refl
  on_takes t x y (Some a) None h z n i j = is.lock_fails t x m.ErrActionFailed h z refl
  on_takes t x y (Some a) (Some b) h z n i j =
      on_live (op.TallyLock t) (live_object s.mutexes a) _ _ (is.lock_fails t x m.ErrActionFailed h z refl)
      (λ u d. on_live (op.TallyLock t) (live_object s.segments b) _ _ (is.lock_fails t x m.ErrActionFailed h z refl) (λ v f.
      on_cond (op.TallyLock t) (not (nat_lt y.cell (length v.cells))) _ _ (λ e. is.lock_fails t x m.ErrActionFailed h z refl)
      (λ e. on_cond (op.TallyLock t) (is_some u.owner) _ _ (λ k. is.lock_early t x h z)
      (λ k. is.lock_got t x y a b h z (record {
        mutex = u;
        segment = v;
        names = n;
        first_mutex = i;
        first_segment = j;
        found_mutex = d;
        found_segment = f;
        in_cells = not_false _ e;
        free = k;
      })))))

  on_locks : (t : TaskHandle) (x : Task) (y : Option Adds) → HasTask s who t.0 x kinds.Tally → (x.notes.tally.stage == 0) ≡ true → tally_args x.args ≡ y
      → Walks (op.TallyLock t) (locks s who t.0 x.args y)
  on_locks t x None h z n = by_length (length x.args == 4)
    where
      by_length : (b : Bool) → Walks (op.TallyLock t) (gives_up t.0 (cond b m.ErrActionFailed m.ErrArgSize))
      by_length true = is.lock_fails t x m.ErrActionFailed h z refl
      by_length false = is.lock_fails t x m.ErrArgSize h z refl
  on_locks t x (Some y) h z n = on_takes t x y _ _ h z n refl refl

  refused : (o : Op) (x : Reply) → refuses_with o x ≡ true → Is o x []
  refused o (reply.Mtapi x) e = is.refuses o x e
  refused o (reply.Mrapi x) e = is.refuses_caller o x e
  refused o _ e = absurd (cc)

  ruleset walks = (on_only, on_live, on_cond, on_found, on_object, on_task, early, on_looks, on_cancels, on_locks)

  -- the table: an entry an op
  leads : (o : Op) (r : Reply) → Walks o (row s who o r)
  leads (op.AnyLook g last) r = λ a. on_live (op.AnyLook g last) (live_object s.groups g.0) _ _ (is.refuses _ _ refl) (λ x e b. on_first g last x _ e refl)
  leads op.Pick r = λ a b. (
    (λ d. is.idles_in_new d),
    λ d. on_cond op.Pick (is_stop s) _ _ (λ e. is.stops_worker (not_false _ a) b e)
        (λ e. on_picks r (not_false _ a) b),
  )
  leads o r = grind (arith, nat_tests, outcomes, walks)

  pub answered : (o : Op) (r : Reply) → Allows (row s who o r) r → Answers s who o r (moves_of (row s who o r))
  answered o r a = led (refuses_with o) (Is o) (refused o) (row s who o r) r (leads o r) a
