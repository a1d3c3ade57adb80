-- What the machine may answer where a seat halts: to a look of a caller Pending alone, and to a worker nothing that changes the state.
use Rattle.std.specs.Prelude.{◌==◌, ◌⊎◌, not, ◌&&◌, ℤ}
use Rattle.std.specs.List.{Contains}
use Rattle.std.proofs.lemmas.Bool.Decides.{nat_tests}
use Rattle.std.proofs.Common.{◌≡◌, ℕ, ◌≤◌, Bool, true, false, cond, List, [], ◌∷◌, Option, None, Some, inl, inr, refl, sym, ◌∙◌, ap, subst, arith}
use Rattle.history.specs.Histories.{entry}
use Rattle.action_fn.specs.Answers.{Answered, is_pure}
use Rattle.handle_pool.specs.Issued.{Listed, live_of, live_object, any_listed, count_listed}
use Rattle.mtapi_values.specs.Seats.{is_seat, is_other}
use Rattle.mtapi_values.specs.Conditions.{holds}
use Rattle.mtapi_values.specs.declared.handles.TaskHandle.{TaskHandle}
use Rattle.mtapi_values.specs.declared.handles.ActionHandle.{ActionHandle}
use Rattle.mtapi_values.specs.declared.ends.TaskEnd.{TaskEnd}
use Rattle.mtapi_values.specs.declared.kinds.Kind.{Kind}
use Rattle.mtapi_values.specs.declared.kinds.Kind.TheVariants as kinds
use Rattle.mtapi_values.specs.declared.statuses.MtapiStatus.TheVariants as m
use Rattle.mtapi_objects.specs.Tasks.{task_look_refusals, Task, TaskState, Scheduled, Running, Ended, runs_on, runs_as, kind_number, runner}
use Rattle.mtapi_machine.specs.declared.ops.Op.{Op}
use Rattle.mtapi_machine.specs.declared.ops.Op.TheVariants as op
use Rattle.mtapi_machine.specs.declared.replies.Reply.{Reply}
use Rattle.mtapi_machine.specs.declared.replies.Reply.TheVariants as reply
use Rattle.mtapi_machine.specs.Moves.{Move, stops}
use Rattle.mtapi_machine.specs.State.{State, is_up, tasks}
use Rattle.mtapi_machine.specs.Row.{Row, unless, gives, never, says, only, live, mtapi_unless, on, Allows}
use Rattle.mtapi_machine.specs.Rows.{row}
use Rattle.mtapi_machine.specs.TaskRows.{looks_at}
use Rattle.mtapi_machine.specs.WorkRows.{can_take, picks}
use Rattle.mtapi_machine.specs.Legal.{NodeEntry, IsNext, next}
use Rattle.mtapi_machine.specs.Laws.{is_status, comes_with_change}
use Rattle.mtapi_machine.specs.Kept.{is_dropped, is_pending, pends_alike, drops}
use Rattle.mtapi_machine.specs.Answers.{Answers, HasTask}
use Rattle.mtapi_machine.specs.Answers as is
use Rattle.mtapi_machine.proofs.Answered.{answered}
use Rattle.mtapi_machine.proofs.Refusals.{status_stays}
use Rattle.history_law.proofs.lists.Firsts.{found_count, one_passes}
use Rattle.history_law.proofs.Names.{some_same}
use Rattle.history_law.proofs.tallies.Ties.{none_count, AtMostOne}
use Rattle.workload_runs.specs.RunOf.{is_work}
use Rattle.begun_runs.specs.Halts.{refused_look, IsProbeRefusal, is_task_look, LeavesState}

-- Refusals

pub refused_stays : (s : State) (main : ℕ) (e : NodeEntry) → IsProbeRefusal main e → IsNext s e → next s e ≡ s
refused_stays s main e (inl x) n =
    status_stays s e n (ap (λ (z : NodeEntry). is_status z.reply) x.2) (ap (λ (z : NodeEntry). comes_with_change s z.op z.reply) x.2)
refused_stays s main e (inr is) n =
    status_stays s e n (ap (λ (z : NodeEntry). is_status z.reply) is) (ap (λ (z : NodeEntry). comes_with_change s z.op z.reply) is)

-- Looks at a task whose waiter is known

-- another seat waits for the task
abbrev HasOther : Option Task → Type 0
HasOther o = (x : Task) × (o ≡ Some x) × (is_other 0 x.notes.waiter ≡ true)

late_or : (h : ℕ) (last : Bool) (y : TaskState) → Allows (looks_at 0 h last y) (reply.Mtapi m.ErrWaitPending) → ⊥
late_or h last (Ended e n) a = cc
late_or h true Scheduled a = cc
late_or h false Scheduled a = cc
late_or h true (Running w k) a = cc
late_or h false (Running w k) a = cc

other_if : (h : ℕ) (last : Bool) (y : TaskState) (b c : Bool)
    → Allows (unless b (reply.Mtapi m.ErrParameter) (unless c (reply.Mtapi m.ErrWaitPending) (looks_at 0 h last y))) (reply.Mtapi m.ErrWaitPending) → c ≡ true
other_if h last y true c a = absurd (cc)
other_if h last y false true a = refl
other_if h last y false false a = absurd (late_or h last y a)

other_in : (h : ℕ) (last : Bool) (o : Option Task)
    → Allows (live o (says (reply.Mtapi m.ErrTaskInvalid)) (λ x. mtapi_unless (task_look_refusals 0 x) (looks_at 0 h last x.state)))
    (reply.Mtapi m.ErrWaitPending)
    → HasOther o
other_in h last None a = absurd (cc)
other_in h last (Some x) a = (x, refl, other_if h last x.state _ _ a)

if_up : (b : Bool) (w : Row) → Allows (unless b (reply.Mtapi m.ErrNodeNotinit) w) (reply.Mtapi m.ErrWaitPending) → Allows w (reply.Mtapi m.ErrWaitPending)
if_up true w a = absurd (cc)
if_up false w a = a

has_other : (s : State) (t : TaskHandle) (last : Bool) → IsNext s (refused_look (op.TaskLook t last)) → HasOther (live_object s.tasks t.0)
has_other s t last n =
    other_in t.0 last (live_object s.tasks t.0)
    (if_up (not (is_up s.phase)) (on tasks s t.0 (λ x. mtapi_unless (task_look_refusals 0 x) (looks_at 0 t.0 last x.state))) n.allowed)

same_waiter : (who : ℕ) (w : Option ℕ) → is_other 0 w ≡ true → is_other who w ≡ false → is_seat who w ≡ true
same_waiter who None a b = absurd (cc)
same_waiter who (Some y) a b = grind (arith, nat_tests)

same_task : {o : Option Task} {x y : Task} → o ≡ Some x → o ≡ Some y → x ≡ y
same_task e f = cc

-- the waiter of a task whose look is answered Pending is this seat, where another seat is refused
waits_on : (s : State) (who : ℕ) (t : TaskHandle) (last : Bool) {ms : List Move} → HasOther (live_object s.tasks t.0)
    → Answers s who (op.TaskLook t last) reply.Pending ms → pends_alike s who (op.TaskLook t last) ≡ true
waits_on s who _ _ h (is.looks_early t x found unmet early) =
    let same : h.0 ≡ x = same_task h.1 found in
    ap (λ (o : Option Task). holds (λ z. is_seat who z.notes.waiter) o) found
    ∙ same_waiter who x.notes.waiter (subst (λ (z : Task). is_other 0 z.notes.waiter ≡ true) same h.2) unmet.1.0

alike : (s : State) (who : ℕ) (o : Op) → IsNext s (entry who o reply.Pending) → (is_task_look o ≡ true → IsNext s (refused_look o)) → pends_alike s who o ≡ true
alike s who (op.TaskLook t last) n g = waits_on s who t last (has_other s t last (g refl)) (answered s who (op.TaskLook t last) reply.Pending n.allowed)
alike s who _ n g = refl

-- an entry that leaves the state is one that a journal leaves out
pub is_left_out : (s : State) (refused : List NodeEntry) → ((e : NodeEntry) → Contains refused e → IsNext s e) → (e : NodeEntry) → LeavesState refused e
    → IsNext s e
    → is_dropped s e ≡ true
is_left_out s refused each e (inl idle) n = ap (λ (r : Reply). drops (pends_alike s e.who e.op) r) idle
is_left_out s refused each e (inr x) n =
    ap (λ (r : Reply). drops (pends_alike s e.who e.op) r) x.0
    ∙ alike s e.who e.op (subst (λ (r : Reply). IsNext s (entry e.who e.op r)) x.0 n) (λ l. each (refused_look e.op) (x.1 l))

-- Where Pending is answered

only_reply : (w : Row) (x y : Reply) → Allows w x → Allows w y → y ≡ x
only_reply (unless true z w) x y a b = b ∙ sym a
only_reply (unless false z w) x y a b = only_reply w x y a b
only_reply (gives z ms) x y a b = b ∙ sym a
only_reply never x y a b = absurd a

pending_only : (s : State) (who : ℕ) (o : Op) (r : Reply) {ms : List Move} → Answers s who o reply.Pending ms → Allows (row s who o reply.Pending) reply.Pending
    → Allows (row s who o r) r → r ≡ reply.Pending
pending_only s who _ r (is.enters_early _ _) a b = only_reply (row s who op.Enter r) reply.Pending r a b
pending_only s who _ r (is.looks_early t _ _ _ _) a b = only_reply (row s who (op.TaskLook t false) r) reply.Pending r a b
pending_only s who _ r (is.all_early g _ _ _) a b = only_reply (row s who (op.AllLook g false) r) reply.Pending r a b
pending_only s who _ r (is.any_early g _ _ _) a b = only_reply (row s who (op.AnyLook g false) r) reply.Pending r a b
pending_only s who _ r (is.lock_early t _ _ _) a b = only_reply (row s who (op.TallyLock t) r) reply.Pending r a b
pending_only s who o r (is.mutex_early x _ _ _) a b = only_reply (row s who o r) reply.Pending r a b
pending_only s who o r (is.sem_early x _ _ _) a b = only_reply (row s who o r) reply.Pending r a b
pending_only s who o r (is.rwl_early x _ _ _ _) a b = only_reply (row s who o r) reply.Pending r a b

-- what may be answered Pending may be answered nothing else
pub pending_alone : (s : State) (who : ℕ) (o : Op) (r : Reply) → IsNext s (entry who o reply.Pending) → IsNext s (entry who o r) → r ≡ reply.Pending
pending_alone s who o r n x = pending_only s who o r (answered s who o reply.Pending n.allowed) n.allowed x.allowed

-- What a worker may make that finds no task

none_that : {T : Type 0} (p : T → Bool) (l : List (Listed T)) (h : ℕ) (x : T) → any_listed p l ≡ false → live_object l h ≡ Some x → p x ≡ true → ⊥
none_that p l h x none found passes =
    let zero : count_listed p l ≡ 0 = none_count p l none in
    let one : 1 ≤ count_listed p l = found_count p l h x found passes in
    omega (arith, zero, one)

any_that : {T : Type 0} (p : T → Bool) (l : List (Listed T)) (h : ℕ) (x : T) → live_object l h ≡ Some x → p x ≡ true → any_listed p l ≡ true
any_that p l h x found passes = by (any_listed p l) refl
  where
    by : (b : Bool) → any_listed p l ≡ b → any_listed p l ≡ true
    by true e = e
    by false e = absurd (none_that p l h x e found passes)

both : (a b : Bool) → a ≡ true → b ≡ true → (a && b) ≡ true
both a b e1 e2 = grind (arith, nat_tests)

abbrev is_picked : Reply → Bool
is_picked (reply.Picked t a k args) = true
is_picked _ = false

-- a worker that is given a task could take it
picked_can : (s : State) (w : ℕ) (t : TaskHandle) (a : ActionHandle) (k : Kind) (args : List ℤ) {ms : List Move}
    → Answers s w op.Pick (reply.Picked t a k args) ms → any_listed (can_take s w) s.tasks ≡ true
unfolding can_take
picked_can s w _ _ _ _ (is.picks t a x y inside free found action ready eligible best) =
    any_that (can_take s w) s.tasks t.0 x found (both _ _ ready (any_that _ s.actions a.0 y action eligible))

could_take : (s : State) (w : ℕ) (r : Reply) → IsNext s (entry w op.Pick r) → is_picked r ≡ true → any_listed (can_take s w) s.tasks ≡ true
could_take s w (reply.Picked t a k args) n e = picked_can s w t a k args (answered s w op.Pick (reply.Picked t a k args) n.allowed)
could_take s w _ n e = absurd (cc)

only_idle : (c : Bool) (r : Reply) → Allows {Move = Move} (only c (says reply.Idle)) r → r ≡ reply.Idle
only_idle true r a = a
only_idle false r a = absurd a

only_if : (c : Bool) → Allows {Move = Move} (only (not c) (says reply.Idle)) reply.Idle → c ≡ false
only_if true a = absurd a
only_if false a = refl

picks_idle : (s : State) (w : ℕ) (r : Reply) → (is_picked r ≡ true → ⊥) → Allows (picks s w r) r → r ≡ reply.Idle
picks_idle s w (reply.Picked t a k args) p q = absurd (p refl)
picks_idle s w reply.Ok p q = only_idle _ reply.Ok q
picks_idle s w (reply.Handle h) p q = only_idle _ (reply.Handle h) q
picks_idle s w (reply.Number z) p q = only_idle _ (reply.Number z) q
picks_idle s w (reply.Ended e) p q = only_idle _ (reply.Ended e) q
picks_idle s w (reply.Given t e) p q = only_idle _ (reply.Given t e) q
picks_idle s w reply.Pending p q = only_idle _ reply.Pending q
picks_idle s w reply.Idle p q = refl
picks_idle s w reply.Stop p q = only_idle _ reply.Stop q
picks_idle s w (reply.Asked b) p q = only_idle _ (reply.Asked b) q
picks_idle s w (reply.Mtapi c) p q = only_idle _ (reply.Mtapi c) q
picks_idle s w (reply.Mrapi c) p q = only_idle _ (reply.Mrapi c) q

-- the row of a pick, by its tests
abbrev pick_row : Bool → Bool → Bool → Bool → List Move → Row → Row
pick_row a b c d ms w =
    unless a (reply.Mtapi m.ErrParameter) (unless b (reply.Mtapi m.ErrParameter) (unless c reply.Idle (cond d (gives reply.Stop ms) w)))

idle_row : (s : State) (w : ℕ) (r : Reply) (a b c d : Bool) (ms : List Move) → Allows (pick_row a b c d ms (picks s w reply.Idle)) reply.Idle
    → Allows (pick_row a b c d ms (picks s w r)) r → (is_picked r ≡ true → any_listed (can_take s w) s.tasks ≡ true) → (b ≡ false) × (r ≡ reply.Idle)
idle_row s w r true b c d ms p q g = absurd (cc)
idle_row s w r false true c d ms p q g = absurd (cc)
idle_row s w r false false true d ms p q g = (refl, q)
idle_row s w r false false false true ms p q g = absurd (cc)
idle_row s w r false false false false ms p q g = (refl, picks_idle s w r (λ e. let yes = g e in let no = only_if _ p in absurd (cc)) q)

-- where a pick may find no task it gives none, and the worker runs none
idle_pick : (s : State) (w : ℕ) (r : Reply) → IsNext s (entry w op.Pick reply.Idle) → IsNext s (entry w op.Pick r)
    → (any_listed (runs_on w) s.tasks ≡ false) × (r ≡ reply.Idle)
idle_pick s w r p n = idle_row s w r _ _ _ _ (stops w ∷ []) p.allowed n.allowed (could_take s w r n)

-- The task of a worker's other ops

abbrev Runs : State → ℕ → ℕ → Kind → (Task → Type 0) → Type 0
Runs s w h k P = (x : Task) × HasTask s w h x k × P x

module _ (s : State) (w : ℕ) (t : TaskHandle) where
  finish_runs : (done : Answered) {ms : List Move} → Answers s w (op.Finish t done) reply.Ok ms → Runs s w t.0 done.kind (λ x. Unit {0})
  finish_runs _ (is.finishes _ done x k u) = (x, k, tt)

  asked_runs : (b : Bool) {ms : List Move} → Answers s w (op.Asked t) (reply.Asked b) ms → Runs s w t.0 kinds.Watch (λ x. Unit {0})
  asked_runs _ (is.asks _ x k u) = (x, k, tt)

  watch_runs : (e : TaskEnd) {ms : List Move} → Answers s w (op.WatchEnd t) (reply.Ended e) ms → Runs s w t.0 kinds.Watch (λ x. Unit {0})
  watch_runs _ (is.ends_watch _ x k u) = (x, k, tt)

  lock_runs : (b : Bool) {ms : List Move} → Answers s w (op.TallyLock t) (reply.Asked b) ms → Runs s w t.0 kinds.Tally (λ x. Unit {0})
  lock_runs _ (is.lock_fails _ x c k z g) = (x, k, tt)
  lock_runs _ (is.lock_got _ x y a b k z h) = (x, k, tt)

  pending_runs : {ms : List Move} → Answers s w (op.TallyLock t) reply.Pending ms → Runs s w t.0 kinds.Tally (λ x. (x.notes.tally.stage == 0) ≡ true)
  pending_runs (is.lock_early _ x k z) = (x, k, z)

  read_runs : (z : ℤ) {ms : List Move} → Answers s w (op.TallyRead t) (reply.Number z) ms → Runs s w t.0 kinds.Tally (λ x. (x.notes.tally.stage == 0) ≡ false)
  read_runs _ (is.tally_reads _ x y k z f) = (x, k, grind (arith, nat_tests))

  write_runs : (v : ℤ) {ms : List Move} → Answers s w (op.TallyWrite t v) reply.Ok ms → Runs s w t.0 kinds.Tally (λ x. (x.notes.tally.stage == 0) ≡ false)
  write_runs _ (is.tally_writes _ v x y k z f) = (x, k, grind (arith, nat_tests))

  end_runs : (e : TaskEnd) {ms : List Move} → Answers s w (op.TallyEnd t) (reply.Ended e) ms
      → Runs s w t.0 kinds.Tally (λ x. (x.notes.tally.stage == 0) ≡ false)
  end_runs _ (is.tally_ends_failed _ x k z) = (x, k, grind (arith, nat_tests))
  end_runs _ (is.tally_ends _ x y z k early late f g) = (x, k, grind (arith, nat_tests))

runs_here : (w : ℕ) (k : Kind) (x : Task) → runs_as w k x ≡ true → runs_on w x ≡ true
runs_here w k x e1 = grind (arith, nat_tests)

-- a worker that runs no task makes none of these ops
no_task : (s : State) (w h : ℕ) (k : Kind) (P : Task → Type 0) → any_listed (runs_on w) s.tasks ≡ false → Runs s w h k P → ⊥
no_task s w h k P none r = none_that (runs_on w) s.tasks h r.0 none r.1.found (runs_here w k r.0 r.1.runs)

-- and so what a worker makes that may find no task is answered Idle
pub idle_work : (s : State) (w : ℕ) (o : Op) (r : Reply) → IsNext s (entry w op.Pick reply.Idle) → is_work o r ≡ true → IsNext s (entry w o r) → r ≡ reply.Idle
idle_work s w op.Pick r p e n = (idle_pick s w r p n).1
idle_work s w (op.Finish t done) reply.Ok p e n =
    absurd (no_task s w t.0 done.kind (λ x. Unit {0}) (idle_pick s w reply.Idle p p).0
    (finish_runs s w t done (answered s w (op.Finish t done) reply.Ok n.allowed)))
idle_work s w (op.Asked t) (reply.Asked b) p e n =
    absurd (no_task s w t.0 kinds.Watch (λ x. Unit {0}) (idle_pick s w reply.Idle p p).0
    (asked_runs s w t b (answered s w (op.Asked t) (reply.Asked b) n.allowed)))
idle_work s w (op.WatchEnd t) (reply.Ended v) p e n =
    absurd (no_task s w t.0 kinds.Watch (λ x. Unit {0}) (idle_pick s w reply.Idle p p).0
    (watch_runs s w t v (answered s w (op.WatchEnd t) (reply.Ended v) n.allowed)))
idle_work s w (op.TallyLock t) (reply.Asked b) p e n =
    absurd (no_task s w t.0 kinds.Tally (λ x. Unit {0}) (idle_pick s w reply.Idle p p).0
    (lock_runs s w t b (answered s w (op.TallyLock t) (reply.Asked b) n.allowed)))
idle_work s w (op.TallyLock t) reply.Pending p e n =
    absurd (no_task s w t.0 kinds.Tally (λ x. (x.notes.tally.stage == 0) ≡ true) (idle_pick s w reply.Idle p p).0
    (pending_runs s w t (answered s w (op.TallyLock t) reply.Pending n.allowed)))
idle_work s w (op.TallyRead t) (reply.Number z) p e n =
    absurd (no_task s w t.0 kinds.Tally (λ x. (x.notes.tally.stage == 0) ≡ false) (idle_pick s w reply.Idle p p).0
    (read_runs s w t z (answered s w (op.TallyRead t) (reply.Number z) n.allowed)))
idle_work s w (op.TallyWrite t v) reply.Ok p e n =
    absurd (no_task s w t.0 kinds.Tally (λ x. (x.notes.tally.stage == 0) ≡ false) (idle_pick s w reply.Idle p p).0
    (write_runs s w t v (answered s w (op.TallyWrite t v) reply.Ok n.allowed)))
idle_work s w (op.TallyEnd t) (reply.Ended v) p e n =
    absurd (no_task s w t.0 kinds.Tally (λ x. (x.notes.tally.stage == 0) ≡ false) (idle_pick s w reply.Idle p p).0
    (end_runs s w t v (answered s w (op.TallyEnd t) (reply.Ended v) n.allowed)))
idle_work s w _ _ p e n = absurd (cc)

-- What a worker may make whose tally waits for its mutex

busy_row : (s : State) (w : ℕ) (r : Reply) (a b c d : Bool) (ms : List Move) → b ≡ true → Allows (pick_row a b c d ms (picks s w r)) r
    → r ≡ reply.Mtapi m.ErrParameter
busy_row s w r true b c d ms e q = q
busy_row s w r false true c d ms e q = q
busy_row s w r false false c d ms e q = absurd (cc)

busy_pick : (s : State) (w : ℕ) (r : Reply) → any_listed (runs_on w) s.tasks ≡ true → IsNext s (entry w op.Pick r) → r ≡ reply.Mtapi m.ErrParameter
busy_pick s w r e n = busy_row s w r _ _ _ _ (stops w ∷ []) e n.allowed

pick_works : (r : Reply) → is_work op.Pick r ≡ true → r ≡ reply.Mtapi m.ErrParameter → ⊥
pick_works r e is = let no : is_work op.Pick r ≡ false = ap (λ (x : Reply). is_work op.Pick x) is in absurd (cc)

-- where at most one passes, two that do have one handle
one_handle : {T : Type 0} (p : T → Bool) (l : List (Listed T)) (h k : ℕ) (x y : T) → count_listed p l ≤ 1 → live_object l h ≡ Some x → live_object l k ≡ Some y
    → p x ≡ true → p y ≡ true → h ≡ k
unfolding live_of
one_handle p [] h k x y c e f i j = absurd (cc)
one_handle p (r ∷ rs) h k x y c e f i j = grind (arith, nat_tests, one_handle p rs h k x y, found_count p rs h x, found_count p rs k y, some_same)

kinds_clash : (w n : ℕ) (o : Option (ℕ × Kind)) → holds (λ r. (r.0 == w) && (kind_number r.1 == n)) o ≡ true
    → holds (λ r. (r.0 == w) && (kind_number r.1 == 10)) o ≡ true → n ≡ 10
kinds_clash w n None a b = absurd (cc)
kinds_clash w n (Some r) a b = grind (arith, nat_tests)

not_pure : (k : Kind) → kind_number k ≡ 10 → is_pure k ≡ true → ⊥
not_pure kinds.Tally e p = absurd (cc)
not_pure kinds.Watch e p = absurd (cc)
not_pure _ e p = absurd (omega (arith, e))

-- the worker runs this tally, which has done nothing yet, and nothing else
module _ (s : State) (w : ℕ) (t : TaskHandle) (one : AtMostOne w s) (mine : Runs s w t.0 kinds.Tally (λ x. (x.notes.tally.stage == 0) ≡ true)) where
  abbrev runs_it : runs_on w mine.0 ≡ true
  runs_it = runs_here w kinds.Tally mine.0 mine.1.runs

  is_busy : any_listed (runs_on w) s.tasks ≡ true
  is_busy = any_that (runs_on w) s.tasks t.0 mine.0 mine.1.found runs_it

  same : (h : ℕ) (k : Kind) (P : Task → Type 0) (r : Runs s w h k P) → r.0 ≡ mine.0
  same h k P r = one_passes (runs_on w) s.tasks h t.0 r.0 mine.0 one r.1.found mine.1.found (runs_here w k r.0 r.1.runs) runs_it

  kind_is : (h : ℕ) (k : Kind) (P : Task → Type 0) → Runs s w h k P → kind_number k ≡ 10
  kind_is h k P r =
      kinds_clash w (kind_number k) (runner mine.0.state) (subst (λ (x : Task). runs_as w k x ≡ true) (same h k P r) r.1.runs) mine.1.runs

  no_watch : (h : ℕ) (P : Task → Type 0) → Runs s w h kinds.Watch P → ⊥
  no_watch h P r = let e : 9 ≡ 10 = kind_is h kinds.Watch P r in omega (arith, e)

  not_on : (h : ℕ) → Runs s w h kinds.Tally (λ x. (x.notes.tally.stage == 0) ≡ false) → ⊥
  not_on h r =
      let no : (mine.0.notes.tally.stage == 0) ≡ false =
      subst (λ (x : Task). (x.notes.tally.stage == 0) ≡ false) (same h kinds.Tally (λ x. (x.notes.tally.stage == 0) ≡ false) r) r.2 in
      let yes = mine.2 in absurd (cc)

  same_handle : (u : TaskHandle) (P : Task → Type 0) → Runs s w u.0 kinds.Tally P → u ≡ t
  same_handle u P r =
      ap (λ (h : ℕ). record { 0 = h })
      (one_handle (runs_on w) s.tasks u.0 t.0 r.0 mine.0 one r.1.found mine.1.found (runs_here w kinds.Tally r.0 r.1.runs) runs_it)

  tally_waits : (o : Op) (r : Reply) → IsNext s (entry w (op.TallyLock t) reply.Pending) → is_work o r ≡ true → IsNext s (entry w o r) → r ≡ reply.Pending
  tally_waits op.Pick r p e n = absurd (pick_works r e (busy_pick s w r is_busy n))
  tally_waits (op.Finish u done) reply.Ok p e n =
      absurd (not_pure done.kind (kind_is u.0 done.kind (λ x. Unit {0})
      (finish_runs s w u done (answered s w (op.Finish u done) reply.Ok n.allowed))) n.honest.pure)
  tally_waits (op.Asked u) (reply.Asked b) p e n =
      absurd (no_watch u.0 (λ x. Unit {0}) (asked_runs s w u b (answered s w (op.Asked u) (reply.Asked b) n.allowed)))
  tally_waits (op.WatchEnd u) (reply.Ended v) p e n =
      absurd (no_watch u.0 (λ x. Unit {0}) (watch_runs s w u v (answered s w (op.WatchEnd u) (reply.Ended v) n.allowed)))
  tally_waits (op.TallyLock u) (reply.Asked b) p e n =
      pending_alone s w (op.TallyLock t) (reply.Asked b) p
      (subst (λ (x : TaskHandle). IsNext s (entry w (op.TallyLock x) (reply.Asked b)))
      (same_handle u (λ x. Unit {0}) (lock_runs s w u b (answered s w (op.TallyLock u) (reply.Asked b) n.allowed))) n)
  tally_waits (op.TallyLock u) reply.Pending p e n = refl
  tally_waits (op.TallyRead u) (reply.Number z) p e n = absurd (not_on u.0 (read_runs s w u z (answered s w (op.TallyRead u) (reply.Number z) n.allowed)))
  tally_waits (op.TallyWrite u v) reply.Ok p e n = absurd (not_on u.0 (write_runs s w u v (answered s w (op.TallyWrite u v) reply.Ok n.allowed)))
  tally_waits (op.TallyEnd u) (reply.Ended v) p e n = absurd (not_on u.0 (end_runs s w u v (answered s w (op.TallyEnd u) (reply.Ended v) n.allowed)))
  tally_waits _ _ p e n = absurd (cc)

-- what a worker makes whose tally waits is answered Pending
pub tally_work : (s : State) (w : ℕ) (t : TaskHandle) (o : Op) (r : Reply) → AtMostOne w s → IsNext s (entry w (op.TallyLock t) reply.Pending)
    → is_work o r ≡ true
    → IsNext s (entry w o r) → r ≡ reply.Pending
tally_work s w t o r one p e n = tally_waits s w t one (pending_runs s w t (answered s w (op.TallyLock t) reply.Pending p.allowed)) o r p e n

work_alike : (s : State) (who : ℕ) (o : Op) → is_work o reply.Pending ≡ true → pends_alike s who o ≡ true
work_alike s who (op.TaskLook t last) e = absurd (cc)
work_alike s who _ e = refl

-- and such an entry is left out
pub work_drops : (s : State) (who : ℕ) (o : Op) (r : Reply) → is_work o r ≡ true → (r ≡ reply.Idle) ⊎ (r ≡ reply.Pending) → is_dropped s (entry who o r) ≡ true
work_drops s who o r e (inl i) = ap (λ (x : Reply). drops (pends_alike s who o) x) i
work_drops s who o r e (inr i) = ap (λ (x : Reply). drops (pends_alike s who o) x) i ∙ work_alike s who o (subst (λ (x : Reply). is_work o x ≡ true) i e)

-- a worker is told to stop by no pick that may find no task, and by none while it runs one
pub no_stop_idle : (s : State) (w : ℕ) → IsNext s (entry w op.Pick reply.Idle) → IsNext s (entry w op.Pick reply.Stop) → ⊥
no_stop_idle s w p n = let e = (idle_pick s w reply.Stop p n).1 in cc

pub no_stop_busy : (s : State) (w : ℕ) (t : TaskHandle) → AtMostOne w s → IsNext s (entry w (op.TallyLock t) reply.Pending)
    → IsNext s (entry w op.Pick reply.Stop) → ⊥
no_stop_busy s w t one p n =
    let e = busy_pick s w reply.Stop (is_busy s w t one (pending_runs s w t (answered s w (op.TallyLock t) reply.Pending p.allowed))) n in cc

close_said : (s : State) (who : ℕ) (r : Reply) {ms : List Move} → Answers s who op.Close r ms → is_pending r ≡ false
close_said s who _ (is.refuses o x e) = refl
close_said s who _ (is.refuses_caller o x e) = refl
close_said s who _ (is.closes_node e) = refl

-- a close is never answered Pending
pub close_decides : (s : State) (who : ℕ) (r : Reply) → IsNext s (entry who op.Close r) → is_pending r ≡ false
close_decides s who r n = close_said s who r (answered s who op.Close r n.allowed)
