-- What the entries of other seats leave to a seat.
use Rattle.history_law.proofs.Names.{◌≡◌, ◌≢◌, ℕ, zero, suc, Bool, true, false, List, [], ◌∷◌, Some, None, refl, sym, ◌∙◌, ap, subst, arith, ◌==◌, ◌&&◌, not, slice_set, nat_tests, TaskEnd, marked, holds, Op, Reply, Terms, Listed, live_object, count_listed, with_fields, gone, is_member, in_no_group, let_go, Task, Notes, with_notes, TaskState, Scheduled, Running, Ended, runner, runs_on, is_unstarted, is_unended, State, opening, NodeEntry, next, LegalFrom, Legal, after_from, after, end_at, moves_phase, is_release_op, is_late_end, IsWaiter, WaitsFor, OnceListed, Work, RunsWith, IsUntouched, Others, WorkerKeeps, NoPhase, NoRelease, Move, phase_is, released, stops, runs_task, ends_task, notes, leaves, apply, after_moves, fst_true, snd_true, not_true, rest_keeps, some_same, eq-eqb, Answers, IsNext}
use Rattle.history_law.proofs.Reuse.{terms_next}
use Rattle.history_law.proofs.SeatMoves.{Noted, May, MayEnd, is_any_look, by_moves, answer, kept_along}
pub use Rattle.history_law.proofs.TaskMoves.{same_found}
use Rattle.history_law.proofs.TaskMoves.{IsKept, every_moved, StaysLive, found_moved}
use Rattle.mtapi_machine.specs.Answers as is
use Rattle.history_law.proofs.Moves.{once_along, once_from}
use Rattle.history_law.proofs.lists.Members.{IsEnding, all_endings}
use Rattle.history_law.proofs.lists.Every.{Each, Every, every_at}
use Rattle.history_law.proofs.lists.Found.{FoundAs, found_changed}
use Rattle.history_law.proofs.TaskSteps as step
use Rattle.history_law.proofs.TaskSteps.{Step, tasks_go, many_steps}
use Rattle.history_law.proofs.Answered.{whether, true_false}

-- The mark of a waiter

-- a task in no group is a member of none
no_member : (g : ℕ) (t : Task) → t.notes.group ≡ None → is_member g t ≡ false
no_member g t e = ap (holds (λ h. h == g)) e

waits_stay : (w h who : ℕ) (o : Op) → who ≢ w → is_any_look o ≡ false → StaysLive (IsWaiter w) who h o
waits_stay w h who o e1 e2 = grind (arith, nat_tests)

-- The work of a worker

pub runs_scheduled : (w : ℕ) (t : Task) → is_unstarted t ≡ true → runs_on w t ≡ false
runs_scheduled w t e1 = grind (arith, nat_tests)

pub runs_over : (w : ℕ) (t : Task) → is_unended t ≡ false → runs_on w t ≡ false
runs_over w t e1 = grind (arith, nat_tests)

may_end_apart : (w who : ℕ) (t : Task) → who ≢ w → MayEnd who t → runs_on w t ≡ false
may_end_apart w who t e1 e2 = grind (arith, nat_tests)

apart_seats : (y who w : ℕ) → y ≡ who → who ≢ w → (y == w) ≡ false
apart_seats y who w e n = subst (λ (v : ℕ). (v == w) ≡ false) (sym e) (grind (arith, nat_tests))

-- a member that is let go of runs as before
goes_alike : (w : ℕ) (r : Listed Task) → ((let_go r).live && runs_on w (let_go r).fields) ≡ (r.live && runs_on w r.fields)
goes_alike w r = grind (arith, nat_tests)

-- a worker gets a task, and a task ends
abbrev pub turns_worker : Move → Bool
turns_worker (runs_task h w k) = true
turns_worker (ends_task h e) = true
turns_worker _ = false

not_live : (a b c : Bool) → a ≡ true → b ≡ false → ((a && c) && false) ≡ (a && b)
not_live a b c e1 e2 = grind (arith, nat_tests)

-- the other moves leave how many tasks run on a worker
other_step : (w who : ℕ) (o : Op) (s : State) (r : Listed Task) (m : Move) (q : Listed Task) → Step s r m q → turns_worker m ≡ false → May s who o m
    → (q.live && runs_on w q.fields) ≡ (r.live && runs_on w r.fields)
other_step w who o s r _ _ (step.stays m) n k = refl
other_step w who o s r _ _ (step.runs j y z a i e) n k = true_false refl n
other_step w who o s r _ _ (step.ends j x a i e) n k = true_false refl n
other_step w who o s r _ _ (step.waited p x m a u i) n k = not_live r.live _ _ a (runs_scheduled w r.fields (fst_true _ _ u))
other_step w who o s r _ _ (step.left j f c m a u i) n k = not_live r.live _ _ a (runs_scheduled w r.fields (fst_true _ _ u))
other_step w who o s r _ _ (step.noted j f a i e) n k = refl
other_step w who o s r _ _ (step.goes j a i e) n k = grind (arith, nat_tests, runs_over w r.fields, some_same (sym k.1 ∙ e), is_unended)
other_step w who o s r _ _ (step.freed_of g a u) n k = λ x. sym a x && sym (runs_over w r.fields (not_true _ (snd_true (is_member g r.fields) _ u))) x
other_step w who o s r _ _ (step.let_go_of g a u) n k = goes_alike w r

pub other_count : (w who : ℕ) (o : Op) (s : State) (x : Move) → turns_worker x ≡ false → May s who o x
    → count_listed (runs_on w) (apply x s).tasks ≡ count_listed (runs_on w) s.tasks
other_count w who o s x n k = grind (arith, nat_tests, other_step w who o s, tasks_go s x, many_steps, runs_on)

work_step : (w who : ℕ) (o : Op) → who ≢ w → (s : State) (r : Listed Task) (m : Move) (q : Listed Task) → Step s r m q → May s who o m
    → (q.live && runs_on w q.fields) ≡ (r.live && runs_on w r.fields)
work_step w who o e1 s r m q e2 e3 = grind
    (arith, nat_tests, runs_scheduled w r.fields, not_live r.live, may_end_apart w who r.fields, other_step w who o s r m q, apart_seats, some_same)

work_count : (w who : ℕ) (o : Op) → who ≢ w → (s : State) (x : Move) → May s who o x
    → count_listed (runs_on w) (apply x s).tasks ≡ count_listed (runs_on w) s.tasks
work_count w who o d s x k = grind (arith, nat_tests, work_step w who o d s, tasks_go s x, many_steps, runs_on)

runs_here : (w : ℕ) (q : Work) (t : Task) → RunsWith w q t → runs_on w t ≡ true
runs_here w q t i = ap (λ (x : TaskState). holds (λ r. r.0 == w) (runner x)) i.state ∙ eq-eqb w w refl

noted_runs : (w who : ℕ) (q : Work) (f : Notes → Notes) (t : Task) → who ≢ w → Noted who f t → RunsWith w q t → RunsWith w q (with_notes f t)
noted_runs w who q f t e1 e2 e3 = grind (arith, nat_tests)

runs_stay_live : (w h : ℕ) (q : Work) (who : ℕ) (o : Op) → who ≢ w → StaysLive (RunsWith w q) who h o
runs_stay_live w h q who o n = grind (arith, nat_tests, true_false, runs_here, runs_scheduled, may_end_apart, noted_runs)

-- Lists of entries by other seats

other_head : (w : ℕ) (e : NodeEntry) (es : List NodeEntry) → Others w (e ∷ es) → (e.who ≢ w) × Others w es
other_head w e es e1 = grind (arith, nat_tests)

-- a member that leaves its group and goes isn't the task of a waiter
left_apart : (w h : ℕ) (s : State) (g j : ℕ) (x : Task) → live_object s.tasks j ≡ Some x → is_member g x ≡ true → WaitsFor s w h
    → WaitsFor (after_moves (notes j in_no_group ∷ leaves j ∷ []) s) w h
left_apart w h s g j x e m v =
    let u = found_changed (IsWaiter w) j h (with_fields (with_notes in_no_group)) (λ r. refl) s.tasks v.0 v.1 v.2 (λ r i a f. absurd (apart i)) in
    found_changed (IsWaiter w) j h gone (λ r. refl) _ u.0 u.1 u.2 (λ r i a f. absurd (apart i))
  where
    apart : j ≡ h → ⊥
    apart i = true_false m (no_member g x (ap (λ (t : Task). t.notes.group) (same_found s j h i x v.0 e v.1) ∙ v.2.alone))

-- a look at a group gives a member, and no seat waits for one
any_by : (w h : ℕ) (s : State) (who : ℕ) (o : Op) (r : Reply) (ms : List Move) → is_any_look o ≡ true → OnceListed s → WaitsFor s w h → Answers s who o r ms
    → WaitsFor (after_moves ms s) w h
any_by w h s who _ _ _ b o v (is.refuses p x e) = v
any_by w h s who _ _ _ b o v (is.refuses_caller p x e) = v
any_by w h s who _ _ _ b o v (is.any_early g x e d) = v
any_by w h s who _ _ _ b o v (is.any_late g) = v
any_by w h s who _ _ _ b o v (is.any_given g last x y ys t z n e d f i) =
    left_apart w h s g.0 y.task t f ((subst (Each (IsEnding g.0 s.tasks)) d (all_endings g.0 s.tasks o)).0.member t f) v
any_by w h s who _ _ _ b o v _ = true_false b refl

pub once_stays : (s : State) (L : List NodeEntry) → OnceListed s → OnceListed (after_from s L)
once_stays s L o = once_along s L o

pub once_after : (terms : Terms) (L : List NodeEntry) → Legal terms L → OnceListed (after terms L)
once_after terms L l = once_from terms L

-- what each entry of another seat keeps, a list of them keeps
by_others : (w : ℕ) (P : State → Type 0) → ((s : State) (e : NodeEntry) → IsNext s e → e.who ≢ w → P s → P (next s e)) → (s : State) (L : List NodeEntry)
    → LegalFrom s L → Others w L → P s → P (after_from s L)
unfolding LegalFrom after_from
by_others w P k s [] l o v = v
by_others w P k s (e ∷ es) l o v = let q = other_head w e es o in by_others w P k (next s e) es l.1 q.1 (k s e l.0 q.0 v)

once_then : (s : State) (e : NodeEntry) → OnceListed s → OnceListed (next s e)
unfolding after_from
once_then s e o = once_stays s (e ∷ []) o

pub waiter_stays : (s : State) (L : List NodeEntry) (w h : ℕ) → OnceListed s → LegalFrom s L → Others w L → WaitsFor s w h → WaitsFor (after_from s L) w h
waiter_stays s L w h n l o v =
    (by_others w (λ t. OnceListed t × WaitsFor t w h)
    (λ t e i a x. (
      once_then t e x.0,
      whether (is_any_look e.op) (λ b. any_by w h t e.who e.op e.reply _ b x.0 x.1 (answer t e i))
          (λ b. by_moves (λ u. WaitsFor u w h) t e i (found_moved (IsWaiter w) e.who h e.op (waits_stay w h e.who e.op a b)) x.1),
    )) s L l o (n, v)).1

count_stays : (s : State) (L : List NodeEntry) (w : ℕ) → LegalFrom s L → Others w L
    → count_listed (runs_on w) (after_from s L).tasks ≡ count_listed (runs_on w) s.tasks
count_stays s L w l o =
    by_others w (λ t. count_listed (runs_on w) t.tasks
    ≡ count_listed (runs_on w) s.tasks) (λ t e i a v. by_moves (λ u. count_listed (runs_on w) u.tasks
    ≡ count_listed (runs_on w) s.tasks) t e i (λ u x k y. work_count w e.who e.op a u x k ∙ y) v) s L l o refl

runs_stay : (s : State) (L : List NodeEntry) (w h : ℕ) (q : Work) → LegalFrom s L → Others w L → FoundAs (RunsWith w q) s.tasks h
    → FoundAs (RunsWith w q) (after_from s L).tasks h
runs_stay s L w h q l o v =
    by_others w (λ t. FoundAs (RunsWith w q) t.tasks h)
    (λ t e i a x. by_moves (λ u. FoundAs (RunsWith w q) u.tasks h) t e i
    (found_moved (RunsWith w q) e.who h e.op (runs_stay_live w h q e.who e.op a)) x) s L l o v

pub work_stays : (s : State) (L : List NodeEntry) (w : ℕ) → LegalFrom s L → Others w L → WorkerKeeps s (after_from s L) w
work_stays s L w l o = record {
  holds = λ h q v.
      let x = runs_stay s L w h q l o (v.task, v.found, v.runs) in
      record { task = x.0; found = x.1; runs = x.2; alone = count_stays s L w l o ∙ v.alone };
  free = λ v. count_stays s L w l o ∙ v;
}

-- The phase and the release

phase_move : (who : ℕ) (o : Op) → moves_phase o ≡ false → (s t : State) (x : Move) → May t who o x → t.phase ≡ s.phase → (apply x t).phase ≡ s.phase
phase_move who o n s t (phase_is p) k v = true_false k n
phase_move who o n s t x k v = rest_keeps (λ u. u.phase ≡ s.phase) (λ t g q m c r y p. p) x t v

pub phase_stays : (s : State) (L : List NodeEntry) → LegalFrom s L → NoPhase L → (after_from s L).phase ≡ s.phase
unfolding LegalFrom after_from
phase_stays s [] l n = refl
phase_stays s (e ∷ es) l n = phase_stays (next s e) es l.1 n.1 ∙ by_moves (λ t. t.phase ≡ s.phase) s e l.0 (phase_move e.who e.op n.0 s) refl

pub release_move : (who : ℕ) (o : Op) → is_release_op o ≡ false → (s t : State) (x : Move) → May t who o x → t.released ≡ s.released
    → (apply x t).released ≡ s.released
release_move who o n s t released k v = true_false k n
release_move who o n s t x k v = rest_keeps (λ u. u.released ≡ s.released) (λ t g q m c r y p. p) x t v

pub release_stays : (s : State) (L : List NodeEntry) → LegalFrom s L → NoRelease L → (after_from s L).released ≡ s.released
unfolding LegalFrom after_from
release_stays s [] l n = refl
release_stays s (e ∷ es) l n = release_stays (next s e) es l.1 n.1 ∙ by_moves (λ t. t.released ≡ s.released) s e l.0 (release_move e.who e.op n.0 s) refl

-- No task ends with TIMEOUT

-- of each listed task: its end isn't TIMEOUT, and neither is how its tally would end
abbrev pub in_time : TaskState → Bool
in_time Scheduled = true
in_time (Running w k) = true
in_time (Ended e n) = not (is_late_end e)

pub record InTime (t : Task) : Type 0 where
  pub state : in_time t.state ≡ true
  pub verdict : is_late_end t.notes.tally.verdict ≡ false

time_kept : (who : ℕ) (o : Op) → IsKept InTime who o
time_kept who o = grind (arith, nat_tests)

pub time_after : (s : State) (L : List NodeEntry) → LegalFrom s L → Every InTime s.tasks → Every InTime (after_from s L).tasks
time_after s L l v = kept_along (λ t. Every InTime t.tasks)
    (λ t e i. by_moves (λ u. Every InTime u.tasks) t e i (every_moved InTime e.who e.op (time_kept e.who e.op))) s L l v

-- so does the end in the first record under a handle
ended_late : (h : ℕ) (e : TaskEnd) (l : List (Listed Task)) → Every InTime l → end_at l h ≡ Some e → is_late_end e ≡ false
unfolding end_at
ended_late h e [] v i = absurd (cc)
ended_late h e (r ∷ rs) v i = grind (arith, nat_tests, ended_late h e rs v.1, v.0.state, not_true)

pub no_late_end : (terms : Terms) (L : List NodeEntry) (h : ℕ) (e : TaskEnd) → Legal terms L → end_at (after terms L).tasks h ≡ Some e → is_late_end e ≡ false
no_late_end terms L h e l i = ended_late h e (after terms L).tasks (time_after (opening terms) L l.from tt) i

-- A task that hasn't begun is untouched

abbrev Clean : Task → Type 0
Clean t = is_unstarted t ≡ true → IsUntouched t

noted_clean : (who : ℕ) (f : Notes → Notes) (t : Task) → Noted who f t → Clean t → Clean (with_notes f t)
noted_clean who f t e1 e2 = grind (arith, nat_tests)

clean_kept : (who : ℕ) (o : Op) → IsKept Clean who o
clean_kept who o = grind (arith, nat_tests, true_false, noted_clean)

clean_after : (s : State) (L : List NodeEntry) → LegalFrom s L → Every Clean s.tasks → Every Clean (after_from s L).tasks
clean_after s L l v = kept_along (λ t. Every Clean t.tasks)
    (λ t e i. by_moves (λ u. Every Clean u.tasks) t e i (every_moved Clean e.who e.op (clean_kept e.who e.op))) s L l v

pub unstarted_untouched : (terms : Terms) (L : List NodeEntry) (h : ℕ) (t : Task) → Legal terms L → live_object (after terms L).tasks h ≡ Some t
    → is_unstarted t ≡ true → IsUntouched t
unstarted_untouched terms L h t l a i = every_at Clean (after terms L).tasks h t (clean_after (opening terms) L l.from tt) a i

-- The terms stay

pub terms_stay : (s : State) (L : List NodeEntry) → LegalFrom s L → (after_from s L).terms ≡ s.terms
terms_stay s L l = kept_along (λ t. t.terms ≡ s.terms) (λ t e i v. terms_next s.terms t e v) s L l refl

-- The marks of stopped workers stay

pub set_keeps : (l : List Bool) (w y : ℕ) → marked w l ≡ true → marked w (slice_set l y true) ≡ true
set_keeps [] w y e = absurd (cc)
set_keeps (b ∷ bs) zero zero e = refl
set_keeps (b ∷ bs) zero (suc y) e = e
set_keeps (b ∷ bs) (suc w) zero e = e
set_keeps (b ∷ bs) (suc w) (suc y) e = set_keeps bs w y e

stopped_move : (w who : ℕ) (o : Op) (s : State) (x : Move) → May s who o x → marked w s.stopped ≡ true → marked w (apply x s).stopped ≡ true
stopped_move w who o s (stops y) k v = set_keeps s.stopped w y v
stopped_move w who o s x k v = rest_keeps (λ t. marked w t.stopped ≡ true) (λ t g q m c r y p. p) x s v

pub stopped_stays : (s : State) (L : List NodeEntry) (w : ℕ) → LegalFrom s L → marked w s.stopped ≡ true → marked w (after_from s L).stopped ≡ true
stopped_stays s L w l v = kept_along (λ t. marked w t.stopped
    ≡ true) (λ t e i. by_moves (λ u. marked w u.stopped ≡ true) t e i (stopped_move w e.who e.op)) s L l v
